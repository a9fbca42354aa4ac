-- `writing::put_number` meets its contract: the byte that ends it stands behind the digits. Assumes nothing.
use native.Mathlib.Omega.{arith}
use Rattle.writing.proofs.Lines.{ended_room, ended_place, put_ended}
use Rattle.writing.proofs.put_number.Goals as goal

pub copy-next-requires : goal.copy-next-requires
copy-next-requires c = ended_room c.in_scratch-scratch.ensures _ _ _ c.requires

pub bounds-out-next : goal.bounds-out-next
bounds-out-next c = ended_place c.in_scratch-scratch.ensures _ _ _ c.requires c.copy-next.ensures

pub overflow_add-result : goal.overflow_add-result
overflow_add-result c = omega (arith, ended_place c.in_scratch-scratch.ensures _ _ _ c.requires c.copy-next.ensures)

pub returns : goal.returns
returns c = put_ended c.in_scratch-scratch.ensures _ _ _ c.requires c.copy-next.ensures
