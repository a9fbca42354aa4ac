use Rattle.std.proofs.Common.{arith}
use Rattle.placing.proofs.Types.{typed_at}
use Rattle.laying.proofs.Laying.{far_along, far_across, laying_next, laying_end}
use Rattle.laying.proofs.lay_boxes.Goals as goal

pub type_of-t-requires : goal.type_of-t-requires
type_of-t-requires c = typed_at c.requires.on_sheet.typed _ (omega (arith, c.loop-i-test.true, c.placements_in-i-end.ensures)) _ c.entry_at-p.ensures

pub overflow_add-boxes-in-loop-i : goal.overflow_add-boxes-in-loop-i
overflow_add-boxes-in-loop-i c = omega (arith, far_along c.requires c.loop-i.invariant (omega (arith, c.loop-i-test.true, c.placements_in-i-end.ensures)) _ c.entry_at-p.ensures _ c.type_of-t.ensures)

pub overflow_add-boxes-in-loop-i-3 : goal.overflow_add-boxes-in-loop-i-3
overflow_add-boxes-in-loop-i-3 c = omega (arith, far_across c.requires c.loop-i.invariant (omega (arith, c.loop-i-test.true, c.placements_in-i-end.ensures)) _ c.entry_at-p.ensures _ c.type_of-t.ensures)

pub loop-i-preserved : goal.loop-i-preserved
loop-i-preserved c = laying_next c.requires c.loop-i.invariant (omega (arith, c.loop-i-test.true, c.placements_in-i-end.ensures)) _ c.entry_at-p.ensures _ c.type_of-t.ensures

pub returns : goal.returns
returns c = laying_end c.loop-i.invariant (omega (arith, c.loop-i-test.false, c.placements_in-i-end.ensures))
