use native.Mathlib.Omega.{arith}
use Rattle.writing.proofs.Lines.{ruling_first, ruling_there, ruling_room, ruling_next, ruling_done}
use Rattle.writing.proofs.put_lines.Goals as goal

pub loop-i-init : goal.loop-i-init
loop-i-init c = ruling_first c.requires

pub overflow_add-end : goal.overflow_add-end
overflow_add-end c = omega (arith, ruling_there c.loop-i.invariant c.loop-i-test.true)

pub slice_bounds-put_line-end : goal.slice_bounds-put_line-end
slice_bounds-put_line-end c = omega (arith, ruling_there c.loop-i.invariant c.loop-i-test.true)

pub put_line-next-requires : goal.put_line-next-requires
put_line-next-requires c = ruling_room c.loop-i.invariant c.loop-i-test.true

pub loop-i-preserved : goal.loop-i-preserved
loop-i-preserved c = ruling_next c.loop-i.invariant c.loop-i-test.true c.put_line-next.ensures

pub returns : goal.returns
returns c = ruling_done c.loop-i.invariant c.loop-i-test.false
