use Rattle.writing.proofs.Lines.{reaching_first, reaching_next, reaching_beyond, reaching_done}
use Rattle.writing.proofs.place_behind.Goals as goal

pub loop-number-init : goal.loop-number-init
loop-number-init c = reaching_first c.if-size-at.false

pub returns-then-size-next : goal.returns-then-size-next
returns-then-size-next c = reaching_beyond c.loop-number.invariant c.loop-number-test.true c.digit_count-count.ensures c.if-size-next.true

pub loop-number-preserved : goal.loop-number-preserved
loop-number-preserved c = reaching_next c.loop-number.invariant c.loop-number-test.true c.digit_count-count.ensures c.if-size-next.false

pub returns : goal.returns
returns c = reaching_done c.loop-number.invariant c.loop-number-test.false
