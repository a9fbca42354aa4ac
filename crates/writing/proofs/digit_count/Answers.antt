use Rattle.writing.proofs.Lines.{counting_first, counting_next, counting_done}
use Rattle.writing.proofs.digit_count.Goals as goal

pub loop-left-init : goal.loop-left-init
loop-left-init c = counting_first c.args.n

pub loop-left-preserved : goal.loop-left-preserved
loop-left-preserved c = counting_next c.loop-left.invariant c.loop-left-test.true

pub returns : goal.returns
returns c = counting_done c.loop-left.invariant c.loop-left-test.false
