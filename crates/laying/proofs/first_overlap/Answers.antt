use Rattle.laying.proofs.Overlaps.{sparse_next, sparse_found, sparse_end}
use Rattle.laying.proofs.first_overlap.Goals as goal

pub returns-then-overlaps_earlier : goal.returns-then-overlaps_earlier
returns-then-overlaps_earlier c = sparse_found c.loop-i.invariant c.loop-i-test.true _ c.overlaps_earlier.ensures c.if-overlaps_earlier.true

pub loop-i-preserved : goal.loop-i-preserved
loop-i-preserved c = sparse_next c.loop-i.invariant c.loop-i-test.true _ c.overlaps_earlier.ensures c.if-overlaps_earlier.false

pub returns : goal.returns
returns c = sparse_end c.loop-i.invariant c.loop-i-test.false
