-- `tally::pieces_of` meets its contract. Assumes nothing.
use native.Mathlib.Omega.{arith}
use Rattle.rules.proofs.Tally.{sum_next}
use Rattle.tally.proofs.pieces_of.Goals as goal

pub loop-i-preserved : goal.loop-i-preserved
loop-i-preserved c = (omega (arith, c.loop-i.invariant.0, c.from-r.ensures, sum_next c.loop-i.i c.args.counts), omega (arith, c.loop-i.invariant.1, c.from-r.ensures))
