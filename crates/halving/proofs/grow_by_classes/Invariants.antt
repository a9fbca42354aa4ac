-- `halving::grow_by_classes` meets its contract. The invariant: all first halves before p have been joined. Assumes nothing.
use Prim.Native.Nat.{◌-◌}
use lib.ListN.{take}
use Rattle.halving.proofs.Laws.{Walking}
use Rattle.halving.proofs.grow_by_classes.Given as goal

abbrev pub invariant-loop-p : goal.invariant-loop-p
invariant-loop-p l = Walking l.job l.least l.initial.arena l.start (take l.job.count l.counts) l.arena l.n l.p

abbrev pub decreases-loop-p : goal.decreases-loop-p
decreases-loop-p l = l.half - l.p
