-- `classes::find_weighed` meets its contract. Assumes nothing.
use lib.ListN.{take}
use Rattle.classes.proofs.Laws.{Seek}
use Rattle.classes.proofs.find_weighed.Given as goal

abbrev pub invariant-loop-p : goal.invariant-loop-p
invariant-loop-p l = Seek l.types l.arena l.n (take l.types l.counts) l.p

abbrev pub decreases-loop-p : goal.decreases-loop-p
decreases-loop-p l = l.p
