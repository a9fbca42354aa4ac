-- `seeking::find_size` meets its contract. Assumes nothing.
use Rattle.seeking.proofs.Opened.{SeekSize}
use Rattle.seeking.proofs.find_size.Given as goal

abbrev pub invariant-loop-p : goal.invariant-loop-p
invariant-loop-p l = SeekSize l.arena l.start l.n l.long l.wide l.p

abbrev pub decreases-loop-p : goal.decreases-loop-p
decreases-loop-p l = l.p
