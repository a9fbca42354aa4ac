-- `first_place` meets its contract. Invariant and laws are in Seeking. Assumes nothing.
use Rattle.placing.proofs.Seeking.{SeekingAll}
use Rattle.placing.proofs.first_place.Given as goal

abbrev pub invariant-loop-i : goal.invariant-loop-i
invariant-loop-i g l = SeekingAll l.list (goal.F-post g l.test) l.i
