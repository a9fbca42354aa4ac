-- `first_overlap` meets its contract. Invariant and laws are in Overlaps. Assumes nothing.
use Rattle.laying.proofs.Overlaps.{Sparse}
use Rattle.laying.proofs.first_overlap.Given as goal

abbrev pub invariant-loop-i : goal.invariant-loop-i
invariant-loop-i l = Sparse l.boxes l.count l.i
