-- `weighing::weight_of` meets its contract. Assumes nothing.
use Rattle.weighing.proofs.Laws.{Weighing}
use Rattle.weighing.proofs.weight_of.Given as goal

abbrev pub invariant-loop-i : goal.invariant-loop-i
invariant-loop-i l = Weighing l.types l.fn.counts l.sum l.each l.i
