-- `profit_of` meets its contract. Invariant and laws are in Summing; a list that the tests let pass is short, so the sum fits. Assumes nothing.
use Rattle.placing.proofs.Summing.{Summing}
use Rattle.placing.proofs.profit_of.Given as goal

abbrev pub invariant-loop-i : goal.invariant-loop-i
invariant-loop-i l = Summing l.job l.list l.i l.total
