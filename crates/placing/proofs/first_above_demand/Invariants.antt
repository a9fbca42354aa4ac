-- `first_above_demand` meets its contract. Invariant and laws are in Counting; no count goes above a demand. Assumes nothing.
use Rattle.placing.proofs.Counting.{Counting}
use Rattle.placing.proofs.first_above_demand.Given as goal

abbrev pub invariant-loop-i : goal.invariant-loop-i
invariant-loop-i l = Counting l.job l.list l.counts l.i
