-- `count_up` meets its contract. Invariant and laws are in Numbering. Assumes nothing.
use Rattle.laying.proofs.Numbering.{Numbering}
use Rattle.laying.proofs.count_up.Given as goal

abbrev pub invariant-loop-i : goal.invariant-loop-i
invariant-loop-i l = Numbering l.initial.order l.order l.i
