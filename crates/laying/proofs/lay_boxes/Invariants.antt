-- `lay_boxes` meets its contract. Invariant and laws are in Laying; tests 6 and 7 found nothing, so each box is on the sheet. Assumes nothing.
use Rattle.laying.proofs.Laying.{Laying}
use Rattle.laying.proofs.lay_boxes.Given as goal

abbrev pub invariant-loop-i : goal.invariant-loop-i
invariant-loop-i l = Laying l.job l.list l.initial.boxes l.boxes l.i
