-- `parts::are_few` meets its contract. Assumes nothing.
use Rattle.parts.proofs.Number.{Counting}
use Rattle.parts.proofs.are_few.Given as goal

abbrev pub invariant-loop-i : goal.invariant-loop-i
invariant-loop-i l = Counting l.types l.fn.counts l.r l.i
