-- `writing::place_behind` meets its contract: each turn goes past a number and the byte behind it, or stops at the end of the buffer. Assumes nothing.
use Rattle.writing.proofs.Lines.{Reaching}
use Rattle.writing.proofs.place_behind.Given as goal

abbrev pub invariant-loop-number : goal.invariant-loop-number
invariant-loop-number l = Reaching l.numbers l.at l.size l.number-index l.next
