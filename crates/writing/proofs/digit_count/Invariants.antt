-- `writing::digit_count` meets its contract: the digits counted and those of what is left are all digits. Assumes nothing.
use Rattle.writing.proofs.Lines.{Counting}
use Rattle.writing.proofs.digit_count.Given as goal

abbrev pub invariant-loop-left : goal.invariant-loop-left
invariant-loop-left l = Counting l.n l.count l.left

abbrev pub decreases-loop-left : goal.decreases-loop-left
decreases-loop-left l = l.left
