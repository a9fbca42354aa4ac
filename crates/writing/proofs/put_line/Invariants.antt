-- `writing::put_line` meets its contract: each turn puts a number with the byte that ends it. Assumes nothing.
use Rattle.writing.proofs.Lines.{Lining}
use Rattle.writing.proofs.put_line.Given as goal

abbrev pub invariant-loop-i : goal.invariant-loop-i
invariant-loop-i l = Lining l.numbers l.initial.out l.at l.out l.i l.next
