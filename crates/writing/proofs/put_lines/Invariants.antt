-- `writing::put_lines` meets its contract: each turn puts one line of the flat numbers. Assumes nothing.
use Rattle.writing.proofs.Lines.{Ruling}
use Rattle.writing.proofs.put_lines.Given as goal

abbrev pub invariant-loop-i : goal.invariant-loop-i
invariant-loop-i l = Ruling l.count l.width l.flat l.initial.out l.at l.out l.i l.from l.next
