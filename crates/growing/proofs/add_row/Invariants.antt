-- `growing::add_row` meets its contract. The invariant: record i is joined with those that the order names before k. Assumes nothing.
use Rattle.growing.proofs.Rows.{RowGone}
use Rattle.growing.proofs.add_row.Given as goal

abbrev pub invariant-loop-k : goal.invariant-loop-k
invariant-loop-k l = RowGone l.job l.start l.way l.w l.side l.end l.size l.i l.b l.initial.arena l.first l.arena l.n l.k
