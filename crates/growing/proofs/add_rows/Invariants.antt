-- `growing::add_rows` meets its contract. The invariant: those of class a that the order names before k are joined with class b. Assumes nothing.
use Rattle.growing.proofs.Rows.{RowsGone}
use Rattle.growing.proofs.add_rows.Given as goal

abbrev pub invariant-loop-k : goal.invariant-loop-k
invariant-loop-k l = RowsGone l.job l.start l.way l.w l.side l.end l.least l.a l.b l.initial.arena l.first l.arena l.n l.k
