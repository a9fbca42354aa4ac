-- `choice::best` meets its contract. The invariant: record `at` is at least as good as each before i. Assumes nothing.
use Rattle.choice.proofs.Laws.{Leads}
use Rattle.choice.proofs.best.Given as goal

abbrev pub invariant-loop-i : goal.invariant-loop-i
invariant-loop-i l = Leads l.job l.arena l.top l.at l.i
