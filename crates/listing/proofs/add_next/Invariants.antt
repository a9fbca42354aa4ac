-- `listing::add_next` meets its contract. The invariant: the types from t on have been followed, and class p has none of them. Assumes nothing.
use Rattle.listing.proofs.Laws.{Following}
use Rattle.listing.proofs.add_next.Given as goal

abbrev pub invariant-loop-t : goal.invariant-loop-t
invariant-loop-t l = Following l.job l.least l.initial.arena l.first l.half l.p l.arena l.n l.t
