-- `listing::list_singles` meets its contract. The invariant: the types before t are listed. Assumes nothing.
use Rattle.outlines.proofs.Laws.{SinglesIn}
use Rattle.listing.specs.Queue.{SinglesGrown}
use Rattle.listing.proofs.list_singles.Given as goal

abbrev pub invariant-loop-t : goal.invariant-loop-t
invariant-loop-t l = SinglesGrown l.job (SinglesIn l.job l.t) l.t l.initial.arena 0 l.arena l.n
