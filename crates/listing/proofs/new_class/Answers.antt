-- `listing::new_class` meets its contract. Assumes nothing.
use Rattle.listing.proofs.Laws.{target_done}
use Rattle.listing.proofs.new_class.Goals as goal

pub returns : goal.returns
returns c = target_done c.requires.0 (rw c.in_ok-n.was at c.grow_class.ensures) c.close_class.ensures
