-- `listing::add_target` meets its contract. Assumes nothing.
use Rattle.listing.proofs.Laws.{target_none}
use Rattle.listing.proofs.add_target.Goals as goal

pub returns-in-None : goal.returns-in-None
returns-in-None c = target_none c.requires (c.lacks_less.ensures.yes_if c.if-lacks_less.true)
