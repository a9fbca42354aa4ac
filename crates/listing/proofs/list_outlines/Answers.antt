-- `listing::list_outlines` meets its contract: an arena of zeros, the singles, and then the joins. Assumes nothing.
use mathlib.Core.Path.{sym, subst}
use lib.ListN.{length}
use Rattle.classes.specs.Directory.{Directory}
use Rattle.classes.proofs.Laws.{none_entered}
use Rattle.listing.proofs.Singles.{singles_queued}
use Rattle.listing.proofs.list_outlines.Goals as goal

pub list_singles-requires : goal.list_singles-requires
list_singles-requires c = (c.requires, subst (λ s. Directory c.args.job.count s 0) (sym c.zero.ensures) (none_entered c.args.job.count (length c.args.arena.now)))

pub list_joins-requires : goal.list_joins-requires
list_joins-requires c = (singles_queued (rw c.in_ok-singles.was at c.list_singles.ensures), c.least_sizes.ensures)
