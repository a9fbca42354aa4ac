-- `listing::add_single` meets its contract: one piece, a class of its own. Assumes nothing.
use mathlib.Core.Path.{sym, ◌∙◌}
use Rattle.listing.proofs.Singles.{single_growable, single_left, single_came}
use Rattle.listing.proofs.add_single.Goals as goal

pub returns-then-not-fits : goal.returns-then-not-fits
returns-then-not-fits c = single_left c.requires.0 c.requires.1 c.single-o.ensures (sym c.fits.ensures ∙ c.if-not-fits.true)

pub add-requires : goal.add-requires
add-requires c = single_growable c.requires.0 c.requires.1 c.single-o.ensures (sym c.fits.ensures ∙ c.if-not-fits.false)

pub returns : goal.returns
returns c =
    let g = rw c.in_ok-m.was at c.add.ensures in
    single_came c.requires.0 c.requires.1 c.single-o.ensures g c.close_class.ensures
