-- `listing::close_class` meets its contract: a class with nothing in it needs no entry. Assumes nothing.
use native.Mathlib.Omega.{arith}
use Rattle.listing.proofs.Laws.{enterable}
use Rattle.listing.proofs.close_class.Goals as goal

pub enter-requires : goal.enter-requires
enter-requires c = (enterable c.requires.0 c.requires.1 (omega (arith, c.if-start-n.true)) c.order_class.ensures, c.requires.2)
