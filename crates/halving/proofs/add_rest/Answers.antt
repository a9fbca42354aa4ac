-- `halving::add_rest` meets its contract. Assumes nothing.
use mathlib.Core.Path.{refl}
use native.Mathlib.Omega.{arith}
use lib.Seq.{length-take-le}
use Rattle.halving.proofs.Laws.{none_rests, rest_comes}
use Rattle.halving.proofs.add_rest.Goals as goal

pub returns-in-None : goal.returns-in-None
returns-in-None c = none_rests c.requires.0 _ ((length-take-le _ c.args.rest.now (omega (arith, c.requires.1, c.requires.0.ready.range.count)))) refl (rw c.in-None.is at c.find_weighed.ensures)

pub returns-in-Some : goal.returns-in-Some
returns-in-Some c =
    let at = rw c.in-Some.is at c.find_weighed.ensures in
    rest_comes c.requires.0 _ ((length-take-le _ c.args.rest.now (omega (arith, c.requires.1, c.requires.0.ready.range.count)))) refl _ at.0 at.1 c.add_pair.new.arena c.add_pair.result c.add_pair.ensures
