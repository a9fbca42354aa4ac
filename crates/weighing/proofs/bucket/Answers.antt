-- `weighing::bucket` meets its contract. Assumes nothing.
use mathlib.Core.Path.{refl}
use Rattle.weighing.specs.Weights.{spread}
use Rattle.weighing.proofs.Laws.{spread_below}
use Rattle.weighing.proofs.bucket.Goals as goal

pub returns : goal.returns
unfolding spread
returns c = (refl, spread_below c.args.weight c.requires.0)
