-- `along` and `across` meet their contracts: cuts along and cuts across take turns on a region. Twice its pieces, and one more where it is fresh, falls. Assumes nothing.
use Rattle.std.proofs.Common.{◌*◌, length}
use Rattle.rules.specs.Bag.{tick}
use Rattle.parting.proofs.+across_along.Given as goal

abbrev pub decreases-across : goal.decreases-across
decreases-across l = tick l.fresh (2 * length l.region.now)

abbrev pub decreases-along : goal.decreases-along
decreases-along l = tick l.fresh (2 * length l.region.now)
