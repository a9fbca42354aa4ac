-- Each goal is one law of Turns, over the way; the two functions differ in the way.
use Rattle.std.proofs.Common.{refl}
use Rattle.rules.specs.Box.{along, across}
use Rattle.parting.proofs.Turns.{few_answers, stuck_answers, turn_falls, turn_asks, turn_answers, first_falls, first_asks, rest_falls, rest_asks, both_answers, false_answers}
use Rattle.parting.proofs.+across_along.Goals as goal

pub across-returns-then-region-lt2 : goal.across-returns-then-region-lt2
across-returns-then-region-lt2 t c = few_answers c.if-region-lt2.true

pub across-along-requires : goal.across-along-requires
across-along-requires t c = (turn_falls c.divide-k.ensures c.requires t c.decreases c.if-not-fresh.false, turn_asks c.divide-k.ensures c.requires c.if-k-region.true along refl)

pub across-returns-then-k-region : goal.across-returns-then-k-region
across-returns-then-k-region t c = turn_answers c.divide-k.ensures c.requires c.along.ensures

pub across-returns-then-not-fresh : goal.across-returns-then-not-fresh
across-returns-then-not-fresh t c = stuck_answers c.divide-k.ensures c.requires c.if-region-lt2.false c.if-k-region.true c.if-not-fresh.true

pub across-along-requires-2 : goal.across-along-requires-2
across-along-requires-2 t c = (first_falls c.divide-k.ensures c.requires t c.decreases c.if-k-region.false, first_asks c.divide-k.ensures c.requires along refl)

pub across-across-requires : goal.across-across-requires
across-across-requires t c = (rest_falls c.divide-k.ensures c.requires c.along-2.ensures c.if-along.true t c.decreases, rest_asks c.divide-k.ensures c.requires c.along-2.ensures c.if-along.true)

pub across-returns-then-along : goal.across-returns-then-along
across-returns-then-along t c = both_answers c.divide-k.ensures c.requires c.along-2.ensures c.if-along.true c.across.ensures

pub across-returns-else-along : goal.across-returns-else-along
across-returns-else-along t c = false_answers c.divide-k.ensures c.requires c.along-2.ensures c.if-along.false

pub along-returns-then-region-lt2 : goal.along-returns-then-region-lt2
along-returns-then-region-lt2 t c = few_answers c.if-region-lt2.true

pub along-across-requires : goal.along-across-requires
along-across-requires t c = (turn_falls c.divide-k.ensures c.requires t c.decreases c.if-not-fresh.false, turn_asks c.divide-k.ensures c.requires c.if-k-region.true across refl)

pub along-returns-then-k-region : goal.along-returns-then-k-region
along-returns-then-k-region t c = turn_answers c.divide-k.ensures c.requires c.across.ensures

pub along-returns-then-not-fresh : goal.along-returns-then-not-fresh
along-returns-then-not-fresh t c = stuck_answers c.divide-k.ensures c.requires c.if-region-lt2.false c.if-k-region.true c.if-not-fresh.true

pub along-across-requires-2 : goal.along-across-requires-2
along-across-requires-2 t c = (first_falls c.divide-k.ensures c.requires t c.decreases c.if-k-region.false, first_asks c.divide-k.ensures c.requires across refl)

pub along-along-requires : goal.along-along-requires
along-along-requires t c = (rest_falls c.divide-k.ensures c.requires c.across-2.ensures c.if-across.true t c.decreases, rest_asks c.divide-k.ensures c.requires c.across-2.ensures c.if-across.true)

pub along-returns-then-across : goal.along-returns-then-across
along-returns-then-across t c = both_answers c.divide-k.ensures c.requires c.across-2.ensures c.if-across.true c.along.ensures

pub along-returns-else-across : goal.along-returns-else-across
along-returns-else-across t c = false_answers c.divide-k.ensures c.requires c.across-2.ensures c.if-across.false
