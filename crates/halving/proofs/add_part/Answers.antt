-- `halving::add_part` meets its contract. Assumes nothing.
use mathlib.Core.Path.{sym, ap}
use lib.ListN.{take}
use Rattle.rules.specs.Job.{plus}
use Rattle.halving.proofs.Odometer.{rest_weighs, part_halving}
use Rattle.halving.proofs.add_part.Goals as goal

pub overflow_sub-weight : goal.overflow_sub-weight
overflow_sub-weight c = (rest_weighs c.requires.1 c.requires.0.ready.range.count).0

pub add_rest-requires : goal.add_rest-requires
add_rest-requires c =
    let at = rw c.in-Some.is at c.find_weighed.ensures in
    (part_halving c.requires.0 _ _ at.0 at.1 (ap (λ d. plus d (take c.args.job.count c.args.rest.now)) (sym at.1)), c.requires.1.long_rest, (rest_weighs c.requires.1 c.requires.0.ready.range.count).1)
