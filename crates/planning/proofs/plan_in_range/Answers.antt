-- `planning::plan_in_range` meets its contract. Assumes nothing.
use Rattle.planning.proofs.Laws.{left_unfit}
use Rattle.planning.proofs.plan_in_range.Goals as goal

pub returns-then-not-some_fits : goal.returns-then-not-some_fits
returns-then-not-some_fits c = left_unfit c.args.job c.args.arena.now c.args.buffer.now (c.some_fits.ensures.no_if c.if-not-some_fits.true)
