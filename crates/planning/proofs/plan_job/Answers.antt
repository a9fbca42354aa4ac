-- `planning::plan_job` meets its contract: the check of the numbers, and then the plan. Assumes nothing.
use mathlib.Core.Path.{sym, ap, ◌∙◌}
use Rattle.std.proofs.Common.{rules}
use Rattle.jobs.specs.Item.{item_place}
use Rattle.planning.proofs.Laws.{refused_item, range_of, in_range_left}
use Rattle.planning.proofs.plan_job.Goals as goal

pub plan_in_range-requires : goal.plan_in_range-requires
plan_in_range-requires c = range_of c.args.job (search rules) (sym c.first_out_of_range.ensures ∙ ap item_place c.in-None.is)

pub returns-in-Some : goal.returns-in-Some
returns-in-Some c = refused_item c.args.job c.args.arena.now c.args.buffer.now _ (sym c.first_out_of_range.ensures ∙ ap item_place c.in-Some.is)

pub returns-in-None : goal.returns-in-None
returns-in-None c = in_range_left c.args.job (search rules) (sym c.first_out_of_range.ensures ∙ ap item_place c.in-None.is) c.args.arena.now c.args.buffer.now _ c.plan_in_range.ensures
