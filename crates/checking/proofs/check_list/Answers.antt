-- `check_list` meets its contract: refusal 2 first, and behind it every number of the job is in range. Assumes nothing.
use mathlib.Core.Path.{◌≡◌, sym, ap, ◌∙◌}
use mathlib.Core.Option.{none}
use lib.ListN.{length}
use Rattle.rules.specs.Limits.{types_most}
use Rattle.rules.specs.Items.{out_of_range}
use Rattle.rules.specs.Answers.{outside}
use Rattle.shapes.specs.Handed.{items_of, JobInRange}
use Rattle.shapes.specs.declared.Job.{Job}
use Rattle.jobs.specs.Item.{item_place}
use Rattle.jobs.proofs.Fine.{count_fine, same_numbers, job_in_range}
use Rattle.checking.proofs.Verdict.{verdict_in_range}
use Rattle.std.proofs.Common.{rules}
use Rattle.checking.proofs.check_list.Goals as goal

fine_job : (job : Job) → length job.types ≡ types_most → out_of_range (items_of job) ≡ none → JobInRange job
fine_job job room fine = record { types = room; count = count_fine job room fine; numbers = job_in_range job room fine }

pub check_in_range-requires : goal.check_in_range-requires
check_in_range-requires c = fine_job c.args.job (search rules) (sym c.first_out_of_range.ensures ∙ ap item_place c.in_default.is)

pub returns-in-Some : goal.returns-in-Some
returns-in-Some c = outside (sym c.first_out_of_range.ensures ∙ ap item_place c.in-Some.is)

pub returns : goal.returns
returns c =
    let fine : out_of_range (items_of c.args.job) ≡ none = sym c.first_out_of_range.ensures ∙ ap item_place c.in_default.is in
    verdict_in_range c.args.job c.args.list.now fine (same_numbers c.args.job (search rules) fine) c.check_in_range.ensures
