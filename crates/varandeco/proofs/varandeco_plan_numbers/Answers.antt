-- `varandeco::varandeco_plan_numbers` meets its contract: the answer to the job is handed out. Assumes nothing.
use Rattle.varandeco.proofs.Laws.{reply_right, planned_slice}
use Rattle.varandeco.proofs.varandeco_plan_numbers.Goals as goal

pub returns : goal.returns
returns c = reply_right c.reply_plan.ensures (planned_slice c.job_of.ensures c.plan_job-v.ensures)
