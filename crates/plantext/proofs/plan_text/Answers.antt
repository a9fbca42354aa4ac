-- `plantext::plan_text` meets its contract: what was read is planned, or its refusal is the answer. Assumes nothing.
use Rattle.rules.specs.Answers.{PlanText}
use Rattle.shapes.specs.Answer.{plan_answer}
use Rattle.texts.proofs.JobTexts.{handed_on}
use Rattle.plantext.proofs.Laws.{refuses_told, planned_told}
use Rattle.plantext.proofs.plan_text.Goals as goal

pub returns-in_err-job : goal.returns-in_err-job
returns-in_err-job c = handed_on (λ r. PlanText c.args.arena.now c.args.buffer.now c.args.text.now (record { answer = plan_answer r; arena = c.args.arena.now; buffer = c.args.buffer.now })) c.from_residual.result c.from_residual.ensures (refuses_told _ _ c.in_err-job.field-0.0 c.in_err-job.ensures)

pub returns : goal.returns
returns c = planned_told c.in_ok-job.job c.in_ok-job.ensures c.plan_job.ensures
