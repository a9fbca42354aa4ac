-- `varandeco::varandeco_plan_text` meets its contract: the answer to the text is handed out. Assumes nothing.
use Rattle.varandeco.proofs.Laws.{reply_right}
use Rattle.varandeco.proofs.varandeco_plan_text.Goals as goal

pub returns : goal.returns
returns c = reply_right c.reply_plan.ensures c.plan_text-v.ensures
