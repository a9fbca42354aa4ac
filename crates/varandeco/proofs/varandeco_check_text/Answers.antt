-- `varandeco::varandeco_check_text` meets its contract: the answer to the text is handed out. Assumes nothing.
use Rattle.varandeco.proofs.Laws.{reply_right}
use Rattle.varandeco.proofs.varandeco_check_text.Goals as goal

pub returns : goal.returns
returns c = reply_right c.reply_check.ensures c.check_text-v.ensures
