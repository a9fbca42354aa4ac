-- `varandeco::varandeco_check_numbers` meets its contract: the answer to the list is handed out. Assumes nothing.
use Rattle.varandeco.proofs.Laws.{reply_right, checked_slice}
use Rattle.varandeco.proofs.varandeco_check_numbers.Goals as goal

pub returns : goal.returns
returns c = reply_right c.reply_check.ensures (checked_slice c.args.list.now c.job_of.ensures c.check_list-v.ensures)
