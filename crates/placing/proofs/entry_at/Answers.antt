-- `entry_at` meets its contract. Assumes nothing.
use Rattle.placing.proofs.Entries.{entry_is}
use Rattle.placing.proofs.entry_at.Goals as goal

pub returns : goal.returns
returns c = entry_is c.args.list.now _ c.requires
