-- `arena::put_link` meets its contract. Assumes nothing.
use Rattle.arena.proofs.Laws.{linked}
use Rattle.arena.proofs.put_link.Goals as goal

pub returns : goal.returns
returns c = linked c.args.arena.now _ c.args.i c.args.k c.args.v c.requires c.put.ensures
