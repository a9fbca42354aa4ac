-- `arena::count_at` meets its contract. Assumes nothing.
use Rattle.arena.proofs.Laws.{count_at}
use Rattle.arena.proofs.count_at.Goals as goal

pub returns : goal.returns
returns c = count_at c.args.arena.now c.args.i c.args.t c.requires.1
