-- `arena::size_at` meets its contract. Assumes nothing.
use mathlib.Core.Path.{◌∙◌}
use borrow.Author.Rules.{rules}
use Rattle.arena.proofs.Laws.{size_at}
use Rattle.arena.proofs.size_at.Goals as goal

pub returns : goal.returns
returns c = (c.from.ensures ∙ c.get.ensures ∙ size_at c.args.arena.now c.args.i c.args.way c.requires.1, search rules)
