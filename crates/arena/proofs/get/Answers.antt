-- `arena::get` meets its contract. Assumes nothing.
use Rattle.arena.specs.Bytes.{word}
use borrow.Author.Rules.{rules}
use Rattle.arena.proofs.get.Goals as goal

pub returns : goal.returns
unfolding word
returns c = search rules
