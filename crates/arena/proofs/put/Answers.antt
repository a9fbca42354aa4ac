-- `arena::put` meets its contract. Assumes nothing.
use Rattle.arena.specs.Bytes.{put_word}
use borrow.Author.Rules.{rules}
use Rattle.arena.proofs.put.Goals as goal

pub returns : goal.returns
unfolding put_word
returns c = search rules
