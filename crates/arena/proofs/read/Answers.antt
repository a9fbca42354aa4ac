-- `arena::read` meets its contract. Assumes nothing.
use mathlib.Core.Path.{◌∙◌}
use lib.ListN.{get_or}
use Rattle.arena.specs.Bytes.{how_of, kind_at}
use borrow.Author.Rules.{rules}
use Rattle.arena.proofs.Codec.{loaded}
use Rattle.arena.proofs.read.Goals as goal

pub returns : goal.returns
returns c = loaded _ _ _ _ _ c.counts_of.ensures (c.from.ensures ∙ c.get.ensures, search rules) (c.from-2.ensures ∙ c.get-2.ensures, search rules) (c.from-5.ensures ∙ (λ i. how_of (record { kind = get_or c.args.s.now kind_at 0; first = (c.from-3.ensures ∙ c.get-3.ensures) i; second = (c.from-4.ensures ∙ c.get-4.ensures) i })))
