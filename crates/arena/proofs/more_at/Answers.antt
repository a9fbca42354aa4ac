-- `arena::more_at` meets its contract. Assumes nothing.
use mathlib.Core.Path.{ap, ◌∙◌}
use lib.ListN.{take}
use Rattle.rules.proofs.Classes.{one_more}
use Rattle.arena.proofs.Codec.{more_of}
use Rattle.arena.proofs.more_at.Goals as goal

pub returns : goal.returns
returns c = more_of c.args.types c.args.t _ c.requires.2 ∙ ap (λ l. one_more c.args.t (take c.args.types l)) (c.counts_of-r.ensures ∙ c.bytes_at.ensures.counts)
