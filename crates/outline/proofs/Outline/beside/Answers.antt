-- `outline::Outline::beside` meets its contract. Assumes nothing.
use mathlib.Core.Path.{ap, ◌∙◌}
use lib.ListN.{take}
use Rattle.outline.proofs.Laws.{take_sums}
use Rattle.outline.proofs.Outline.beside.Goals as goal

pub returns : goal.returns
returns c = record { joined = λ n p q i. record { long = c.plus.ensures i; wide = c.larger.ensures i; counts = (ap (take n) c.added.ensures ∙ take_sums n c.args.self.counts c.args.other.counts p q) i } }
