-- `arena::within_at` meets its contract. Assumes nothing.
use mathlib.Core.Path.{ap, ◌∙◌}
use lib.ListN.{take}
use Rattle.rules.proofs.Outlines.{at_most}
use Rattle.tally.specs.Bounds.{bounds_most}
use Rattle.arena.proofs.Laws.{within_bounds}
use borrow.Author.Rules.{rules}
use Rattle.arena.proofs.within_at.Goals as goal

pub returns : goal.returns
returns c =
    let g = c.args in
    λ types d u. c.within.ensures ∙ ap (λ l. at_most (take bounds_most l) g.bounds) c.bytes_at.ensures.bytes ∙ within_bounds g.arena.now g.i types d g.bounds (search rules) (λ m. search rules) u
