-- `pairing::can_join` meets its contract. Assumes nothing.
use mathlib.Core.Path.{ap, ◌∙◌}
use native.Mathlib.Omega.{arith}
use Rattle.arena.specs.Records.{link_at}
use Rattle.classes.specs.Orders.{size_in}
use Rattle.pairing.proofs.Laws.{idle_small}
use Rattle.pairing.proofs.can_join.Goals as goal

pub returns-else-smallest-in_way : goal.returns-else-smallest-in_way
returns-else-smallest-in_way c =
    let s = c.args.arena.now in
    λ _. idle_small c.requires c.args.way _ _ (c.link_at.ensures.0 ∙ ap (link_at s c.args.a) c.number-w.ensures) (c.size_at-smallest.ensures.0 ∙ ap (λ w. size_in s w c.link_at.result) c.number-w.ensures) (omega (arith, c.if-smallest-in_way.false, c.side.ensures, c.in_way.ensures))
