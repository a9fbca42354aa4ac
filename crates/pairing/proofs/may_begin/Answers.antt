-- `pairing::may_begin` meets its contract. Assumes nothing.
use mathlib.Core.Path.{ap, ◌∙◌}
use Prim.Native.Nat.{◌-◌}
use native.Mathlib.Omega.{arith}
use borrow.Author.Tests.{eqb-false}
use Rattle.arena.specs.Records.{link_at}
use Rattle.classes.specs.Orders.{size_in}
use Rattle.pairing.proofs.Laws.{unable_thin}
use Rattle.pairing.proofs.may_begin.Goals as goal

pub returns-else-in_way-largest : goal.returns-else-in_way-largest
returns-else-in_way-largest c =
    let s = c.args.arena.now in
    let last = c.end_of-last.result - 1 in
    let some = c.requires.class.some in
    λ e. unable_thin c.requires c.args.way c.turned-turned.result c.turned-turned.ensures _ last _ _ c.pieces_at.ensures.0 (eqb-false _ _ e) (omega (arith, c.end_of-last.ensures.0)) (c.link_at.ensures.0 ∙ ap (link_at s last) c.number-v.ensures) (c.size_at-largest.ensures.0 ∙ ap (λ w. size_in s w c.link_at.result) c.number-v.ensures) (omega (arith, c.if-in_way-largest.false, c.in_way.ensures))
