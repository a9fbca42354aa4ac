use mathlib.Core.Path.{◌≡◌, ap, ◌∙◌}
use Prim.Native.Nat.{suc, ◌-◌}
use native.Mathlib.Omega.{arith}
use lib.ListN.{get_or}
use Rattle.listing.proofs.Laws.{following_source, following_more, following_stop, following_next, count_in}
use Rattle.listing.proofs.add_next.Goals as goal

pub add_more-requires : goal.add_more-requires
add_more-requires c = (following_source c.requires c.loop-t.invariant, omega (arith, c.loop-t-test.true, c.loop-t.invariant.upto))

pub returns-then-count_at-gt0 : goal.returns-then-count_at-gt0
returns-then-count_at-gt0 c =
    let g = c.loop-t.invariant in
    let t = c.loop-t.t - 1 in
    let is : c.loop-t.t ≡ suc t = omega (arith, c.loop-t-test.true) in
    let f = following_more c.requires g t is _ _ (rw c.in_ok-n.was at c.add_more.ensures) in
    let e = count_in c.requires t (omega (arith, g.upto)) c.count_at.result (c.count_at.ensures ∙ ap (λ r. get_or r.outline.counts t 0) (f.records c.args.p c.requires.here)) in
    following_stop c.requires g t is f (omega (arith, c.if-count_at-gt0.true, e))

pub loop-t-preserved : goal.loop-t-preserved
loop-t-preserved c =
    let g = c.loop-t.invariant in
    let t = c.loop-t.t - 1 in
    let is : c.loop-t.t ≡ suc t = omega (arith, c.loop-t-test.true) in
    let f = following_more c.requires g t is _ _ (rw c.in_ok-n.was at c.add_more.ensures) in
    let e = count_in c.requires t (omega (arith, g.upto)) c.count_at.result (c.count_at.ensures ∙ ap (λ r. get_or r.outline.counts t 0) (f.records c.args.p c.requires.here)) in
    following_next c.requires g t is f (omega (arith, c.if-count_at-gt0.false, e))
