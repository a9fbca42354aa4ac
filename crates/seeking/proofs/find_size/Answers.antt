use mathlib.Core.Path.{◌≡◌, sym, ap, ◌∙◌, subst}
use Prim.Native.Nat.{suc, ◌-◌, ◌≤◌}
use native.Mathlib.Omega.{arith}
use Rattle.seeking.specs.Opened.{place_of}
use Rattle.classes.proofs.Chains.{chase_at, chase_next, chase_end}
use Rattle.seeking.proofs.Opened.{SeekSize, seek_size}
use Rattle.seeking.proofs.find_size.Goals as goal

pub returns-then-n-start : goal.returns-then-n-start
returns-then-n-start c = λ q w. omega (arith, w.low, w.high, c.if-n-start.true)

pub loop-p-init : goal.loop-p-init
loop-p-init c = seek_size c.args.arena.now c.args.start c.args.n c.args.long c.args.wide c.requires _ _ (c.place.ensures.0 ∙ ap (λ r. place_of r c.args.start c.args.long c.args.wide) c.room-room.ensures) c.head_at-p.ensures

pub same_sizes-requires : goal.same_sizes-requires
same_sizes-requires c =
    let e : c.loop-p.p ≡ suc (c.loop-p.p - 1) = omega (arith, c.loop-p-test.true) in
    let l : c.args.start ≤ c.loop-p.p - 1 = omega (arith, c.loop-p-test.true) in
    let k = chase_at c.loop-p.invariant _ e l in
    omega (arith, k.0.high, c.requires.room)

pub returns-then-same_sizes : goal.returns-then-same_sizes
returns-then-same_sizes c =
    let e : c.loop-p.p ≡ suc (c.loop-p.p - 1) = omega (arith, c.loop-p-test.true) in
    let l : c.args.start ≤ c.loop-p.p - 1 = omega (arith, c.loop-p-test.true) in
    let k = chase_at c.loop-p.invariant _ e l in
    let y = c.same_sizes.ensures.yes_if c.if-same_sizes.true in
    record { low = l; high = k.0.high; same_long = y.0; same_wide = y.1 }

pub link_at-p-requires : goal.link_at-p-requires
link_at-p-requires c =
    let e : c.loop-p.p ≡ suc (c.loop-p.p - 1) = omega (arith, c.loop-p-test.true) in
    let l : c.args.start ≤ c.loop-p.p - 1 = omega (arith, c.loop-p-test.true) in
    let k = chase_at c.loop-p.invariant _ e l in
    (omega (arith, k.0.high, c.requires.room), omega arith)

pub loop-p-smaller : goal.loop-p-smaller
loop-p-smaller c =
    let e : c.loop-p.p ≡ suc (c.loop-p.p - 1) = omega (arith, c.loop-p-test.true) in
    let l : c.args.start ≤ c.loop-p.p - 1 = omega (arith, c.loop-p-test.true) in
    let k = chase_at c.loop-p.invariant _ e l in
    omega (arith, k.1, c.link_at-p.ensures.0, e)

pub loop-p-preserved : goal.loop-p-preserved
loop-p-preserved c =
    let e : c.loop-p.p ≡ suc (c.loop-p.p - 1) = omega (arith, c.loop-p-test.true) in
    let l : c.args.start ≤ c.loop-p.p - 1 = omega (arith, c.loop-p-test.true) in
    let k = chase_at c.loop-p.invariant _ e l in
    subst (SeekSize c.args.arena.now c.args.start c.args.n c.args.long c.args.wide) (sym c.link_at-p.ensures.0)
    (chase_next c.loop-p.invariant _ e l (λ w. c.same_sizes.ensures.no_if c.if-same_sizes.false w.same_long w.same_wide))

pub returns : goal.returns
returns c = chase_end c.loop-p.invariant (omega (arith, c.loop-p-test.false))
