use Prim.Native.Nat.{suc, ◌-◌}
use native.Mathlib.Omega.{arith}
use mathlib.Core.Path.{◌≡◌, sym, ◌∙◌, subst}
use lib.ListN.{take}
use Rattle.classes.proofs.Laws.{Seek, seek_other, seek_found, seek_none}
use Rattle.classes.proofs.Chains.{chase_at, chase_next}
use Rattle.classes.proofs.find_weighed.Goals as goal

pub returns-then-counts_at : goal.returns-then-counts_at
returns-then-counts_at c =
    let e : c.loop-p.p ≡ suc (c.loop-p.p - 1) = omega (arith, c.loop-p-test.true) in
    seek_found _ _ _ _ _ (chase_at c.loop-p.invariant _ e (omega arith)).0 (sym c.counts_at.ensures ∙ c.if-counts_at.true)

pub loop-p-preserved : goal.loop-p-preserved
loop-p-preserved c =
    let e : c.loop-p.p ≡ suc (c.loop-p.p - 1) = omega (arith, c.loop-p-test.true) in
    subst (Seek c.args.types c.args.arena.now c.args.n (take c.args.types c.args.counts.now)) (sym c.link_at-p-in-loop-p.ensures.0)
    (chase_next c.loop-p.invariant _ e (omega arith) (seek_other _ _ _ _ _ (sym c.counts_at.ensures ∙ c.if-counts_at.false)))

pub returns : goal.returns
returns c = seek_none _ _ _ _ c.requires.0 c.loop-p.invariant (omega (arith, c.loop-p-test.false))
