use mathlib.Core.Path.{sym, ◌∙◌, subst}
use native.Mathlib.Omega.{arith}
use lib.ListN.{take}
use Rattle.halving.proofs.Laws.{Walking, walk_class, walk_past, walk_within, walk_next}
use Rattle.halving.proofs.grow_by_classes.Goals as goal

pub add_class-requires : goal.add_class-requires
add_class-requires c = walk_within c.requires c.loop-p.invariant c.loop-p-test.true (sym (c.within_at.ensures _ _ c.bounds_of-bounds.ensures) ∙ c.if-within_at.true)

pub loop-p-smaller-then-within_at : goal.loop-p-smaller-then-within_at
loop-p-smaller-then-within_at c =
    let k = walk_class c.requires c.loop-p.invariant c.loop-p-test.true in
    omega (arith, c.loop-p-test.true, k.some, c.end_of-p.ensures.0)

pub loop-p-preserved-then-within_at : goal.loop-p-preserved-then-within_at
loop-p-preserved-then-within_at c =
    subst (Walking c.args.job c.args.least c.args.arena.now c.args.start (take c.args.job.count c.args.counts) _ _) (sym c.end_of-p.ensures.0)
    (walk_next c.requires c.loop-p.invariant c.loop-p-test.true (rw c.in_ok-n.was at c.add_class.ensures))

pub loop-p-smaller : goal.loop-p-smaller
loop-p-smaller c =
    let k = walk_class c.requires c.loop-p.invariant c.loop-p-test.true in
    omega (arith, c.loop-p-test.true, k.some, c.end_of-p.ensures.0)

pub loop-p-preserved : goal.loop-p-preserved
loop-p-preserved c =
    subst (Walking c.args.job c.args.least c.args.arena.now c.args.start (take c.args.job.count c.args.counts) _ _) (sym c.end_of-p.ensures.0)
    (walk_past c.requires c.loop-p.invariant c.loop-p-test.true (sym (c.within_at.ensures _ _ c.bounds_of-bounds.ensures) ∙ c.if-within_at.false))
