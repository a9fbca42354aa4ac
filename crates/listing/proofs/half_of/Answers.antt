use mathlib.Core.Path.{sym, subst}
use native.Mathlib.Omega.{arith}
use Rattle.listing.specs.Queue.{HalvesAt}
use Rattle.listing.proofs.Laws.{passed_class, passed_standing, halves_join, halves_idle}
use Rattle.listing.proofs.half_of.Goals as goal

pub joins-requires : goal.joins-requires
joins-requires c = passed_standing c.requires c.loop-passed.invariant (omega (arith, c.loop-passed-test.true))

pub loop-passed-smaller-then-joins : goal.loop-passed-smaller-then-joins
loop-passed-smaller-then-joins c =
    (let k = passed_class c.requires c.loop-passed.invariant (omega (arith, c.loop-passed-test.true)) in
    omega (arith, c.loop-passed-test.true, k.some, k.ends, c.end_of-passed.ensures.0))

pub loop-passed-preserved-then-joins : goal.loop-passed-preserved-then-joins
loop-passed-preserved-then-joins c =
    subst (λ e. HalvesAt c.args.job c.args.least c.args.arena.now c.args.n c.args.most (record { passed = e; tried = e })) (sym c.end_of-passed.ensures.0)
    (halves_join c.requires c.loop-passed.invariant (omega (arith, c.loop-passed-test.true)) ((omega (arith, c.if-most-pieces_at.false, c.pieces_at.ensures.0))))

pub loop-passed-smaller : goal.loop-passed-smaller
loop-passed-smaller c =
    (let k = passed_class c.requires c.loop-passed.invariant (omega (arith, c.loop-passed-test.true)) in
    omega (arith, c.loop-passed-test.true, k.some, k.ends, c.end_of-passed.ensures.0))

pub loop-passed-preserved : goal.loop-passed-preserved
loop-passed-preserved c =
    subst (λ e. HalvesAt c.args.job c.args.least c.args.arena.now c.args.n c.args.most (record { passed = e; tried = c.loop-passed.tried })) (sym c.end_of-passed.ensures.0)
    (halves_idle c.requires c.loop-passed.invariant (omega (arith, c.loop-passed-test.true)) ((omega (arith, c.if-most-pieces_at.false, c.pieces_at.ensures.0))) (c.joins.ensures c.if-joins.false))
