use native.Mathlib.Omega.{arith}
use lib.Seq.{get_or-take}
use Rattle.weighing.proofs.Laws.{weight_small, weight_first, weight_next}
use Rattle.classes.proofs.OneLess.{finding_start, finding_more}
use Rattle.classes.proofs.lacks_less.Goals.{else-counts-t-gt0-via-then-counts-t-gt0+else-lacks_type, else-counts-t-gt0-via-else-counts-t-gt0}
use Rattle.classes.proofs.lacks_less.Goals as goal

pub loop-t-init : goal.loop-t-init
loop-t-init c = (finding_start _ _ _ _, weight_first)

pub next_weight-next-requires : goal.next_weight-next-requires
next_weight-next-requires c = omega (arith, c.loop-t.invariant.1, weight_small c.loop-t.t)

pub loop-t-preserved : goal.loop-t-preserved
loop-t-preserved c =
    let e = get_or-take c.args.types c.args.counts c.loop-t.t 0 c.loop-t-test.true in
    let next = weight_next c.loop-t.t c.loop-t.invariant.1 c.next_weight-next.ensures.0 in
    elim c.else-counts-t-gt0.branch [
      | else-counts-t-gt0-via-then-counts-t-gt0+else-lacks_type w ↦ (finding_more c.loop-t.invariant.0 c.loop-t-test.true (λ _. w.lacks_type.ensures.no_if w.if-lacks_type.false), next)
      | else-counts-t-gt0-via-else-counts-t-gt0 w ↦ (finding_more c.loop-t.invariant.0 c.loop-t-test.true (λ h. absurd (omega (arith, h, w.if-counts-t-gt0.false, e))), next)
    ]
