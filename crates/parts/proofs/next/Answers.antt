use mathlib.Core.Path.{◌≡◌, refl, ap, ap₂}
use mathlib.Core.Logic.{◌⊎◌, inl, inr}
use Prim.Native.Nat.{◌+◌, ◌*◌}
use native.Mathlib.Omega.{arith}
use Rattle.weighing.proofs.Laws.{weight_small, weight_first, weight_next}
use Rattle.parts.specs.Parts.{digit}
use Rattle.parts.proofs.Portions.{light, count_weighs, turning_start, now_stuck, turning_again, turning_up, turning_end}
use Rattle.parts.proofs.next.Goals.{else-spare-gt0-via-then-spare-gt0+else-left-gt0, else-spare-gt0-via-else-spare-gt0}
use Rattle.parts.proofs.next.Goals as goal

pub loop-i-init : goal.loop-i-init
loop-i-init c = (turning_start c.requires.0, weight_first)

pub next_weight-next-requires : goal.next_weight-next-requires
next_weight-next-requires c = (omega (arith, c.loop-i.invariant.1, weight_small c.loop-i.i))

pub overflow_add-result : goal.overflow_add-result
overflow_add-result c = omega (arith, light c.loop-i.invariant.0.of c.requires.1, c.loop-i.invariant.1, weight_small c.loop-i.i)

pub returns-then-left-gt0 : goal.returns-then-left-gt0
returns-then-left-gt0 c =
    turning_up c.loop-i.invariant.0 c.requires.1 c.loop-i-test.true c.rise.ensures _ c.if-spare-gt0.true c.if-left-gt0.true (ap (λ w. c.loop-i.weight + w) c.loop-i.invariant.1) refl

pub overflow_mul-weight : goal.overflow_mul-weight
overflow_mul-weight c =
    let e = ap₂ ◌*◌ c.from.ensures c.loop-i.invariant.1 in
    omega (arith, count_weighs c.loop-i.invariant.0.of c.requires.1 c.loop-i.i c.loop-i-test.true, light c.loop-i.invariant.0.of c.requires.1)

pub overflow_sub-weight : goal.overflow_sub-weight
overflow_sub-weight c =
    let e = ap₂ ◌*◌ c.from.ensures c.loop-i.invariant.1 in
    omega (arith, count_weighs c.loop-i.invariant.0.of c.requires.1 c.loop-i.i c.loop-i-test.true)

pub loop-i-preserved : goal.loop-i-preserved
loop-i-preserved c =
    let t = c.loop-i.invariant.0 in
    let e = c.begin_again.ensures in
    let stuck : (c.loop-i.spare ≡ 0) ⊎ (digit c.loop-i.rest c.loop-i.i ≡ 0) = elim c.else-spare-gt0.branch [
      | else-spare-gt0-via-then-spare-gt0+else-left-gt0 w ↦ inr (omega (arith, w.if-left-gt0.false))
      | else-spare-gt0-via-else-spare-gt0 w ↦ inl (omega (arith, w.if-spare-gt0.false))
    ] in
    (turning_again t c.requires.1 c.loop-i-test.true (now_stuck t c.requires.1 c.loop-i-test.true stuck) _ _ _ _ c.from.ensures c.from-spare.ensures c.loop-i.invariant.1 refl e.0 e.1, weight_next c.loop-i.i c.loop-i.invariant.1 c.next_weight-next.ensures.0)

pub returns : goal.returns
returns c = turning_end c.loop-i.invariant.0 c.requires.1 (omega arith)
