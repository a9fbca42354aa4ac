-- `seeking::place` meets its contract. Assumes nothing.
use mathlib.Core.Path.{◌≡◌, ap, ◌∙◌}
use mathlib.Core.List.{[], ◌∷◌}
use Prim.Native.Nat.{ℕ, ◌+◌, ◌-◌, ◌*◌, ◌≤◌, ◌<◌}
use native.Mathlib.Omega.{arith}
use native.Mathlib.Nat.{mul-le-mul}
use Rattle.weighing.specs.Weights.{weight_most, first_weight, next_weight, weighed, spread}
use Rattle.weighing.proofs.Laws.{weight_first, weight_next}
use lib.Dec.{lit<}
use Rattle.seeking.specs.Opened.{join_most}
use Rattle.seeking.proofs.place.Goals as goal

-- what a size weighs
size_weighs : (x w : ℕ) → x < join_most → w < weight_most → x * w ≤ join_most * weight_most
size_weighs x w a b = mul-le-mul {n₂ = join_most} {m₂ = weight_most} (omega arith) (omega arith)

-- what both sizes weigh
two_weigh : (long wide y : ℕ) → y ≡ next_weight first_weight → long * first_weight + wide * y ≡ weighed 0 (long ∷ wide ∷ [])
unfolding weighed
two_weigh long wide y f = omega (arith, ap (λ z. long * z) weight_first, ap (λ z. wide * z) (weight_next 0 weight_first f))

pub next_weight-second-requires : goal.next_weight-second-requires
next_weight-second-requires c = lit< tt

pub overflow_mul-weight : goal.overflow_mul-weight
overflow_mul-weight c = omega (arith, c.requires.long_small)

pub overflow_mul-weight-2 : goal.overflow_mul-weight-2
overflow_mul-weight-2 c = omega (arith, size_weighs _ _ c.requires.wide_small c.next_weight-second.ensures.1)

pub overflow_add-weight : goal.overflow_add-weight
overflow_add-weight c = omega (arith, c.requires.long_small, size_weighs _ _ c.requires.wide_small c.next_weight-second.ensures.1)

pub returns : goal.returns
returns c =
    let e = c.bucket.ensures.0 ∙ ap (spread (c.args.room - c.args.start)) (two_weigh c.args.long c.args.wide _ c.next_weight-second.ensures.0) in
    (ap (λ z. c.args.start + z) e, omega arith, omega (arith, c.bucket.ensures.1, c.requires.some))
