-- The promise of planner and checker together, from their contracts alone. Assumes nothing.
use mathlib.Core.Path.{◌≡◌}
use mathlib.Core.Option.{none}
use mathlib.Core.List.{List}
use Prim.Native.Nat.{ℕ}
use native.Mathlib.Omega.{arith}
use Rattle.rules.specs.Items.{out_of_range, numbers_from}
use Rattle.rules.specs.Numbers.{entries}
use Rattle.rules.specs.Checker.{CheckAnswer, Checked}
use Rattle.rules.specs.Answers.{outside, within, PlanLeft, PlanNumbers, CheckNumbers}
use Rattle.rules.proofs.Checking.{checked_once}
use Rattle.rules.proofs.Promise.{promise_kept}
use Rattle.planning.specs.Promise.{plan_in, Promised}

-- where the items are in range, the checker's contract is that of a job in range
checked_in_range : (flat : List ℕ) {items : List ℕ} {a : CheckAnswer} → out_of_range items ≡ none → CheckNumbers flat items a → Checked (numbers_from items) (entries flat) a
checked_in_range flat e (outside f) = absurd (let z : ◌≡◌ {A = ℕ} 0 1 = cc in omega arith)
checked_in_range flat e (within f x) = x

-- "When the planner answers a job, its own plan is accepted, and no accepted plan for that job earns more."
pub promise : {arena buffer items : List ℕ} {p : PlanLeft} → PlanNumbers arena buffer items p → p.answer.number ≡ 0 → Promised items p
promise (outside e) z = absurd (omega arith)
promise {items = items} (within {a = p} e x) z =
    let k = promise_kept x z in
    record {
      own_accepted = λ a c. checked_once (checked_in_range (plan_in p) e c) k.own_accepted;
      none_earns_more = λ drawn a c h. k.none_earns_more (entries drawn) a (checked_in_range drawn e c) h;
    }
