-- The sentence the product stands on, over the contracts of planner and checker (PlanNumbers and CheckNumbers of the rules' Answers):
-- "When the planner answers a job, its own plan is accepted, and no accepted plan for that job earns more."
-- That it holds of every answer of the planner is `promise` in proofs/Promise. Assumes nothing.
use Rattle.std.specs.Prelude.{◌≡◌, List, ℕ, ◌*◌, ◌≤◌, take}
use Rattle.rules.specs.Limits.{placement_numbers}
use Rattle.rules.specs.Checker.{CheckAnswer}
use Rattle.rules.specs.Answers.{PlanLeft, CheckNumbers}

-- the numbers of the plan that a call of the planner leaves at the front of its buffer
abbrev pub plan_in : PlanLeft → List ℕ
plan_in p = take (placement_numbers * p.answer.pieces) p.buffer

pub record Promised (items : List ℕ) (p : PlanLeft) : Type 0 where
  -- what the checker answers to the planner's own plan: accepted, and it earns and holds what the planner said
  pub own_accepted : (a : CheckAnswer) → CheckNumbers (plan_in p) items a → a ≡ record { number = 0; place = 0; profit = p.answer.profit; pieces = p.answer.pieces }
  -- what it answers to any list, where it accepts it
  pub none_earns_more : (drawn : List ℕ) (a : CheckAnswer) → CheckNumbers drawn items a → a.number ≡ 0 → a.profit ≤ p.answer.profit
