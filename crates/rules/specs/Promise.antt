-- The sentence the product stands on (demand 3): "When the planner answers a job, its own plan is accepted, and no accepted plan for that job earns more."
-- That it holds of every answer of the planner is `promise_kept` in proofs/Promise. Assumes nothing.
use Rattle.std.specs.Prelude.{◌≡◌, List, ℕ, ◌≤◌}
use Rattle.rules.specs.Numbers.{Numbers, Entry}
use Rattle.rules.specs.Checker.{CheckAnswer, Checked}

-- a plan for the job, and what the planner says it earns and holds
pub record Promise (n : Numbers) (earned pieces : ℕ) (plan : List Entry) : Type 0 where
  pub own_accepted : Checked n plan (record { number = 0; place = 0; profit = earned; pieces = pieces })
  pub none_earns_more : (drawn : List Entry) (a : CheckAnswer) → Checked n drawn a → a.number ≡ 0 → a.profit ≤ earned
