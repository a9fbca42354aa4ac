-- What the checker's answer means: the theorems of the rules over the contract of `check_list`, and so of the entry over records. Assumes nothing.
use mathlib.Core.Path.{◌≡◌}
use mathlib.Core.Logic.{◌↔◌}
use mathlib.Core.Option.{none}
use mathlib.Core.List.{List}
use Prim.Native.Nat.{ℕ, ◌≤◌}
use Rattle.std.specs.Prelude.{Result}
use native.Mathlib.Omega.{arith}
use Rattle.rules.specs.Bag.{Same}
use Rattle.rules.specs.Box.{Disjoint}
use Rattle.rules.specs.Job.{Outline, Best, profit}
use Rattle.rules.specs.Placed.{boxes, Accepted}
use Rattle.rules.specs.Numbers.{Numbers, entries, job_of, placed, lying}
use Rattle.rules.specs.Items.{out_of_range, numbers_from}
use Rattle.rules.specs.Checker.{CheckAnswer, Checked}
use Rattle.rules.specs.Answers.{outside, within, CheckNumbers}
use Rattle.rules.proofs.Bags.{same_map}
use Rattle.rules.proofs.Sides.{parted_apart}
use Rattle.rules.proofs.Order.{none_earns_more}
use Rattle.rules.proofs.Reorder.{accepted_same}
use Rattle.rules.proofs.Accept.{accepts_exactly, profits_of}
use Rattle.rules.proofs.Answers.{check_numbers_once}
use Rattle.rules.proofs.Promise.{earns}
use Rattle.shapes.specs.Answer.{check_answer}
use Rattle.shapes.specs.Handed.{items_of}
use Rattle.shapes.specs.declared.Job.{Job}
use Rattle.shapes.specs.declared.Refusal.{Refusal}
use Rattle.shapes.specs.declared.Drawing.{Drawing}

-- the contract: the answer r to the list `flat` for the job j
abbrev pub Answer : Job → List ℕ → Result Drawing Refusal → Type 0
Answer j flat r = CheckNumbers flat (items_of j) (check_answer r)

-- number 0
abbrev pub Taken : Result Drawing Refusal → Type 0
Taken r = (check_answer r).number ≡ 0

-- the job's numbers, and the pieces of the list
abbrev pub numbers : Job → Numbers
numbers j = numbers_from (items_of j)

module _ (j : Job) (flat : List ℕ) (r : Result Drawing Refusal) (answer : Answer j flat r) where
  in_range : {vs : List ℕ} {a : CheckAnswer} → CheckNumbers flat vs a → a.number ≡ 0 → (out_of_range vs ≡ none) × Checked (numbers_from vs) (entries flat) a
  in_range (outside e) z = absurd (omega (arith, z))
  in_range (within e c) z = (e, c)

  back : {vs : List ℕ} {a : CheckAnswer} → CheckNumbers flat vs a → out_of_range vs ≡ none → Accepted (job_of (numbers_from vs)) (lying (numbers_from vs) (entries flat)) → a.number ≡ 0
  back (outside e) f p = absurd (let z : ◌≡◌ {A = ℕ} 0 1 = cc in omega arith)
  back {vs} {a} (within e c) f p = (accepts_exactly (numbers_from vs) (entries flat) a c).1 p

  -- accepted exactly if the job is in range and the pieces keep to its sheet and demands and can be parted
  pub accepted_exactly : Taken r ↔ ((out_of_range (items_of j) ≡ none) × Accepted (job_of (numbers j)) (lying (numbers j) (entries flat)))
  accepted_exactly = (
    (λ z. let c = in_range answer z in (c.0, (accepts_exactly (numbers j) (entries flat) (check_answer r) c.1).0 z)),
    (λ p. back answer p.0 p.1),
  )

  module _ (taken : Taken r) where
    -- what is accepted never earns more than the best outline
    pub earns_no_more : {o : Outline} → Best (job_of (numbers j)) o → (check_answer r).profit ≤ profit (job_of (numbers j)) o
    earns_no_more {o} best =
        let c = in_range answer taken in
        omega (arith, earns c.1 taken, none_earns_more (profits_of (numbers j)) best (lying (numbers j) (entries flat)) (accepted_exactly.0 taken).1)

    -- pieces that overlap are never accepted
    pub none_overlap : Disjoint (boxes (lying (numbers j) (entries flat)))
    none_overlap = parted_apart (accepted_exactly.0 taken).1.parted

-- the order of a list does not change whether it is accepted
pub order_free : (j : Job) (flat other : List ℕ) (r q : Result Drawing Refusal) → Answer j flat r → Answer j other q → Same (entries other) (entries flat) → Taken r → Taken q
order_free j flat other r q a b s t =
    let p = (accepted_exactly j flat r a).0 t in
    (accepted_exactly j other q b).1 (p.0, accepted_same (lying (numbers j) (entries other)) (same_map (placed (numbers j)) (entries other) (entries flat) s) p.1)

-- and there is one answer only
pub one_answer : (j : Job) (flat : List ℕ) (r q : Result Drawing Refusal) → Answer j flat r → Answer j flat q → check_answer r ≡ check_answer q
one_answer j flat r q a b = check_numbers_once flat a b
