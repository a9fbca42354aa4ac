-- What the exported functions are given determines what they hand out, return and leave: two replies that a contract allows agree.
-- The one exception is the planner's own: which plan of the best outline stands in the buffer after number 0. Assumes nothing.
use mathlib.Core.Path.{◌≡◌, sym, ap, ◌∙◌}
use mathlib.Core.List.{List}
use Prim.Native.Nat.{ℕ}
use lib.ListN.{get_or}
use Rattle.rules.specs.Planner.{PlanAnswer}
use Rattle.rules.specs.Answers.{PlanLeft, PlanNumbers, PlanText, CheckNumbers, CheckText}
use Rattle.rules.proofs.Answers.{Agree, check_numbers_once, check_text_once, plan_numbers_once, plan_text_once}
use Rattle.shapes.specs.Answer.{plan_numbers, check_numbers}
use Rattle.handing.specs.Reply.{handed_out, Reply}

-- the numbers in the lent answer, and the number returned
pub record Same (now now' : List ℕ) (r r' : ℕ) : Type 0 where
  pub answer : now ≡ now'
  pub returned : r ≡ r'

pub same : {A : Type 0} {numbers : A → List ℕ} {P Q : A → Type 0} {was now now' : List ℕ} {r r' : ℕ} (x : Reply numbers P was now r) (y : Reply numbers Q was now' r') → x.said ≡ y.said → Same now now' r r'
same {numbers = numbers} {was = was} x y e = record {
  answer = x.answer ∙ ap (λ a. handed_out (numbers a) was) e ∙ sym y.answer;
  returned = x.returned ∙ ap (λ a. get_or (numbers a) 0 0) e ∙ sym y.returned;
}

pub check_text_same : (t : List ℕ) {was now now' : List ℕ} {r r' : ℕ} → Reply check_numbers (CheckText t) was now r → Reply check_numbers (CheckText t) was now' r' → Same now now' r r'
check_text_same t x y = same x y (check_text_once x.right y.right)

pub check_numbers_same : (flat vs : List ℕ) {was now now' : List ℕ} {r r' : ℕ} → Reply check_numbers (CheckNumbers flat vs) was now r → Reply check_numbers (CheckNumbers flat vs) was now' r' → Same now now' r r'
check_numbers_same flat vs x y = same x y (check_numbers_once flat x.right y.right)

-- what a call of the planner leaves with this answer
abbrev pub leaves : List ℕ → List ℕ → PlanAnswer → PlanLeft
leaves arena buffer answer = record { answer = answer; arena = arena; buffer = buffer }

-- two calls of the planner on the same job, arena and buffer agree in all that they hand out, return and leave
pub plan_same : (Left : PlanLeft → Type 0) → ((p q : PlanLeft) → Left p → Left q → Agree p q) → (arena buffer arena' buffer' : List ℕ) {was now now' : List ℕ} {r r' : ℕ} (x : Reply plan_numbers (λ a. Left (leaves arena buffer a)) was now r) (y : Reply plan_numbers (λ a. Left (leaves arena' buffer' a)) was now' r') → Same now now' r r' × Agree (leaves arena buffer x.said) (leaves arena' buffer' y.said)
plan_same Left once arena buffer arena' buffer' x y =
    let e = once (leaves arena buffer x.said) (leaves arena' buffer' y.said) x.right y.right in
    (same x y e.answer, e)

pub plan_text_agree : (arena buffer t : List ℕ) (p q : PlanLeft) → PlanText arena buffer t p → PlanText arena buffer t q → Agree p q
plan_text_agree arena buffer t p q x y = plan_text_once x y

pub plan_numbers_agree : (arena buffer vs : List ℕ) (p q : PlanLeft) → PlanNumbers arena buffer vs p → PlanNumbers arena buffer vs q → Agree p q
plan_numbers_agree arena buffer vs p q x y = plan_numbers_once x y
