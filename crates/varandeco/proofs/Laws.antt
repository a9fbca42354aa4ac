-- An answer that was handed out is right, and the answer to a job's items is that to the slice that holds them. Assumes nothing.
use mathlib.Core.Path.{◌≡◌, sym, subst}
use mathlib.Core.List.{List}
use Prim.Native.Nat.{ℕ}
use Rattle.rules.specs.Checker.{CheckAnswer}
use Rattle.rules.specs.Answers.{PlanLeft, PlanNumbers, CheckNumbers}
use Rattle.handing.specs.Reply.{Reply}

-- an answer that was handed out is right, where it is known to be the one that is
pub reply_right : {A : Type 0} {numbers : A → List ℕ} {Right : A → Type 0} {b : A} {was now : List ℕ} {r : ℕ} → Reply numbers (λ a. a ≡ b) was now r → Right b → Reply numbers Right was now r
reply_right {Right = Right} x y = record { said = x.said; right = subst Right (sym x.right) y; answer = x.answer; returned = x.returned }

-- the answer to a job's items is that to the slice that holds them
pub checked_slice : (flat : List ℕ) {us vs : List ℕ} {a : CheckAnswer} → us ≡ vs → CheckNumbers flat us a → CheckNumbers flat vs a
checked_slice flat {a = a} e = subst (λ ws. CheckNumbers flat ws a) e

pub planned_slice : {arena buffer us vs : List ℕ} {left : PlanLeft} → us ≡ vs → PlanNumbers arena buffer us left → PlanNumbers arena buffer vs left
planned_slice {arena} {buffer} {left = left} e = subst (λ ws. PlanNumbers arena buffer ws left) e
