-- From what was read of a job text to the planner's answer to it. Assumes nothing.
use mathlib.Core.Path.{◌≡◌, refl, sym, ap, ◌∙◌, subst}
use mathlib.Core.List.{List}
use Prim.Native.Nat.{ℕ}
use native.Mathlib.Omega.{arith}
use Rattle.rules.specs.Planner.{no_plan}
use Rattle.rules.specs.Answers.{Ranged, PlanLeft, refused_plan, PlanItems, PlanNumbers, PlanText, outside, no_text, a_text}
use Rattle.std.specs.Prelude.{Ok, Err}
use Rattle.shapes.specs.declared.Job.{Job}
use Rattle.shapes.specs.Answer.{plan_answer}
use Rattle.shapes.specs.Handed.{items_of}
use Rattle.shapes.specs.declared.Refusal.{Refusal}
use Rattle.texts.specs.Told.{JobAnswer, job_answer, JobRead}
use Rattle.texts.proofs.Refusals.{some_number}
use Rattle.rules.specs.Answers as answers

-- refusals 1 and 2 of the text are the planner's: the arena and the buffer are as they were
refuses : {arena buffer t : List ℕ} {a : JobAnswer} → JobRead t a → ¬ (a.number ≡ 0) → PlanText arena buffer t (refused_plan arena buffer a.number a.place)
refuses (no_text x) h = no_text x
refuses (a_text x (outside e)) h = a_text x (outside e)
refuses (a_text x (answers.within e j)) h = absurd (h j.number)

-- a text refused by its reader is refused with number 1 or 2, after which the arena is untouched
early : {t : List ℕ} {a : JobAnswer} → JobRead t a → ¬ (a.number ≡ 0) → (arena buffer : List ℕ) → refused_plan arena buffer a.number a.place ≡ record { answer = no_plan a.number a.place; arena = arena; buffer = buffer }
early (no_text x) h arena buffer = refl
early (a_text x (outside e)) h arena buffer = refl
early (a_text x (answers.within e j)) h arena buffer = absurd (h j.number)

pub refuses_told : (arena buffer : List ℕ) {t : List ℕ} (r : Refusal) → JobRead t (job_answer (Err r)) → PlanText arena buffer t (record { answer = plan_answer (Err r); arena = arena; buffer = buffer })
refuses_told arena buffer {t} r x = subst (PlanText arena buffer t) (early x (some_number r) arena buffer) (refuses x (some_number r))

-- the planner's answer to the job is that to the text
pub planned_told : {arena buffer t : List ℕ} (job : Job) {left : PlanLeft} → JobRead t (job_answer (Ok job)) → PlanNumbers arena buffer (items_of job) left → PlanText arena buffer t left
planned_told {arena} {buffer} {t} job {left} x y = go x refl refl
  where
    go : {a : JobAnswer} → JobRead t a → a.number ≡ 0 → job ≡ a.job → PlanText arena buffer t left
    go (no_text k) z j = absurd (omega arith)
    go (a_text k (outside o)) z j = absurd (omega arith)
    go {a} (a_text {vs = vs} k (answers.within o i)) z j = a_text k (subst (λ us. Ranged (refused_plan arena buffer) (PlanItems arena buffer) us left) (ap items_of j ∙ i.items) y)
