-- From what was read of a plan text to the checker's answer to it. Assumes nothing.
use mathlib.Core.Path.{◌≡◌, refl, sym, ap, ◌∙◌, subst}
use mathlib.Core.Logic.{◌≢◌}
use mathlib.Core.Option.{Option, none, some}
use mathlib.Core.List.{List, ◌∷◌, ◌++◌}
use Prim.Native.Nat.{ℕ, ◌≤◌}
use native.Mathlib.Omega.{arith}
use native.Mathlib.Decide.{dec_le}
use lib.ListN.{length, take}
use Rattle.rules.specs.Limits.{types_most, pieces_most}
use Rattle.rules.specs.Items.{ranges, out_of_range, numbers_from, placements_from}
use Rattle.rules.specs.Numbers.{entries}
use Rattle.rules.specs.Checker.{CheckAnswer, refused, Checked}
use Rattle.rules.specs.Answers.{outside, within, no_text, a_text, CheckNumbers, CheckText}
use Rattle.rules.proofs.Ranges.{kept as in-ranges, this, those}
use Rattle.std.specs.Prelude.{Err}
use Rattle.shapes.specs.Answer.{check_answer}
use Rattle.shapes.specs.Handed.{items_of}
use Rattle.shapes.specs.declared.Refusal.{Refusal}
use Rattle.shapes.specs.declared.Job.{Job}
use Rattle.reading.specs.Placements.{numbers_of_placements}
use Rattle.texts.specs.Plan.{PlanTextLeft, plan_left, kept, short, PlanRead}
use Rattle.texts.proofs.Refusals.{some_number}
use Rattle.texts.proofs.Judged.{out_early, count_out}
use Rattle.texts.proofs.Behind.{numbers_behind, placements_behind}

none_some : {A : Type 0} {i : ℕ} → ◌≡◌ {A = Option ℕ} none (some i) → A
none_some e = absurd (let z : ◌≡◌ {A = ℕ} 0 1 = cc in omega arith)

-- where all items are in range, those of the job are
job_fine : (job : Job) (ws : List ℕ) → out_of_range (items_of job ++ ws) ≡ none → out_of_range (items_of job) ≡ none
job_fine job ws e = go (out_of_range (items_of job)) refl
  where
    go : (o : Option ℕ) → out_of_range (items_of job) ≡ o → out_of_range (items_of job) ≡ none
    go none k = k
    go (some i) k = none_some (sym e ∙ out_early 0 (ranges job.count) (items_of job) ws k)

room : (job : Job) → out_of_range (items_of job) ≡ none → job.count ≤ types_most
room job e = (this (those (those (those (those (in-ranges 0 (ranges job.count) (items_of job) e)))))).high

-- and there are no more placements than a plan may have
few : (job : Job) → length job.types ≡ types_most → (n : ℕ) (flat : List ℕ) → out_of_range (items_of job ++ n ∷ flat) ≡ none → n ≤ pieces_most
few job s n flat e = go (dec_le n pieces_most)
  where
    go : Dec (n ≤ pieces_most) → n ≤ pieces_most
    go (yes h) = h
    go (no h) = none_some (sym e ∙ count_out job s (job_fine job (n ∷ flat) e) n flat (omega arith))

-- refusals 1 and 2 of the text are the checker's; a buffer of that length is never too short
pub refuses : {was t : List ℕ} {a : PlanTextLeft} → length was ≡ numbers_of_placements pieces_most → PlanRead was t a → a.number ≢ 0 → CheckText t (refused a.number a.place)
refuses l (no_text x) h = no_text x
refuses l (a_text x (outside e)) h = a_text x (outside e)
refuses l (a_text x (within e (kept i s d r z q))) h = absurd (h refl)
refuses l (a_text x (within e (short job n flat i s g k))) h = absurd (omega (arith, l, k, few job s n flat (subst (λ vs. out_of_range vs ≡ none) i e)))

pub refuses_told : {was t now : List ℕ} → length was ≡ numbers_of_placements pieces_most → (r : Refusal) → PlanRead was t (plan_left (Err r) now) → CheckText t (check_answer (Err r))
refuses_told l r x = refuses l x (some_number r)

-- the placements fit the buffer
pub record Fits (was : List ℕ) (a : PlanTextLeft) : Type 0 where
  pub room : numbers_of_placements a.placements ≤ length was
  pub size : length a.buffer ≡ length was

pub fits : {was t : List ℕ} {a : PlanTextLeft} → PlanRead was t a → a.number ≡ 0 → Fits was a
fits (no_text x) z = absurd (omega arith)
fits (a_text x (outside e)) z = absurd (omega arith)
fits (a_text x (within e (kept i s d r k q))) z = record { room = r; size = k }
fits (a_text x (within e (short job n flat i s g k))) z = absurd (omega arith)

-- the checker's answer to the job and the placements is that to the text
pub answers : {was t : List ℕ} {a : PlanTextLeft} → PlanRead was t a → a.number ≡ 0 → {b : CheckAnswer} → CheckNumbers (take (numbers_of_placements a.placements) a.buffer) (items_of a.job) b → CheckText t b
answers (no_text x) z y = absurd (omega arith)
answers (a_text x (outside e)) z y = absurd (omega arith)
answers (a_text x (within e (short job n flat i s g k))) z y = absurd (omega arith)
answers {t = t} (a_text {vs = vs} x (within e (kept {job = job} {n = n} {now = now} i s d r k q))) z y = go y
  where
    whole : out_of_range (items_of job ++ n ∷ take (numbers_of_placements n) now) ≡ none
    whole = subst (λ us. out_of_range us ≡ none) i e

    fine : out_of_range (items_of job) ≡ none
    fine = job_fine job (n ∷ take (numbers_of_placements n) now) whole

    numbers : numbers_from vs ≡ numbers_from (items_of job)
    numbers = ap numbers_from i ∙ numbers_behind job s (room job fine) (n ∷ take (numbers_of_placements n) now)

    list : placements_from vs ≡ take (numbers_of_placements n) now
    list = ap placements_from i ∙ placements_behind job s (room job fine) n (take (numbers_of_placements n) now)

    go : {b : CheckAnswer} → CheckNumbers (take (numbers_of_placements n) now) (items_of job) b → CheckText t b
    go (outside o) = none_some (sym fine ∙ o)
    go {b} (within o c) = a_text x (within e (subst (λ m. Checked m (entries (placements_from vs)) b) (sym numbers) (subst (λ l. Checked (numbers_from (items_of job)) (entries l) b) (sym list) c)))
