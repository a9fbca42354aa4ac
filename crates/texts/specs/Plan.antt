-- What the reader of plan texts answers, and leaves in the lent buffer. Assumes nothing.
use Rattle.std.specs.Prelude.{◌≡◌, List, ◌∷◌, ◌++◌, ℕ, ◌+◌, ◌*◌, ◌≤◌, ◌<◌, length, take, drop, Result, Ok, Err}
use Rattle.rules.specs.Limits.{types_most, pieces_most}
use Rattle.rules.specs.Text.{plan_text}
use Rattle.rules.specs.Answers.{Read}
use Rattle.shapes.specs.Answer.{number_of, place_of}
use Rattle.shapes.specs.Handed.{items_of}
use Rattle.shapes.specs.declared.Refusal.{Refusal}
use Rattle.shapes.specs.declared.Refusal.TheVariants.{OutOfRange, BufferShort}
use Rattle.shapes.specs.declared.Job.{Job}
use Rattle.reading.specs.Pieces.{no_types, no_job}
use Rattle.reading.specs.Placements.{numbers_of_placements}
use Rattle.texts.specs.declared.PlanText.{PlanText}

pub record PlanTextLeft : Type 0 where
  pub number : ℕ
  pub place : ℕ
  pub job : Job
  pub placements : ℕ
  pub buffer : List ℕ

-- a refused text has no job and no placements, and leaves the buffer
abbrev pub no_plan_at : List ℕ → ℕ → ℕ → PlanTextLeft
no_plan_at buffer number place = record { number = number; place = place; job = no_job; placements = 0; buffer = buffer }

abbrev pub plan_left : Result PlanText Refusal → List ℕ → PlanTextLeft
plan_left (Ok r) buffer = record { number = 0; place = 0; job = r.job; placements = r.placements; buffer = buffer }
plan_left (Err r) buffer = no_plan_at buffer (number_of r) (place_of r)

-- the job and the placements whose items these are; numbers past the placements stay. A buffer too short for them is refusal 5, after 2.
pub data PlanOf (buffer vs : List ℕ) : PlanTextLeft → Type 0 where
  kept : {job : Job} {n : ℕ} {now : List ℕ} → vs ≡ items_of job ++ n ∷ take (numbers_of_placements n) now → length job.types ≡ types_most → drop job.count job.types ≡ drop job.count no_types →
      numbers_of_placements n ≤ length buffer → length now ≡ length buffer → drop (numbers_of_placements n) now ≡ drop (numbers_of_placements n) buffer →
      PlanOf buffer vs (record { number = 0; place = 0; job = job; placements = n; buffer = now })
  short : (job : Job) (n : ℕ) (flat : List ℕ) → vs ≡ items_of job ++ n ∷ flat → length job.types ≡ types_most → length flat ≡ numbers_of_placements n → length buffer < numbers_of_placements n → PlanOf buffer vs (no_plan_at buffer 5 0)

-- refusal 1, refusal 2, or the job and its placements
abbrev pub PlanRead : List ℕ → List ℕ → PlanTextLeft → Type 0
PlanRead buffer = Read (no_plan_at buffer) plan_text (PlanOf buffer)

-- the step to it: the placements of a job in range
pub data PlanKept (job : Job) (count : ℕ) (numbers was : List ℕ) : List ℕ → Result ℕ Refusal → Type 0 where
  many : pieces_most < count → PlanKept job count numbers was was (Err (OutOfRange (5 + 4 * job.count)))
  no_room : count ≤ pieces_most → length was < numbers_of_placements count → PlanKept job count numbers was was (Err BufferShort)
  copied : {now : List ℕ} → count ≤ pieces_most → numbers_of_placements count ≤ length was → now ≡ take (numbers_of_placements count) numbers ++ drop (numbers_of_placements count) was → PlanKept job count numbers was now (Ok count)
