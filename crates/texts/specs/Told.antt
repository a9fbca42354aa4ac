-- What the readers of texts answer, and leave in the lent buffer. Assumes nothing.
use Rattle.std.specs.Prelude
use Rattle.std.specs.Prelude.{◌≡◌, List, ℕ, ◌≤◌, ◌<◌, length, drop, Some, None, Result, Ok, Err, MatchResult}
use Rattle.std.proofs.Math.Option.{Option, none, some}
use Rattle.rules.specs.Limits.{types_most}
use Rattle.rules.specs.Text.{job_text}
use Rattle.rules.specs.Items.{out_of_range}
use Rattle.rules.specs.Answers.{Read}
use Rattle.shapes.specs.Answer.{number_of, place_of}
use Rattle.shapes.specs.Handed.{items_of}
use Rattle.shapes.specs.declared.Refusal.{Refusal}
use Rattle.shapes.specs.declared.Refusal.TheVariants.{NotInGrammar, OutOfRange}
use Rattle.shapes.specs.declared.Job.{Job}
use Rattle.reading.specs.Pieces.{no_types, no_job}

-- Job texts

pub record JobAnswer : Type 0 where
  pub number : ℕ
  pub place : ℕ
  pub job : Job

-- a refused text has no job
abbrev pub no_job_at : ℕ → ℕ → JobAnswer
no_job_at number place = record { number = number; place = place; job = no_job }

abbrev pub job_answer : Result Job Refusal → JobAnswer
job_answer (Ok job) = record { number = 0; place = 0; job = job }
job_answer (Err r) = no_job_at (number_of r) (place_of r)

-- the job whose items these are; types past its count are none
pub record JobOf (vs : List ℕ) (a : JobAnswer) : Type 0 where
  pub number : a.number ≡ 0
  pub place : a.place ≡ 0
  pub items : items_of a.job ≡ vs
  pub size : length a.job.types ≡ types_most
  pub others : drop a.job.count a.job.types ≡ drop a.job.count no_types

-- refusal 1, refusal 2, or the job
abbrev pub JobRead : List ℕ → JobAnswer → Type 0
JobRead = Read no_job_at job_text JobOf

-- the steps to it: nothing follows what was read up to a place
abbrev pub Ends : List ℕ → ℕ → Result Unit Refusal → Type 0
Ends t at r = MatchResult r (λ _. length t ≤ at) (λ e. (at < length t) × (e ≡ NotInGrammar at))

-- the first item out of range; another sheet count than 1 is item 0
abbrev pub judged : Prelude.Option Job → Option ℕ
judged None = some 0
judged (Some job) = out_of_range (items_of job)

abbrev pub Judged : Prelude.Option Job → Result Job Refusal → Type 0
Judged job r = MatchResult r (λ j. (job ≡ Some j) × (judged job ≡ none)) (λ e. (item : ℕ) × (judged job ≡ some item) × (e ≡ OutOfRange item))
