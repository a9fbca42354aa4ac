-- What the planner's steps ask for, answer and leave. Assumes nothing.
use Rattle.std.specs.Prelude.{◌≡◌, ℕ, ◌≤◌, ◌<◌, length, replicate, Result}
use mathlib.Core.List.{List, Memᴰ}
use Rattle.rules.specs.Job as rules
use Rattle.rules.specs.Planner.{room_of, slots_of, FitsAlone, Planned, BufferLeft, arena_after}
use Rattle.rules.specs.Answers.{PlanLeft}
use Rattle.rules.proofs.Unfold.{Valid}
use Rattle.shapes.specs.declared.Job.{Job}
use Rattle.shapes.specs.declared.Plan.{Plan}
use Rattle.shapes.specs.declared.Refusal.{Refusal}
use Rattle.shapes.specs.Answer.{plan_answer}
use Rattle.shapes.specs.Handed.{numbers_of, JobInRange}
use Rattle.outline.specs.Stands.{job_for}
use Rattle.outlines.specs.Listing.{recs_in, outlines_in}

-- some type fits alone
pub record SomeFits (job : Job) : Type 0 where
  pub piece : rules.Piece
  pub single : Memᴰ piece (job_for job).singles
  pub fits : FitsAlone (job_for job) piece

pub record Fitting (job : Job) : Type 0 where
  pub range : JobInRange job
  pub some : SomeFits job

-- n records of the arena hold all outlines of the job, and there is one
pub record Choosing (job : Job) (s : List ℕ) (n : ℕ) : Type 0 where
  pub range : JobInRange job
  pub some : 0 < n
  pub room : n ≤ room_of (length s)
  pub all : rules.AllOutlines (job_for job) (outlines_in job s n)
  pub valid : Valid (job_for job) (recs_in job s n)

-- the answer to a job of which some type fits, in an arena of so many bytes, and what it leaves in the plan buffer; the arena is to be wiped
pub record Answered (job : Job) (bytes : ℕ) (before after : List ℕ) (r : Result Plan Refusal) : Type 0 where
  pub planned : Planned (job_for job) (room_of bytes) (slots_of (length before)) (plan_answer r)
  pub buffer : BufferLeft (numbers_of job) (plan_answer r).number before after
  pub wiped : (s : List ℕ) → arena_after (plan_answer r).number s ≡ replicate (length s) 0

-- what planning a job in range leaves of a lent arena and a lent buffer
pub record Left (job : Job) (arena buffer : List ℕ) (left : PlanLeft) : Type 0 where
  pub planned : Planned (job_for job) (room_of (length arena)) (slots_of (length buffer)) left.answer
  pub arena_left : left.arena ≡ arena_after left.answer.number arena
  pub buffer_left : BufferLeft (numbers_of job) left.answer.number buffer left.buffer
