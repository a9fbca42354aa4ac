-- Two outlines compared, and the best of the arena's records. Assumes nothing.
use Rattle.std.specs.Prelude.{◌≡◌, Bool, true, false, List, ℕ, ◌≤◌, ◌<◌, length}
use Rattle.rules.specs.Job.{NotAfter, AtLeastAsGood}
use Rattle.rules.specs.Planner.{room_of}
use Rattle.shapes.specs.declared.Job.{Job}
use Rattle.shapes.specs.Handed.{JobInRange}
use Rattle.outline.specs.declared.Outline.{Outline}
use Rattle.outline.specs.Stands.{job_for, outline_of}
use Rattle.arena.specs.Records.{record_at}

-- an answer that says which of two lists of numbers comes first
pub record InTurn (a b : List ℕ) (r : Bool) : Type 0 where
  pub yes_if : r ≡ true → NotAfter a b
  pub no_if : r ≡ false → NotAfter b a

-- an answer that says which of two outlines is at least as good as the other
pub record Better (job : Job) (a b : Outline) (r : Bool) : Type 0 where
  pub yes_if : r ≡ true → AtLeastAsGood (job_for job) (outline_of job.count a) (outline_of job.count b)
  pub no_if : r ≡ false → AtLeastAsGood (job_for job) (outline_of job.count b) (outline_of job.count a)

-- the arena has n records, and at least one
pub record Choosable (job : Job) (s : List ℕ) (n : ℕ) : Type 0 where
  pub range : JobInRange job
  pub some : 0 < n
  pub room : n ≤ room_of (length s)

-- record r is at least as good as each of the first n
pub record Top (job : Job) (s : List ℕ) (n r : ℕ) : Type 0 where
  pub low : r < n
  pub top : (i : ℕ) → i < n → AtLeastAsGood (job_for job) (outline_of job.count (record_at s r).outline) (outline_of job.count (record_at s i).outline)
