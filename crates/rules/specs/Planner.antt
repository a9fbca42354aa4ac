-- The planner's answer to a job whose numbers are in range: refusals 3 to 5, or done; and what it leaves in plan buffer and arena. Assumes nothing.
use Rattle.std.specs.Prelude.{◌≡◌, Bool, true, false, ◌||◌, ◌⊎◌, ◌≢◌, List, [], ◌∷◌, ℕ, ◌*◌, ◌/◌, ◌≤◌, ◌<◌, min, length, take, drop, replicate, eqb}
use Rattle.rules.specs.Limits.{record_bytes, records_most, placement_numbers}
use Rattle.rules.specs.Bag.{All}
use Rattle.rules.specs.Made.{MoreThan}
use Rattle.rules.specs.Job.{Piece, Job, Outline, alone, Fits, Build, AllOutlines, profit, pieces, Best}
use Rattle.rules.specs.Placed.{InOutline, counts_of, Accepted}
use Rattle.rules.specs.Numbers.{Numbers, job_of, Entry, entries, lying}

-- what "plan" prints: number, place, profit, length, width, pieces, N
pub record PlanAnswer : Type 0 where
  pub number : ℕ
  pub place : ℕ
  pub profit : ℕ
  pub long : ℕ
  pub wide : ℕ
  pub pieces : ℕ
  pub outlines : ℕ

-- "All other fields of a refusal are 0."
abbrev pub no_plan : ℕ → ℕ → PlanAnswer
no_plan number place = record { number = number; place = place; profit = 0; long = 0; wide = 0; pieces = 0; outlines = 0 }

-- the best outline, out of so many
abbrev pub plan_of : Job → Outline → ℕ → PlanAnswer
plan_of j o outlines = record { number = 0; place = 0; profit = profit j o; long = o.long; wide = o.wide; pieces = pieces o; outlines = outlines }

-- "Its room is its length divided by 32, rounded down, and at most 65,535 records."
abbrev pub room_of : ℕ → ℕ
room_of bytes = min (bytes / record_bytes) records_most

-- "its room is its length divided by 3, rounded down"
abbrev pub slots_of : ℕ → ℕ
slots_of numbers = numbers / placement_numbers

-- one piece whose grown size fits the sheet
abbrev pub FitsAlone : Job → Piece → Type 0
FitsAlone j p = Fits j (alone j p)

-- the answer, with room for so many records and slots for so many placements; "Order: .. 3, 4, 5 for planning"
pub data Planned (j : Job) (room slots : ℕ) : PlanAnswer → Type 0 where
  none_fits : All (λ p. ¬ FitsAlone j p) j.singles → Planned j room slots (no_plan 3 0)
  too_many : MoreThan (Build j) room → Planned j room slots (no_plan 4 0)
  no_slots : {l : List Outline} {o : Outline} → AllOutlines j l → length l ≤ room → Best j o → slots < pieces o → Planned j room slots (no_plan 5 0)
  done : {l : List Outline} {o : Outline} → AllOutlines j l → length l ≤ room → Best j o → pieces o ≤ slots → Planned j room slots (plan_of j o (length l))

-- "in order of y, then x"
abbrev pub NotBehind : Entry → Entry → Type 0
NotBehind e u = (e.y < u.y) ⊎ ((e.y ≡ u.y) × (e.x ≤ u.x))

pub data InOrder : List Entry → Type 0 where
  none : InOrder []
  last : {e : Entry} → InOrder (e ∷ [])
  next : {e u : Entry} {l : List Entry} → NotBehind e u → InOrder (u ∷ l) → InOrder (e ∷ u ∷ l)

-- "They are a list that the checker accepts, with exactly that outline's counts", in order, "all within the best outline"
pub record PlanFor (n : Numbers) (o : Outline) (l : List Entry) : Type 0 where
  pub accepted : Accepted (job_of n) (lying n l)
  pub counts : counts_of (job_of n) (lying n l) ≡ o.counts
  pub inside : All (InOutline o) (lying n l)
  pub ordered : InOrder l

-- the numbers that the placements of an outline take up
abbrev pub numbers_for : Outline → ℕ
numbers_for o = placement_numbers * pieces o

-- the buffer holds a plan of the outline; "the rest of the buffer keeps its numbers"
pub record Written (n : Numbers) (o : Outline) (was now : List ℕ) : Type 0 where
  pub same_length : length now ≡ length was
  pub plan : PlanFor n o (entries (take (numbers_for o) now))
  pub rest : drop (numbers_for o) now ≡ drop (numbers_for o) was

-- 0 writes a plan of the best outline; "Every refusal leaves the plan buffer .. untouched."
pub record BufferLeft (n : Numbers) (number : ℕ) (was now : List ℕ) : Type 0 where
  pub written : number ≡ 0 → (o : Outline) × Best (job_of n) o × Written n o was now
  pub kept : number ≢ 0 → now ≡ was

abbrev pub pick : {A : Type 0} → Bool → A → A → A
pick true a b = a
pick false a b = b

-- the column "arena" of the refusal table: zeros after 0, 4 and 5. '"Zeros" means every byte lent.'
abbrev pub arena_after : ℕ → List ℕ → List ℕ
arena_after number was = pick (eqb number 0 || (eqb number 4 || eqb number 5)) (replicate (length was) 0) was
