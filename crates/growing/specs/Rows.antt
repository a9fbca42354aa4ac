-- Joins of whole classes into a class that grows. Assumes nothing.
use Rattle.std.specs.Prelude.{List, ℕ, ◌+◌, ◌≤◌, ◌<◌, length}
use Rattle.rules.specs.Box.{Way}
use Rattle.rules.specs.Job as rules
use Rattle.rules.specs.Planner.{room_of}
use Rattle.shapes.specs.declared.Job.{Job}
use Rattle.outline.specs.declared.Way as code
use Rattle.outline.specs.Stands.{number_of, side_of}
use Rattle.arena.specs.Records.{link_at}
use Rattle.classes.specs.Orders.{size_in}
use Rattle.classes.specs.Directory.{end_link, Class}
use Rattle.outlines.specs.Listing.{Ready, JoinIn}
use Rattle.growing.specs.Growing.{Growing, pair_of}

-- P holds of each record of class p
abbrev pub OfClass : List ℕ → ℕ → (ℕ → Type 0) → Type 0
OfClass s p P = (q : ℕ) → p ≤ q → q < link_at s p end_link → P q

-- the joins that fit of record i with each record of class b; of each record of class a with each of class b
abbrev pub RowWith : Job → Way → List ℕ → (i b : ℕ) → List rules.Outline → Type 0
RowWith job w s i b l = OfClass s b (λ q. JoinIn job w i q l)

abbrev pub RowsWith : Job → Way → List ℕ → (a b : ℕ) → List rules.Outline → Type 0
RowsWith job w s a b l = OfClass s a (λ i. RowWith job w s i b l)

-- a record and a class whose joins belong to the class that grows
pub record Rowable (job : Job) (s : List ℕ) (start n i b : ℕ) : Type 0 where
  pub ready : Ready job s n
  pub one : i < start
  pub class : Class job.count s start b
  pub growing : Growing job.count s start n (pair_of job s i b)

-- two classes whose joins belong to it
pub record Rowsable (job : Job) (s : List ℕ) (start n a b : ℕ) : Type 0 where
  pub ready : Ready job s n
  pub first : Class job.count s start a
  pub class : Class job.count s start b
  pub growing : Growing job.count s start n (pair_of job s a b)

-- two classes of the arena, wherever its records end
pub record Facing (job : Job) (s : List ℕ) (a b : ℕ) : Type 0 where
  pub upto : ℕ
  pub room : upto ≤ room_of (length s)
  pub first : Class job.count s upto a
  pub class : Class job.count s upto b

-- each record of class a and each of class b are together larger in this way than the sheet
abbrev pub TooLarge : Job → code.Way → List ℕ → (a b : ℕ) → Type 0
TooLarge job way s a b = OfClass s a (λ i. OfClass s b (λ q. side_of job way < size_in s (number_of way) i + size_in s (number_of way) q))
