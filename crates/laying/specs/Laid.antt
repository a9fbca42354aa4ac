-- The boxes of a list by their lines, and what the parts of the checker ask for and answer. Assumes nothing.
use Rattle.std.specs.Prelude.{◌≡◌, Bool, ◌&&◌, List, ℕ, ◌≤◌, ◌<◌, length, get_or, take, ltb, Option}
use Rattle.std.specs.List.{list_any}
use Rattle.rules.specs.Numbers.{Numbers, placed}
use Rattle.rules.specs.Planner.{slots_of}
use Rattle.rules.specs.Checker.{off_sheet, overlaps}
use Rattle.shapes.specs.Handed.{numbers_of}
use Rattle.shapes.specs.declared.Job.{Job}
use Rattle.parting.specs.Region.{no_lines, box_at, Listed}
use Rattle.parting.specs.declared.Span.{Span}
use Rattle.parting.specs.declared.Lines.{Lines}
use Rattle.placing.specs.Place.{entry_at, FirstAt, NoneAt, Typed, Demanded}

-- so many boxes, each of a size
pub record Boxed (s : List Lines) (count : ℕ) : Type 0 where
  pub listed : (i : ℕ) → i < count → Listed s i

-- the box of each entry of a list
pub record Laid (n : Numbers) (flat : List ℕ) (s : List Lines) : Type 0 where
  pub boxed : Boxed s (slots_of (length flat))
  pub at : (i : ℕ) → i < slots_of (length flat) → box_at s i ≡ (placed n (entry_at flat i)).box

-- a job in range, and a list in which tests 6 and 7 find nothing
pub record OnSheet (j : Job) (flat : List ℕ) : Type 0 where
  pub typed : Typed j flat
  pub sheet : NoneAt (off_sheet (numbers_of j)) flat

pub record ToLay (j : Job) (flat : List ℕ) (s : List Lines) : Type 0 where
  pub on_sheet : OnSheet j flat
  pub there : slots_of (length flat) ≤ length s

-- and test 8 finds nothing
pub record Ready (j : Job) (flat : List ℕ) : Type 0 where
  pub on_sheet : OnSheet j flat
  pub demanded : Demanded j flat

-- the lines of two boxes, one way: columns or rows are in both
abbrev pub meet : Span → Span → Bool
meet a b = ltb a.near b.far && ltb b.near a.far

abbrev pub lines_overlap : Lines → Lines → Bool
lines_overlap a b = meet a.along b.along && meet a.across b.across

-- box i overlaps an earlier one
abbrev pub overlaps_below : List Lines → ℕ → Bool
overlaps_below s i = list_any (λ b. lines_overlap b (get_or s i no_lines)) (take i s)

-- the first place at which test 9 holds, for any job and list whose boxes these are
pub record FirstOverlap (s : List Lines) (count : ℕ) (r : Option ℕ) : Type 0 where
  pub first : (n : Numbers) (flat : List ℕ) → count ≡ slots_of (length flat) → Laid n flat s → FirstAt (overlaps n) flat r

-- 0, 1, 2 ..
pub record Counted (was now : List ℕ) : Type 0 where
  pub same_length : length now ≡ length was
  pub up : (i : ℕ) → i < length now → get_or now i 0 ≡ i
