-- The places of a list of flat numbers, and what the tests of it ask for and answer. Assumes nothing.
use Rattle.std.specs.Prelude.{◌≡◌, Bool, List, [], ℕ, ◌≤◌, ◌<◌, length, get_or, Option, Some, None}
use Rattle.std.proofs.Math.Option as rules
use Rattle.std.proofs.Math.Option.{none, some}
use Rattle.rules.specs.Placed.{of_type}
use Rattle.rules.specs.Numbers.{Entry, entries, no_type}
use Rattle.rules.specs.Planner.{slots_of}
use Rattle.rules.specs.Checker.{not_a_type, above_demand, first_place}
use Rattle.rules.proofs.Ranges.{TypeInRange}
use Rattle.shapes.specs.Handed.{type_of, numbers_of, entry_of, JobInRange}
use Rattle.shapes.specs.declared.Job.{Job}
use Rattle.shapes.specs.declared.PieceType.{PieceType}
use Rattle.shapes.specs.declared.Placement.{Placement}

abbrev pub no_entry : Entry
no_entry = record { type = 0; x = 0; y = 0 }

abbrev pub entry_at : List ℕ → ℕ → Entry
entry_at flat i = get_or (entries flat) i no_entry

-- the place in the rules' words
abbrev pub place_in : Option ℕ → rules.Option ℕ
place_in (Some i) = some i
place_in None = none

-- the answer to a test of a placement, which does not look at those before it
abbrev pub HoldsOf : (List Entry → Entry → Bool) → Placement → Bool → Type 0
HoldsOf f p r = (es : List Entry) → r ≡ f es (entry_of p)

-- the answer is the first place of the list at which the test holds
abbrev pub FirstAt : (List Entry → Entry → Bool) → List ℕ → Option ℕ → Type 0
FirstAt f flat r = place_in r ≡ first_place f 0 [] (entries flat)

-- what may be asked at each placement of the list
abbrev pub AsksAt : List ℕ → (Placement → Type 0) → Type 0
AsksAt flat may = (i : ℕ) → i < slots_of (length flat) → (p : Placement) → entry_of p ≡ entry_at flat i → may p

-- the first place at which answers that are those of a test of the rules say yes
abbrev pub FirstOf : List ℕ → (Placement → Bool → Type 0) → Option ℕ → Type 0
FirstOf flat answers r = (f : List Entry → Entry → Bool) → AsksAt flat (λ p. (b : Bool) → answers p b → HoldsOf f p b) → FirstAt f flat r

-- it holds nowhere
abbrev pub NoneAt : (List Entry → Entry → Bool) → List ℕ → Type 0
NoneAt f flat = first_place f 0 [] (entries flat) ≡ none

-- a job in range, and the number of one of its types
pub record OfJob (j : Job) (kind : ℕ) : Type 0 where
  pub fine : JobInRange j
  pub low : 0 < kind
  pub high : kind ≤ j.count

pub record TypeOf (j : Job) (kind : ℕ) (t : PieceType) : Type 0 where
  pub is : type_of t ≡ of_type no_type (numbers_of j).types kind
  pub range : TypeInRange (type_of t)

-- such a job, and a list in which test 6 finds nothing
pub record Typed (j : Job) (flat : List ℕ) : Type 0 where
  pub fine : JobInRange j
  pub typed : NoneAt (not_a_type (numbers_of j)) flat

-- and test 8 finds nothing
pub record Demanded (j : Job) (flat : List ℕ) : Type 0 where
  pub typed : Typed j flat
  pub demand : NoneAt (above_demand (numbers_of j)) flat
