-- The checker's answer to a list for a job whose numbers are in range: refusals 6 to 10, or accepted. Assumes nothing.
use Rattle.std.specs.Prelude.{◌≡◌, Bool, true, false, not, ◌&&◌, ◌||◌, List, [], ◌∷◌, ℕ, suc, length, eqb, leb, ltb}
use Rattle.std.proofs.Math.Option.{Option, none, some}
use Rattle.rules.specs.Bag.{count}
use Rattle.rules.specs.Box.{along, across, far, overlap}
use Rattle.rules.specs.Parted.{CanBeParted}
use Rattle.rules.specs.Placed.{boxes, of_type, worth}
use Rattle.rules.specs.Numbers.{Numbers, no_type, job_of, Entry, placed, lying}

-- what "check" prints: number, place, profit, pieces
pub record CheckAnswer : Type 0 where
  pub number : ℕ
  pub place : ℕ
  pub profit : ℕ
  pub pieces : ℕ

-- "All other fields of a refusal are 0."
abbrev pub refused : ℕ → ℕ → CheckAnswer
refused number place = record { number = number; place = place; profit = 0; pieces = 0 }

abbrev pub taken : Numbers → List Entry → CheckAnswer
taken n l = record { number = 0; place = 0; profit = worth (job_of n) (lying n l); pieces = length l }

-- Each test is of an entry e and the entries es before it, the nearest first.
-- 6: "a type not in 1 to n"
abbrev pub not_a_type : Numbers → List Entry → Entry → Bool
not_a_type n es e = eqb e.type 0 || ltb (length n.types) e.type

-- 7: "a piece not wholly in the sheet"
abbrev pub off_sheet : Numbers → List Entry → Entry → Bool
off_sheet n es e = let b = (placed n e).box in not (leb (far along b) (job_of n).long && leb (far across b) (job_of n).wide)

-- 8: "a piece that takes its type above the demand"
abbrev pub above_demand : Numbers → List Entry → Entry → Bool
above_demand n es e = leb (of_type no_type n.types e.type).demand (count (λ u. eqb u.type e.type) es)

-- 9: "a piece that overlaps an earlier one"
abbrev pub overlaps : Numbers → List Entry → Entry → Bool
overlaps n es e = ltb 0 (count (λ u. overlap (placed n u).box (placed n e).box) es)

pub record Test : Type 0 where
  pub number : ℕ
  pub holds : List Entry → Entry → Bool

-- "Order: .. 6, 7, 8, 9, 10 for checking."
abbrev pub tests : Numbers → List Test
tests n =
    record { number = 6; holds = not_a_type n }
    ∷ record { number = 7; holds = off_sheet n }
    ∷ record { number = 8; holds = above_demand n }
    ∷ record { number = 9; holds = overlaps n }
    ∷ []

-- the first place at which a test holds; i is the place of the first entry, es are those before it
abbrev pub first_place : (List Entry → Entry → Bool) → ℕ → List Entry → List Entry → Option ℕ
first_place f i es [] = none
first_place f i es (e ∷ l) = elim (f es e) [ true ↦ some i | false ↦ first_place f (suc i) (e ∷ es) l ]

pub data Found : Type 0 where
  nothing : Found
  found : ℕ → ℕ → Found

abbrev pub or_else : ℕ → Option ℕ → Found → Found
or_else number none r = r
or_else number (some place) r = found number place

-- "Each is tried over the whole list before the next, and the first offending place is named."
abbrev pub first_refusal : List Test → List Entry → Found
first_refusal [] l = nothing
first_refusal (t ∷ ts) l = or_else t.number (first_place t.holds 0 [] l) (first_refusal ts l)

pub data Checked (n : Numbers) (l : List Entry) : CheckAnswer → Type 0 where
  refusal : {number place : ℕ} → first_refusal (tests n) l ≡ found number place → Checked n l (refused number place)
  not_parted : first_refusal (tests n) l ≡ nothing → ¬ CanBeParted (boxes (lying n l)) → Checked n l (refused 10 0)
  accepted : first_refusal (tests n) l ≡ nothing → CanBeParted (boxes (lying n l)) → Checked n l (taken n l)
