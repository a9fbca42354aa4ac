-- A scan of placement records: the flat numbers that they stand for, and what the state says of those seen so far. Assumes nothing.
use Rattle.std.specs.Prelude.{◌≡◌, Bool, true, false, List, [], ◌∷◌, ◌++◌, ℕ, suc, ◌+◌, ◌*◌, ◌-◌, ◌≤◌, ◌<◌, ◌^◌, length, get_or, take, set, ltb, eqb, Option, Some, None, Result}
use Rattle.std.proofs.Math.Option.{none, some}
use Rattle.rules.specs.Limits.{types_most, demand_most, pieces_most, placement_numbers}
use Rattle.rules.specs.Bag.{count}
use Rattle.rules.specs.Items.{out_of_range}
use Rattle.rules.specs.Numbers.{Entry, entries}
use Rattle.rules.specs.Checker.{not_a_type, off_sheet, above_demand, first_place}
use Rattle.rules.specs.Answers.{CheckNumbers}
use Rattle.shapes.specs.Answer.{number_of, check_answer}
use Rattle.shapes.specs.Handed.{items_of, numbers_of, entry_of, JobInRange}
use Rattle.shapes.specs.declared.Job.{Job}
use Rattle.shapes.specs.declared.Placement.{Placement}
use Rattle.shapes.specs.declared.PieceType as declared
use Rattle.shapes.specs.declared.Drawing.{Drawing}
use Rattle.shapes.specs.declared.Refusal.{Refusal}
use Rattle.shapes.specs.declared.Refusal.TheVariants.{OutOfRange, NotAType, OffSheet, AboveDemand}
use Rattle.placing.specs.Place.{NoneAt, TypeOf}
use Rattle.records.specs.declared.Scan.{Scan}

-- "also as records of three numbers": the flat numbers of a list of records
abbrev pub flat_of : List Placement → List ℕ
flat_of [] = []
flat_of (p ∷ ps) = p.kind ∷ p.x ∷ p.y ∷ flat_of ps

-- a job whose numbers are all in range
abbrev pub InRange : Job → Type 0
InRange j = out_of_range (items_of j) ≡ none

-- what is found of a job before any placement
pub data Began (j : Job) : Option Refusal → Type 0 where
  bad : {item : ℕ} → out_of_range (items_of j) ≡ some item → Began j (Some (OutOfRange item))
  good : InRange j → Began j None

-- a refusal of the job itself, by the refusal table's number
abbrev pub of_job : Option Refusal → Bool
of_job None = false
of_job (Some r) = eqb (number_of r) 2

-- the first of tests 6 to 8 that holds of a placement at i, where so many of its type came before
pub data Tested (j : Job) (counts : List ℕ) (p : Placement) (i : ℕ) : Option Refusal → Type 0 where
  no_type_lem : not_a_type (numbers_of j) [] (entry_of p) ≡ true → Tested j counts p i (Some (NotAType i))
  off : not_a_type (numbers_of j) [] (entry_of p) ≡ false → off_sheet (numbers_of j) [] (entry_of p) ≡ true → Tested j counts p i (Some (OffSheet i))
  above : {t : declared.PieceType} → not_a_type (numbers_of j) [] (entry_of p) ≡ false → off_sheet (numbers_of j) [] (entry_of p) ≡ false → TypeOf j p.kind t → t.demand ≤ get_or counts (p.kind - 1) 0 → Tested j counts p i (Some (AboveDemand i))
  passes : {t : declared.PieceType} → not_a_type (numbers_of j) [] (entry_of p) ≡ false → off_sheet (numbers_of j) [] (entry_of p) ≡ false → TypeOf j p.kind t → get_or counts (p.kind - 1) 0 < t.demand → Tested j counts p i None

abbrev pub choose : Bool → Refusal → Refusal → Refusal
choose true a b = a
choose false a b = b

-- by the refusal table's numbers; of two with one number the older
abbrev pub sooner_of : Option Refusal → Option Refusal → Option Refusal
sooner_of None new = new
sooner_of (Some old) None = Some old
sooner_of (Some old) (Some new) = Some (choose (ltb (number_of new) (number_of old)) new old)

-- there is room for one placement more, whose type counts below every demand's limit
pub record Keeps (s : Scan) (p : Placement) : Type 0 where
  pub low : 0 < p.kind
  pub high : p.kind ≤ types_most
  pub few : get_or s.counts (p.kind - 1) 0 < demand_most
  pub room : s.seen < pieces_most

-- it is counted, and its flat numbers stand behind the others
pub record Kept (s : Scan) (p : Placement) (r : Scan) : Type 0 where
  pub job : r.job ≡ s.job
  pub found : r.found ≡ s.found
  pub seen : r.seen ≡ s.seen + 1
  pub counts : r.counts ≡ set s.counts (p.kind - 1) (get_or s.counts (p.kind - 1) 0 + 1)
  pub flat : r.flat ≡ set (set (set s.flat (s.seen * placement_numbers) p.kind) (s.seen * placement_numbers + 1) p.x) (s.seen * placement_numbers + 2) p.y

-- the entries of a list, the nearest first
abbrev pub onto : List Entry → List Entry → List Entry
onto [] b = b
onto (e ∷ l) b = onto l (e ∷ b)

abbrev pub behind : List Placement → List Entry
behind ps = onto (entries (flat_of ps)) []

-- a job in range, and how many placements were seen
pub record Alive (j : Job) (ps : List Placement) (s : Scan) : Type 0 where
  pub fine : JobInRange j
  pub in_range : InRange j
  pub seen : s.seen ≡ length ps

-- what a clean state keeps: how many of each type, and the flat numbers
pub record Holding (ps : List Placement) (s : Scan) : Type 0 where
  pub types : length s.counts ≡ types_most
  pub held : (k : ℕ) → k < types_most → get_or s.counts k 0 ≡ count (λ u. eqb u.type (suc k)) (behind ps)
  pub room : length s.flat ≡ placement_numbers * pieces_most
  pub flat : take (length ps * placement_numbers) s.flat ≡ flat_of ps

-- the first place of the records at which a test holds
abbrev pub FirstIs : (List Entry → Entry → Bool) → List Placement → ℕ → Type 0
FirstIs f ps i = first_place f 0 [] (entries (flat_of ps)) ≡ some i

-- what is found of the placements ps
pub data Told (j : Job) (ps : List Placement) (s : Scan) : Option Refusal → Type 0 where
  out : {item : ℕ} → out_of_range (items_of j) ≡ some item → Told j ps s (Some (OutOfRange item))
  six : {i : ℕ} → Alive j ps s → FirstIs (not_a_type (numbers_of j)) ps i → Told j ps s (Some (NotAType i))
  seven : {i : ℕ} → Alive j ps s → NoneAt (not_a_type (numbers_of j)) (flat_of ps) → FirstIs (off_sheet (numbers_of j)) ps i → Told j ps s (Some (OffSheet i))
  eight : {i : ℕ} → Alive j ps s → NoneAt (not_a_type (numbers_of j)) (flat_of ps) → NoneAt (off_sheet (numbers_of j)) (flat_of ps) → FirstIs (above_demand (numbers_of j)) ps i → Told j ps s (Some (AboveDemand i))
  clean : Alive j ps s → NoneAt (not_a_type (numbers_of j)) (flat_of ps) → NoneAt (off_sheet (numbers_of j)) (flat_of ps) → NoneAt (above_demand (numbers_of j)) (flat_of ps) → Holding ps s → Told j ps s None

-- the state after the placements ps of a list for the job j
pub record Scanning (j : Job) (ps : List Placement) (s : Scan) : Type 0 where
  pub job : s.job ≡ j
  pub told : Told j ps s s.found

-- the state after the placements of some list
pub record Reached (s : Scan) : Type 0 where
  pub job : Job
  pub seen : List Placement
  pub scanning : Scanning job seen s
  pub fits : length seen + 1 < 2 ^ 64

-- one placement more, whatever came before
pub record Steps (s : Scan) (p : Placement) (r : Scan) : Type 0 where
  pub next : (j : Job) (ps : List Placement) → Scanning j ps s → Scanning j (ps ++ (p ∷ [])) r

-- the core's answer, whatever was seen
pub record Ends (s : Scan) (r : Result Drawing Refusal) : Type 0 where
  pub answer : (j : Job) (ps : List Placement) → Scanning j ps s → CheckNumbers (flat_of ps) (items_of j) (check_answer r)
