-- The types of a job handed over, by their numbers, and the entries that are of one. Assumes nothing.
use mathlib.Core.Path.{◌≡◌, refl, sym, ◌∙◌, subst}
use mathlib.Core.Bool.{Bool, false, ◌||◌}
use mathlib.Core.List.{List, [], map}
use lib.Dec.{eqb, ltb}
use borrow.Author.Tests.{eqb-false, ltb-false}
use Prim.Native.Nat.{ℕ, zero, suc, ◌*◌, ◌-◌, ◌≤◌, ◌<◌}
use native.Mathlib.Omega.{arith}
use lib.ListN.{length, get_or, length-map, get_or-map}
use lib.Seq.{get_or-take, length-take-le}
use Rattle.rules.specs.Limits.{demand_most, pieces_most}
use Rattle.rules.specs.Bag.{sum, All, nil, cons}
use Rattle.rules.specs.Placed.{counts_of}
use Rattle.rules.specs.Numbers.{PieceType, Entry, entries, no_type, job_of, lying, placed}
use Rattle.rules.specs.Planner.{slots_of}
use Rattle.rules.specs.Checker.{not_a_type}
use Rattle.rules.proofs.Bools.{or_false}
use Rattle.rules.proofs.Bags.{all_index, all_image}
use Rattle.rules.proofs.Ranges.{TypeInRange}
use Rattle.rules.proofs.Tally as tally
use Rattle.rules.proofs.Accept.{types_of, types_kept, demands_kept}
use Rattle.shapes.specs.Handed.{type_of, numbers_of, entry_of, JobInRange}
use Rattle.shapes.specs.declared.Job.{Job}
use Rattle.shapes.specs.declared.PieceType as declared
use Rattle.shapes.specs.declared.Placement.{Placement}
use Rattle.placing.specs.Place.{no_entry, entry_at, OfJob, TypeOf, Typed, Demanded}
use Rattle.placing.proofs.Entries.{length_entries}

abbrev no_line : declared.PieceType
no_line = record { length = 0; width = 0; profit = 0; demand = 0 }

module _ (j : Job) (f : JobInRange j) where
  pub types_count : length (numbers_of j).types ≡ j.count
  types_count = length-take-le j.count (map type_of j.types) (omega (arith, f.types, f.count, length-map j.types type_of))

  pub type_at : (kind : ℕ) → OfJob j kind → TypeOf j kind (get_or j.types (kind - 1) no_line)
  type_at zero o = absurd (omega (arith, o.low))
  type_at (suc k) o =
      let z : suc k - 1 ≡ k = omega arith in
      let e : type_of (get_or j.types k no_line) ≡ get_or (numbers_of j).types k no_type =
      sym (get_or-map type_of j.types k no_line) ∙ sym (get_or-take j.count (map type_of j.types) k no_type (omega (arith, o.high))) in
      rw z (record { is = e; range = subst TypeInRange (sym e) (all_index no_type f.numbers.types k (omega (arith, o.high, types_count))) })

-- an entry of a list in which test 6 finds nothing is of a type of the job
pub typed_at : {j : Job} {flat : List ℕ} → Typed j flat → (i : ℕ) → i < slots_of (length flat) → (p : Placement) → entry_of p ≡ entry_at flat i → OfJob j p.kind
typed_at {j} {flat} t i h p e =
    let k = subst (λ (u : Entry). tally.Typed (job_of (numbers_of j)) u.type) (sym e) (all_index no_entry (types_kept (numbers_of j) (entries flat) t.typed) i (omega (arith, length_entries flat))) in
    record { fine = t.fine; low = k.low; high = omega (arith, k.high, types_of (numbers_of j), types_count j t.fine) }

-- "So a plan has at most 600 pieces": the lists that tests 6 and 8 let pass
demand_sum : {ts : List PieceType} → All TypeInRange ts → sum (map (λ t. t.demand) ts) ≤ demand_most * length ts
demand_sum nil = omega arith
demand_sum (cons r a) = omega (arith, r.demand.high, demand_sum a)

pub few_entries : {j : Job} {flat : List ℕ} → Demanded j flat → slots_of (length flat) ≤ pieces_most
few_entries {j} {flat} d =
    let n = numbers_of j in
    let l = entries flat in
    let typed : All (λ p. tally.Typed (job_of n) p.type) (lying n l) = all_image (placed n) (types_kept n l d.typed.typed) in
    omega (arith, tally.sum-at_most (counts_of (job_of n) (lying n l)) (job_of n).demands (demands_kept n l d.demand), tally.pieces_counts typed, length-map l (placed n), length_entries flat, demand_sum d.typed.fine.numbers.types, d.typed.fine.numbers.count.high)

-- test 6 as the code asks it, and what it says of an entry where it finds nothing
pub type_test : (j : Job) → JobInRange j → (p : Placement) (r : Bool) → r ≡ (eqb p.kind 0 || ltb j.count p.kind) → (es : List Entry) → r ≡ not_a_type (numbers_of j) es (entry_of p)
type_test j f p r e es = rw (types_count j f) e

pub of_type_lem : (j : Job) → JobInRange j → (p : Placement) → not_a_type (numbers_of j) [] (entry_of p) ≡ false → OfJob j p.kind
of_type_lem j f p e =
    let q = or_false (eqb p.kind 0) (ltb (length (numbers_of j).types) p.kind) e in
    record { fine = f; low = positive p.kind (eqb-false p.kind 0 q.0); high = omega (arith, ltb-false (length (numbers_of j).types) p.kind q.1, types_count j f) }
  where
    positive : (k : ℕ) → ¬ (k ≡ 0) → 0 < k
    positive zero h = absurd (h refl)
    positive (suc k) h = omega arith
