-- What the pieces of a list earn, from the last to the first. Assumes nothing.
use mathlib.Core.Path.{◌≡◌, refl, sym, ap, ◌∙◌}
use mathlib.Core.List.{List, ◌∷◌, map}
use Prim.Native.Nat.{ℕ, zero, suc, ◌+◌, ◌*◌, ◌-◌, ◌≤◌, ◌<◌}
use native.Mathlib.Omega.{arith}
use lib.ListN.{length, drop, drop_of_length-le, get_or-map}
use lib.Seq.{drop-cons}
use Rattle.rules.specs.Limits.{profit_most}
use Rattle.rules.specs.Placed.{of_type, worth}
use Rattle.rules.specs.Numbers.{PieceType, Entry, entries, no_type, job_of, lying}
use Rattle.rules.specs.Planner.{slots_of}
use Rattle.shapes.specs.Handed.{numbers_of, entry_of}
use Rattle.shapes.specs.declared.Job.{Job}
use Rattle.shapes.specs.declared.PieceType as declared
use Rattle.shapes.specs.declared.Placement.{Placement}
use Rattle.placing.specs.Place.{no_entry, entry_at, TypeOf}
use Rattle.placing.proofs.Entries.{length_entries}

-- the total is what the entries from i on earn
pub record Summing (j : Job) (flat : List ℕ) (i total : ℕ) : Type 0 where
  pub within : i ≤ slots_of (length flat)
  pub sum : total ≡ worth (job_of (numbers_of j)) (lying (numbers_of j) (drop i (entries flat)))
  pub bound : total ≤ profit_most * (slots_of (length flat) - i)

pub summing_start : {j : Job} {flat : List ℕ} {i : ℕ} → i ≡ slots_of (length flat) → Summing j flat i 0
summing_start {j} {flat} {i} e = record {
  within = omega arith;
  sum = ap (λ l. worth (job_of (numbers_of j)) (lying (numbers_of j) l)) (sym (drop_of_length-le (entries flat) {i = i} (omega (arith, length_entries flat))));
  bound = omega arith;
}

profit_of : (ts : List PieceType) (t : ℕ) → of_type 0 (map (λ (q : PieceType). q.profit) ts) t ≡ (of_type no_type ts t).profit
profit_of ts zero = refl
profit_of ts (suc t) = get_or-map (λ (q : PieceType). q.profit) ts t no_type

module _ {j : Job} {flat : List ℕ} {i total : ℕ} (s : Summing j flat i total) (h : 0 < i) (p : Placement) (at : entry_of p ≡ entry_at flat (i - 1)) (t : declared.PieceType) (is : TypeOf j p.kind t) where
  pub summing_next : Summing j flat (i - 1) (total + t.profit)
  summing_next =
      let n = numbers_of j in
      let c = drop-cons (entries flat) (i - 1) no_entry (omega (arith, length_entries flat, s.within)) in
      let z : suc (i - 1) ≡ i = omega arith in
      let d : drop (i - 1) (entries flat) ≡ entry_at flat (i - 1) ∷ drop i (entries flat) = c ∙ ap (λ m. entry_at flat (i - 1) ∷ drop m (entries flat)) z in
      let k : of_type 0 (job_of n).profits (entry_at flat (i - 1)).type ≡ t.profit = ap (λ (u : Entry). of_type 0 (job_of n).profits u.type) (sym at) ∙ profit_of n.types p.kind ∙ ap (λ (q : PieceType). q.profit) (sym is.is) in
      record {
        within = omega (arith, s.within);
        sum = rw d (omega (arith, k, s.sum));
        bound = omega (arith, s.bound, s.within, is.range.profit.high);
      }
