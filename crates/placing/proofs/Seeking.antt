-- The search for the first place at which a test holds, entry by entry. Assumes nothing.
use mathlib.Core.Path.{◌≡◌, refl, sym, ap, ◌∙◌}
use mathlib.Core.Bool.{Bool, true, false}
use mathlib.Core.Option.{Option, some}
use Rattle.std.specs.Prelude.{Some, None}
use mathlib.Core.List.{List, [], ◌∷◌}
use Prim.Native.Nat.{ℕ, zero, suc, ◌+◌, ◌≤◌, ◌<◌}
use native.Mathlib.Omega.{arith}
use native.Mathlib.Numerals.{add-one}
use lib.ListN.{length, get_or, drop, drop_of_length-le}
use lib.Seq.{drop-cons}
use Rattle.rules.specs.Numbers.{Entry, entries}
use Rattle.rules.specs.Planner.{slots_of}
use Rattle.rules.specs.Checker.{first_place}
use Rattle.shapes.specs.declared.Placement.{Placement}
use Rattle.placing.specs.Place.{no_entry, entry_at, HoldsOf, FirstAt, AsksAt}
use Rattle.placing.proofs.Entries.{length_entries}

-- the first i entries, the nearest first
abbrev pub earlier : ℕ → List Entry → List Entry
earlier zero l = []
earlier (suc i) l = get_or l i no_entry ∷ earlier i l

-- nothing is found before i, so the search goes on there
pub record Seeking (f : List Entry → Entry → Bool) (flat : List ℕ) (i : ℕ) : Type 0 where
  pub within : i ≤ slots_of (length flat)
  pub left : first_place f 0 [] (entries flat) ≡ first_place f i (earlier i (entries flat)) (drop i (entries flat))

pub seek_start : (f : List Entry → Entry → Bool) (flat : List ℕ) → Seeking f flat 0
seek_start f flat = record { within = omega arith; left = refl }

module _ {f : List Entry → Entry → Bool} {flat : List ℕ} {i : ℕ} (s : Seeking f flat i) where
  module _ (h : i < slots_of (length flat)) {e : Entry} (at : e ≡ entry_at flat i) {r : Bool} (test : r ≡ f (earlier i (entries flat)) e) where
    here : first_place f 0 [] (entries flat) ≡ elim r as (λ (b : Bool). Option ℕ) [ true ↦ some i | false ↦ first_place f (suc i) (earlier (suc i) (entries flat)) (drop (suc i) (entries flat)) ]
    here =
        let c = drop-cons (entries flat) i no_entry (omega (arith, length_entries flat)) in
        let t : f (earlier i (entries flat)) (entry_at flat i) ≡ r = ap (f (earlier i (entries flat))) (sym at) ∙ sym test in
        s.left ∙ ap (first_place f i (earlier i (entries flat))) c ∙ rw t refl

    pub seek_next : r ≡ false → Seeking f flat (i + 1)
    seek_next e = record { within = omega arith; left = rw add-one (rw e at here) }

    pub seek_found : r ≡ true → FirstAt f flat (Some i)
    seek_found e = sym (rw e at here)

  pub seek_none : slots_of (length flat) ≤ i → FirstAt f flat None
  seek_none h = sym (s.left ∙ ap (first_place f i (earlier i (entries flat))) (drop_of_length-le (entries flat) {i = i} (omega (arith, length_entries flat))))

-- the same for any test whose answers these are
pub record SeekingAll (flat : List ℕ) (answers : Placement → Bool → Type 0) (i : ℕ) : Type 0 where
  pub each : (f : List Entry → Entry → Bool) → AsksAt flat (λ p. (b : Bool) → answers p b → HoldsOf f p b) → Seeking f flat i
