-- The first box that overlaps an earlier one: the search of test 9. Assumes nothing.
use mathlib.Core.Path.{◌≡◌, refl, sym, ap, ap₂, ◌∙◌}
use mathlib.Core.Bool.{Bool, true, false, ◌&&◌, ◌||◌}
use mathlib.Core.List.{List}
use Prim.Native.Nat.{ℕ, zero, suc, ◌+◌, ◌≤◌, ◌<◌}
use native.Mathlib.Omega.{arith}
use native.Mathlib.Numerals.{add-one}
use lib.ListN.{length, get_or, take}
use lib.Dec.{ltb}
use borrow.Author.Tests.{lt-ltb}
use Rattle.std.specs.Prelude.{Some, None}
use Rattle.std.specs.List.{list_any}
use Rattle.std.proofs.lemmas.List.Folds.{list_any_more}
use Rattle.rules.specs.Bag.{tick, count}
use Rattle.rules.specs.Box.{Box, along, across, far, overlap}
use Rattle.rules.specs.Numbers.{Numbers, entries, placed}
use Rattle.rules.specs.Planner.{slots_of}
use Rattle.rules.specs.Checker.{overlaps}
use Rattle.parting.specs.Region.{no_lines, box_at, Listed}
use Rattle.parting.specs.declared.Span.{Span}
use Rattle.parting.specs.declared.Lines.{Lines}
use Rattle.placing.specs.Place.{entry_at}
use Rattle.placing.proofs.Seeking.{earlier, Seeking, seek_start, seek_next, seek_found, seek_none}
use Rattle.laying.specs.Laid.{meet, lines_overlap, overlaps_below, Laid, FirstOverlap}

meet_is : (a b : Span) {m n : ℕ} → a.far ≡ m → b.far ≡ n → meet a b ≡ (ltb a.near n && ltb b.near m)
meet_is a b e f = λ d. ltb a.near (f d) && ltb b.near (e d)

-- the lines of boxes that have a size tell whether the boxes overlap
lines_tell : {s : List Lines} {i k : ℕ} → Listed s i → Listed s k → lines_overlap (get_or s i no_lines) (get_or s k no_lines) ≡ overlap (box_at s i) (box_at s k)
lines_tell {s} {i} {k} a b =
    ap₂ (λ (p q : Bool). p && q) (meet_is _ _ {m = far along (box_at s i)} {n = far along (box_at s k)} (omega (arith, a.thick along)) (omega (arith, b.thick along)))
    (meet_is _ _ {m = far across (box_at s i)} {n = far across (box_at s k)} (omega (arith, a.thick across)) (omega (arith, b.thick across)))

either : (a b : Bool) → (a || b) ≡ (b || a)
either true true = refl
either true false = refl
either false true = refl
either false false = refl

one_more : (b : Bool) (n : ℕ) → (b || ltb 0 n) ≡ ltb 0 (tick b n)
one_more true n = sym (lt-ltb 0 (suc n) (omega arith))
one_more false n = refl

-- some earlier box overlaps one where some earlier entry does
some_earlier : (n : Numbers) (flat : List ℕ) (s : List Lines) → Laid n flat s → (v : ℕ) → Listed s v → (i : ℕ) → i ≤ slots_of (length flat)
    → list_any (λ b. lines_overlap b (get_or s v no_lines)) (take i s) ≡ ltb 0 (count (λ u. overlap (placed n u).box (box_at s v)) (earlier i (entries flat)))
some_earlier n flat s laid v lv zero h = refl
some_earlier n flat s laid v lv (suc i) h =
    let li = laid.boxed.listed i (omega arith) in
    let f = λ (b : Lines). lines_overlap b (get_or s v no_lines) in
    ap (λ m. list_any f (take m s)) (sym (add-one i)) ∙ list_any_more f s i no_lines li.there
    ∙ ap₂ (λ (a b : Bool). a || b) (some_earlier n flat s laid v lv i (omega arith)) (lines_tell li lv ∙ ap (λ (b : Box). overlap b (box_at s v)) (laid.at i (omega arith)))
    ∙ either (ltb 0 (count (λ u. overlap (placed n u).box (box_at s v)) (earlier i (entries flat)))) (overlap (placed n (entry_at flat i)).box (box_at s v))
    ∙ one_more (overlap (placed n (entry_at flat i)).box (box_at s v)) (count (λ u. overlap (placed n u).box (box_at s v)) (earlier i (entries flat)))

-- the first i boxes do not overlap, for any job and list whose boxes these are
pub record Sparse (s : List Lines) (boxes i : ℕ) : Type 0 where
  pub within : i ≤ boxes
  pub seeks : (n : Numbers) (flat : List ℕ) → boxes ≡ slots_of (length flat) → Laid n flat s → Seeking (overlaps n) flat i

pub sparse_start : (s : List Lines) (boxes : ℕ) → Sparse s boxes 0
sparse_start s boxes = record { within = omega arith; seeks = λ n flat e l. seek_start (overlaps n) flat }

module _ {s : List Lines} {boxes i : ℕ} (g : Sparse s boxes i) where
  module _ (h : i < boxes) (r : Bool) (is : r ≡ overlaps_below s i) where
    test : (n : Numbers) (flat : List ℕ) → boxes ≡ slots_of (length flat) → Laid n flat s → r ≡ overlaps n (earlier i (entries flat)) (entry_at flat i)
    test n flat e l = is ∙ some_earlier n flat s l i (l.boxed.listed i (omega arith)) i (omega arith) ∙ ap (λ b. overlaps_of n flat b) (l.at i (omega arith))
      where
        overlaps_of : Numbers → List ℕ → Box → Bool
        overlaps_of n flat b = ltb 0 (count (λ u. overlap (placed n u).box b) (earlier i (entries flat)))

    pub sparse_next : r ≡ false → Sparse s boxes (i + 1)
    sparse_next f = record { within = omega arith; seeks = λ n flat e l. seek_next (g.seeks n flat e l) (omega arith) refl (test n flat e l) f }

    pub sparse_found : r ≡ true → FirstOverlap s boxes (Some i)
    sparse_found f = record { first = λ n flat e l. seek_found (g.seeks n flat e l) (omega arith) refl (test n flat e l) f }

  pub sparse_end : boxes ≤ i → FirstOverlap s boxes None
  sparse_end h = record { first = λ n flat e l. seek_none (g.seeks n flat e l) (omega arith) }
