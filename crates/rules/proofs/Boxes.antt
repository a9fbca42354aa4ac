-- Lines, columns and squares: what it means that boxes overlap. Assumes nothing.
use mathlib.Core.Path.{◌≡◌, refl}
use mathlib.Core.Bool.{Bool, true, false, ◌&&◌, true≢false}
use mathlib.Core.Logic.{inl, inr, ◌↔◌}
use Prim.Native.Nat.{ℕ, ◌≤◌, ◌<◌, max}
use native.Mathlib.Omega.{arith}
use lib.Dec.{ltb}
use borrow.Author.Tests.{ltb-true, ltb-false, lt-ltb, le-ltb}
use Rattle.rules.specs.Box.{Box, Way, along, across, near, far, Apart, overlap}
use Rattle.rules.proofs.Bools.{and_both, both_and, and_false_left, and_false_right}

pub apart_sym : (b c : Box) → Apart b c → Apart c b
apart_sym b c (inl (inl h)) = inl (inr h)
apart_sym b c (inl (inr h)) = inl (inl h)
apart_sym b c (inr (inl h)) = inr (inr h)
apart_sym b c (inr (inr h)) = inr (inl h)

pub apart_by : (w : Way) (b c : Box) → far w b ≤ near w c → Apart b c
apart_by along b c h = inl (inl h)
apart_by across b c h = inr (inl h)

pub apart_of : (b c : Box) → overlap b c ≡ false → Apart c b
apart_of b c e = go (ltb (near along b) (far along c)) refl (ltb (near along c) (far along b)) refl (ltb (near across b) (far across c)) refl (ltb (near across c) (far across b)) refl e
  where
    go : (s : Bool) → ltb (near along b) (far along c) ≡ s → (t : Bool) → ltb (near along c) (far along b) ≡ t → (u : Bool) → ltb (near across b) (far across c) ≡ u → (v : Bool) → ltb (near across c) (far across b) ≡ v → ((s && t) && (u && v)) ≡ false → Apart c b
    go true s true t true u true v e = absurd (true≢false e)
    go true s true t true u false v e = inr (inr (ltb-false _ _ v))
    go true s true t false u z v e = inr (inl (ltb-false _ _ u))
    go true s false t y u z v e = inl (inr (ltb-false _ _ t))
    go false s x t y u z v e = inl (inl (ltb-false _ _ s))

pub of_apart : (b c : Box) → Apart c b → overlap b c ≡ false
of_apart b c (inl (inl h)) = and_false_left (ltb (near across b) (far across c) && ltb (near across c) (far across b)) (and_false_left (ltb (near along c) (far along b)) (le-ltb (near along b) (far along c) h))
of_apart b c (inl (inr h)) = and_false_left (ltb (near across b) (far across c) && ltb (near across c) (far across b)) (and_false_right (ltb (near along b) (far along c)) (le-ltb (near along c) (far along b) h))
of_apart b c (inr (inl h)) = and_false_right (ltb (near along b) (far along c) && ltb (near along c) (far along b)) (and_false_left (ltb (near across c) (far across b)) (le-ltb (near across b) (far across c) h))
of_apart b c (inr (inr h)) = and_false_right (ltb (near along b) (far along c) && ltb (near along c) (far along b)) (and_false_right (ltb (near across b) (far across c)) (le-ltb (near across c) (far across b) h))

-- the column or row number i lies between the lines i and i + 1, and the box takes it up
pub record Takes (w : Way) (b : Box) (i : ℕ) : Type 0 where
  pub starts : near w b ≤ i
  pub ends : i < far w b

-- the square in column c and row r is in both boxes
pub record Shared (b c : Box) : Type 0 where
  pub column : ℕ
  pub row : ℕ
  pub first_column : Takes along b column
  pub second_column : Takes along c column
  pub first_row : Takes across b row
  pub second_row : Takes across c row

-- boxes that have a size overlap exactly if some square of the sheet is in both: a line has no square, so touching is no overlap
pub overlap_shared : (b c : Box) → ((w : Way) → near w b < far w b) → ((w : Way) → near w c < far w c) → (overlap b c ≡ true) ↔ Shared b c
overlap_shared b c hb hc = (
  (λ e.
      let p = and_both (ltb (near along b) (far along c) && ltb (near along c) (far along b)) (ltb (near across b) (far across c) && ltb (near across c) (far across b)) e in
      let q = and_both (ltb (near along b) (far along c)) (ltb (near along c) (far along b)) p.0 in
      let r = and_both (ltb (near across b) (far across c)) (ltb (near across c) (far across b)) p.1 in
      let s = both along (ltb-true _ _ q.0) (ltb-true _ _ q.1) in
      let t = both across (ltb-true _ _ r.0) (ltb-true _ _ r.1) in
      record { column = s.0; row = t.0; first_column = s.1; second_column = s.2; first_row = t.1; second_row = t.2 }),
  (λ s. both_and
      (both_and (meet s.first_column s.second_column) (meet s.second_column s.first_column))
      (both_and (meet s.first_row s.second_row) (meet s.second_row s.first_row))),
)
  where
    meet : {w : Way} {p q : Box} {i : ℕ} → Takes w p i → Takes w q i → ltb (near w p) (far w q) ≡ true
    meet {w} {p} {q} s t = lt-ltb (near w p) (far w q) (omega (arith, s.starts, t.ends))

    both : (w : Way) → near w b < far w c → near w c < far w b → (i : ℕ) × Takes w b i × Takes w c i
    both w h k = (max (near w b) (near w c), record { starts = omega arith; ends = omega (arith, hb w, h, k) }, record { starts = omega arith; ends = omega (arith, hc w, h, k) })
