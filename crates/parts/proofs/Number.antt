-- How many parts counts have. Assumes nothing.
use mathlib.Core.Path.{◌≡◌, sym, ap, ◌∙◌}
use mathlib.Core.Bool.{false}
use mathlib.Core.List.{List, [], ◌∷◌}
use Prim.Native.Nat.{ℕ, suc, ◌+◌, ◌*◌, ◌≤◌, ◌<◌}
use native.Mathlib.Omega.{arith}
use native.Mathlib.Nat.{mul_assoc, mul-le-mul_left}
use native.Mathlib.Numerals.{add-one}
use lib.Dec.{leb}
use lib.ListN.{length, get_or, take, drop, length-take, drop_of_length-le}
use lib.Seq.{drop-cons, get_or-take}
use borrow.Author.Tests.{lt-leb}
use Rattle.parts.specs.Parts.{parts_of}

some_parts : (c : List ℕ) → 1 ≤ parts_of c
unfolding parts_of
some_parts [] = omega arith
some_parts (x ∷ c) = omega (arith, some_parts c, mul-le-mul_left {m = 1} {n = parts_of c} (suc x) (some_parts c))

-- as far as parts have been counted
pub record Counting (types : ℕ) (c : List ℕ) (r i : ℕ) : Type 0 where
  pub upto : i ≤ types
  pub total : r * parts_of (drop i (take types c)) ≡ parts_of (take types c)

pub counting_start : (types : ℕ) (c : List ℕ) → Counting types c 1 0
counting_start types c = record { upto = omega arith; total = omega arith }

module _ {types : ℕ} {c : List ℕ} {r i : ℕ} (h : Counting types c r i) where
  pub counting_more : {m : ℕ} → i < types → types ≤ length c → m ≡ r * suc (get_or c i 0) → Counting types c m (i + 1)
  unfolding parts_of
  counting_more {m} l t e =
      let k = take types c in
      let g = drop-cons k i 0 (simp length-take (omega arith)) in
      let d = get_or-take types c i 0 l in
      let f : parts_of (drop i k) ≡ suc (get_or c i 0) * parts_of (drop (suc i) k) = ap parts_of (g ∙ (λ j. d j ∷ drop (suc i) k)) in
      record {
        upto = omega arith;
        total = ap (λ z. z * parts_of (drop (i + 1) k)) e ∙ ap (λ z. r * suc (get_or c i 0) * parts_of (drop z k)) (add-one i) ∙ mul_assoc r (suc (get_or c i 0)) (parts_of (drop (suc i) k)) ∙ ap (λ z. r * z) (sym f) ∙ h.total;
      }

  -- some types have more parts already
  pub counting_over : {most : ℕ} → most < r → leb (parts_of (take types c)) most ≡ false
  counting_over {most} l = lt-leb (parts_of (take types c)) most (omega (arith, h.total, mul-le-mul_left {m = 1} {n = parts_of (drop i (take types c))} r (some_parts (drop i (take types c)))))

  pub counting_end : types ≤ i → r ≡ parts_of (take types c)
  unfolding parts_of
  counting_end l =
      let z : length (take types c) ≤ i = simp length-take (omega arith) in
      let e : drop i (take types c) ≡ [] = drop_of_length-le (take types c) z in
      omega (arith, h.total, ap (λ v. r * parts_of v) e)
