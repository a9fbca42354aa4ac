-- A part of what can be parted can be parted, in any order. Assumes nothing.
use mathlib.Core.Path.{◌≡◌, refl}
use mathlib.Core.Bool.{Bool}
use mathlib.Core.Logic.{◌⊎◌, inl, inr}
use mathlib.Core.List.{List}
use Prim.Native.Nat.{ℕ, zero, suc, ◌<◌}
use native.Mathlib.Omega.{arith}
use Rattle.rules.specs.Bag.{keep, count, other, Within, Same}
use Rattle.rules.proofs.Bags.{length_keep, within_keep, within_other, within_side, within_all, within_length, same_within}
use Rattle.rules.specs.Box.{Box}
use Rattle.rules.specs.Parted.{CanBeParted, before, clear, cut, few}

zero_or : (n : ℕ) → (n ≡ 0) ⊎ (0 < n)
zero_or zero = inl refl
zero_or (suc n) = inr (omega arith)

-- whatever pieces are taken away, the cuts that parted all still part the rest
pub part : {ps : List Box} → CanBeParted ps → (qs : List Box) → Within qs ps → CanBeParted qs
part {ps} (few h) qs s = few {bs = qs} (omega (arith, within_length qs ps s))
part {ps} (cut w line c pf pr) qs s = sides (zero_or (count b qs)) (zero_or (count (other b) qs))
    (λ rs k. part pf rs k) (λ rs k. part pr rs k)
  where
    b : Box → Bool
    b = before w line

    sides : (count b qs ≡ 0) ⊎ (0 < count b qs) → (count (other b) qs ≡ 0) ⊎ (0 < count (other b) qs) →
        ((rs : List Box) → Within rs (keep b ps) → CanBeParted rs) → ((rs : List Box) → Within rs (keep (other b) ps) → CanBeParted rs) → CanBeParted qs
    sides (inl e) d f r = r qs (within_other b qs ps e s)
    sides (inr h) (inl e) f r = f qs (within_side b qs ps e s)
    sides (inr h) (inr k) f r = cut {bs = qs} w line
        (record { whole = within_all (clear w line) s c.whole; some_first = omega (arith, length_keep b qs); some_rest = omega (arith, length_keep (other b) qs) })
        (f (keep b qs) (within_keep b qs ps s)) (r (keep (other b) qs) (within_keep (other b) qs ps s))

-- the order of a list does not matter
pub reorder : {ps : List Box} → CanBeParted ps → (qs : List Box) → Same qs ps → CanBeParted qs
reorder {ps} h qs s = part h qs (same_within qs ps s)
