-- The entries of a list of flat numbers by their places. Assumes nothing.
use mathlib.Core.Path.{◌≡◌, refl}
use mathlib.Core.List.{List, [], ◌∷◌}
use Prim.Native.Nat.{ℕ, zero, suc, ◌+◌, ◌*◌, ◌<◌}
use native.Mathlib.Omega.{arith}
use lib.ListN.{length, get_or}
use Rattle.rules.specs.Numbers.{entries}
use Rattle.rules.specs.Planner.{slots_of}
use Rattle.placing.specs.Place.{entry_at}

pub length_entries : (flat : List ℕ) → length (entries flat) ≡ slots_of (length flat)
length_entries [] = omega arith
length_entries (a ∷ []) = omega arith
length_entries (a ∷ b ∷ []) = omega arith
length_entries (a ∷ b ∷ c ∷ flat) = omega (arith, length_entries flat)

pub entry_is : (flat : List ℕ) (i : ℕ) → i < slots_of (length flat) → record { type = get_or flat (i * 3) 0; x = get_or flat (i * 3 + 1) 0; y = get_or flat (i * 3 + 2) 0 } ≡ entry_at flat i
entry_is [] i h = absurd (omega arith)
entry_is (a ∷ []) i h = absurd (omega arith)
entry_is (a ∷ b ∷ []) i h = absurd (omega arith)
entry_is (a ∷ b ∷ c ∷ flat) zero h = refl
entry_is (a ∷ b ∷ c ∷ flat) (suc i) h =
    let e0 : suc i * 3 ≡ suc (suc (suc (i * 3))) = omega arith in
    let e1 : suc i * 3 + 1 ≡ suc (suc (suc (i * 3 + 1))) = omega arith in
    let e2 : suc i * 3 + 2 ≡ suc (suc (suc (i * 3 + 2))) = omega arith in
    rw (e1, e2, e0) (entry_is flat i (omega arith))
