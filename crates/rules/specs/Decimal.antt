-- Numbers in decimal digits. Assumes nothing.
use Rattle.std.specs.Prelude.{List, [], ◌∷◌, ◌++◌, ℕ, ◌+◌, ◌*◌, ◌<◌}

-- the digits of a number as bytes: "no leading zero except 0 itself"
pub data Decimal : List ℕ → ℕ → Type 0 where
  digit : {d : ℕ} → d < 10 → Decimal ((48 + d) ∷ []) d
  more : {ds : List ℕ} {v d : ℕ} → Decimal ds v → 0 < v → d < 10 → Decimal (ds ++ ((48 + d) ∷ [])) (10 * v + d)
