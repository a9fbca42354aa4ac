-- The most that counts can be, and counts as bounds. Assumes nothing.
use Rattle.std.specs.Prelude.{◌≡◌, List, ℕ, ◌*◌, ◌≤◌, ◌<◌, get_or, take}
use Rattle.rules.specs.Limits.{types_most}

-- the most that a count can be, and that the counts of a record can add up to
abbrev pub byte_most : ℕ
byte_most = 255

abbrev pub counts_most : ℕ
counts_most = types_most * byte_most

-- so many bytes of a record are compared with bounds at once
abbrev pub bounds_most : ℕ
bounds_most = 16

-- r bounds the counts of so many types by c, and no byte behind them
pub record BoundsOf (types : ℕ) (c r : List ℕ) : Type 0 where
  pub few : types ≤ types_most
  pub counts : take types r ≡ take types c
  pub behind : (i : ℕ) → types ≤ i → i < bounds_most → get_or r i 0 ≡ byte_most
