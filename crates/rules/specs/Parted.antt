-- "Parting a list": which boxes some sequence of through cuts parts. Assumes nothing.
use Rattle.std.specs.Prelude.{◌≡◌, Bool, true, ◌||◌, List, ℕ, ◌≤◌, ◌<◌, length, leb}
use Rattle.rules.specs.Bag.{keep, other, All}
use Rattle.rules.specs.Box.{Box, Way, near, far}

-- wholly on the one side of the line, and wholly on the other
abbrev pub before : Way → ℕ → Box → Bool
before w line b = leb (far w b) line

abbrev pub after : Way → ℕ → Box → Bool
after w line b = leb line (near w b)

-- the line goes through no material
abbrev pub clear : Way → ℕ → Box → Bool
clear w line b = before w line b || after w line b

-- the two sides; where the line is clear, what is not before it is after it
abbrev pub first : Way → ℕ → List Box → List Box
first w line bs = keep (before w line) bs

abbrev pub rest : Way → ℕ → List Box → List Box
rest w line bs = keep (other (before w line)) bs

-- "every piece wholly on one side or the other, at least one piece on each side"
pub record Cut (w : Way) (line : ℕ) (bs : List Box) : Type 0 where
  pub whole : All (λ b. clear w line b ≡ true) bs
  pub some_first : 0 < length (first w line bs)
  pub some_rest : 0 < length (rest w line bs)

-- "if it has at most one piece, or if some line along or across has .., and both sides can be parted"
pub data CanBeParted : List Box → Type 0 where
  few : {bs : List Box} → length bs ≤ 1 → CanBeParted bs
  cut : {bs : List Box} (w : Way) (line : ℕ) → Cut w line bs → CanBeParted (first w line bs) → CanBeParted (rest w line bs) → CanBeParted bs
