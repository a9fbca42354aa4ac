-- Placement lines read into flat numbers. Assumes nothing.
use Rattle.std.specs.Prelude.{◌≡◌, List, ◌∷◌, ℕ, ◌*◌, ◌-◌, ◌≤◌, ◌<◌, length, take, drop, replicate, Result, MatchResult}
use Rattle.rules.specs.Limits.{pieces_most, placement_numbers}
use Rattle.rules.specs.Text.{some_lines}
use Rattle.reader.specs.declared.Stray.{Stray}
use Rattle.reading.specs.declared.Placements.{Placements}
use Rattle.reading.specs.Walked.{Walking, Strays}

-- the flat numbers of n placements
abbrev pub numbers_of_placements : ℕ → ℕ
numbers_of_placements n = placement_numbers * n

-- n placement lines were read into the front of the numbers up to this place, and the rest is as it was
pub record PlacementsRead (t : List ℕ) (from n : ℕ) (was now : List ℕ) (at : ℕ) : Type 0 where
  pub size : length now ≡ length was
  pub walked : Walking (some_lines n 3) t from (take (numbers_of_placements n) now) (λ s. s) at
  pub rest : drop (numbers_of_placements n) now ≡ drop (numbers_of_placements n) was

abbrev pub PlacementLines : List ℕ → ℕ → ℕ → List ℕ → List ℕ → Result Unit Stray → ℕ → Type 0
PlacementLines t from n was now r at = MatchResult r (λ _. PlacementsRead t from n was now at) (Strays (some_lines n 3) t from)

-- among n placement lines: i of them are read
pub record InPlacements (t : List ℕ) (from n : ℕ) (was now : List ℕ) (at i : ℕ) : Type 0 where
  pub within : i ≤ n
  pub size : length now ≡ length was
  pub walking : Walking (some_lines n 3) t from (take (numbers_of_placements i) now) (some_lines (n - i) 3) at
  pub rest : drop (numbers_of_placements i) now ≡ drop (numbers_of_placements i) was

abbrev pub no_numbers : List ℕ
no_numbers = replicate (numbers_of_placements pieces_most) 0

-- the numbers of n placement lines stand in front, and behind them nothing
pub record Listed (n : ℕ) (numbers vs : List ℕ) : Type 0 where
  pub size : length numbers ≡ numbers_of_placements pieces_most
  pub front : vs ≡ take (numbers_of_placements n) numbers
  pub rest : drop (numbers_of_placements n) numbers ≡ drop (numbers_of_placements n) no_numbers

-- the items of a placement section: its count, and the flat numbers, where the count is in range
pub data PlacementsOf : Placements → List ℕ → Type 0 where
  inside : {count : ℕ} {numbers vs : List ℕ} → count ≤ pieces_most → Listed count numbers vs → PlacementsOf (record { count = count; numbers = numbers }) (count ∷ vs)
  outside : {count : ℕ} {numbers vs : List ℕ} → pieces_most < count → numbers ≡ no_numbers → PlacementsOf (record { count = count; numbers = numbers }) (count ∷ vs)
