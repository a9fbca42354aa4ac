-- Piece lines read into the types of a job. Assumes nothing.
use Rattle.std.specs.Prelude.{◌≡◌, List, ◌∷◌, map, ℕ, ◌-◌, ◌≤◌, ◌<◌, length, take, drop, replicate}
use Rattle.rules.specs.Limits.{types_most}
use Rattle.rules.specs.Text.{some_lines}
use Rattle.rules.specs.Items.{type_items}
use Rattle.shapes.specs.Handed.{type_of}
use Rattle.shapes.specs.declared.PieceType.{PieceType}
use Rattle.shapes.specs.declared.Job.{Job}
use Rattle.reading.specs.Walked.{Walking}

abbrev pub no_type : PieceType
no_type = record { length = 0; width = 0; profit = 0; demand = 0 }

abbrev pub no_types : List PieceType
no_types = replicate types_most no_type

abbrev pub no_job : Job
no_job = record { length = 0; width = 0; kerf = 0; count = 0; types = no_types }

-- the numbers of the first n types
abbrev pub numbers_of_types : ℕ → List PieceType → List ℕ
numbers_of_types n types = type_items (take n (map type_of types))

-- the numbers of n piece lines are those of the first n types, and no other is set
pub record PieceLines (n : ℕ) (types : List PieceType) (vs : List ℕ) : Type 0 where
  pub size : length types ≡ types_most
  pub numbers : vs ≡ numbers_of_types n types
  pub others : drop n types ≡ drop n no_types

-- the numbers of a piece section: its count, and those of the types, where a job has room for so many
pub data PiecesOf : ℕ × List PieceType → List ℕ → Type 0 where
  all : {n : ℕ} {types : List PieceType} {vs : List ℕ} → n ≤ types_most → PieceLines n types vs → PiecesOf (n, types) (n ∷ vs)
  too_many : {n : ℕ} {types : List PieceType} {vs : List ℕ} → types_most < n → PiecesOf (n, types) (n ∷ vs)

-- among n piece lines: i of them are read
pub record InPieces (t : List ℕ) (from n : ℕ) (types : List PieceType) (at i : ℕ) : Type 0 where
  pub within : i ≤ n
  pub size : length types ≡ types_most
  pub walking : Walking (some_lines n 4) t from (numbers_of_types i types) (some_lines (n - i) 4) at
  pub others : drop i types ≡ drop i no_types
