-- The job that a lent slice of numbers holds: L W k n, and l w p b of each type. A slice of any length holds one: a missing number counts as 0. Assumes nothing.
use Rattle.std.specs.Prelude.{List, ℕ, ◌+◌, get_or, drop}
use Rattle.rules.specs.Limits.{types_most}
use Rattle.rules.specs.Numbers.{PieceType}
use Rattle.rules.specs.Items.{types_from, handed_over}

-- the type whose numbers stand from i on
abbrev pub type_at : List ℕ → ℕ → PieceType
type_at vs i = record { long = get_or vs i 0; wide = get_or vs (i + 1) 0; profit = get_or vs (i + 2) 0; demand = get_or vs (i + 3) 0 }

-- the types behind the sheet and the count
abbrev pub types_of_slice : ℕ → List ℕ → List PieceType
types_of_slice n vs = types_from n (drop 4 vs)

-- its items, as a text of the job would have them
abbrev pub slice_items : List ℕ → List ℕ
slice_items vs = handed_over (get_or vs 0 0) (get_or vs 1 0) (get_or vs 2 0) (get_or vs 3 0) (types_of_slice types_most vs)
