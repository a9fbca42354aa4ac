-- The answer of the check as the rules give it, and the part of it that the piece lines have. Assumes nothing.
use Rattle.std.specs.Prelude
use Rattle.std.specs.Prelude.{◌≡◌, List, [], ◌∷◌, ℕ, suc, Some, None, ◌+◌, ◌*◌, ◌-◌, ◌≤◌, take, drop}
use Rattle.std.proofs.Math.Option.{Option, none, some}
use Rattle.rules.specs.Limits.{pieces_most}
use Rattle.rules.specs.Numbers.{PieceType}
use Rattle.rules.specs.Items.{Range, from, piece_ranges, first_out, type_items}

abbrev pub item_place : Prelude.Option ℕ → Option ℕ
item_place None = none
item_place (Some i) = some i

abbrev pub or_next : Option ℕ → Option ℕ → Option ℕ
or_next none next = next
or_next (some i) next = some i

-- one piece line, whose first number is item i, before n more lines and what follows: the search goes on behind it, or ends in it
abbrev pub LineOut : ℕ → PieceType → Prelude.Option ℕ → Type 0
LineOut i t r = (n : ℕ) (rs : List Range) (vs : List ℕ) → first_out i (piece_ranges (suc n) rs) (t.long ∷ t.wide ∷ t.profit ∷ t.demand ∷ vs) ≡ or_next (item_place r) (first_out (i + 4) (piece_ranges n rs) vs)

-- the first number out of range of n piece lines, the first of them beginning with item i
abbrev pub types_out : ℕ → ℕ → List PieceType → Option ℕ
types_out i n ts = first_out i (piece_ranges n (from 0 pieces_most ∷ [])) (type_items (take n ts))

-- the lines before the line i are fine: what is left to search are those from i on
pub record Passed (count : ℕ) (ts : List PieceType) (i : ℕ) : Type 0 where
  pub within : i ≤ count
  pub left : types_out 5 count ts ≡ types_out (5 + 4 * i) (count - i) (drop i ts)
