-- "Items are numbered from 0 in reading order, counts included": their ranges, the first out of range, and the job they hold. Assumes nothing.
use Rattle.std.specs.Prelude.{true, false, ◌&&◌, List, [], ◌∷◌, ℕ, zero, suc, ◌+◌, ◌*◌, get_or, take, drop, leb}
use Rattle.std.proofs.Math.Option.{Option, none, some}
use Rattle.rules.specs.Limits.{size_most, kerf_most, types_most, profit_most, demand_most, pieces_most}
use Rattle.rules.specs.Numbers.{Numbers, PieceType}

pub record Range : Type 0 where
  pub low : ℕ
  pub high : ℕ

abbrev pub from : ℕ → ℕ → Range
from a b = record { low = a; high = b }

-- l, w, p, b of n piece lines, and then what follows
abbrev pub piece_ranges : ℕ → List Range → List Range
piece_ranges zero rs = rs
piece_ranges (suc n) rs = from 1 size_most ∷ from 1 size_most ∷ from 1 profit_most ∷ from 1 demand_most ∷ piece_ranges n rs

-- the sheet count, L, W, k, the piece count n, the pieces, the placement count; "numbers inside placement lines have no range of their own"
abbrev pub ranges : ℕ → List Range
ranges n = from 1 1 ∷ from 1 size_most ∷ from 1 size_most ∷ from 0 kerf_most ∷ from 1 types_most ∷ piece_ranges n (from 0 pieces_most ∷ [])

-- the number of the first item out of its range; i is that of the first of these
abbrev pub first_out : ℕ → List Range → List ℕ → Option ℕ
first_out i [] vs = none
first_out i (r ∷ rs) [] = none
first_out i (r ∷ rs) (v ∷ vs) = elim (leb r.low v && leb v r.high) [ true ↦ first_out (suc i) rs vs | false ↦ some i ]

-- the piece count is item 4 where the sheet count is 1; where it is not, item 0 is out of range
abbrev pub piece_count : List ℕ → ℕ
piece_count vs = get_or vs 4 0

abbrev pub out_of_range : List ℕ → Option ℕ
out_of_range vs = first_out 0 (ranges (piece_count vs)) vs

-- the job that items in range hold
abbrev pub types_from : ℕ → List ℕ → List PieceType
types_from zero vs = []
types_from (suc n) vs = record { long = get_or vs 0 0; wide = get_or vs 1 0; profit = get_or vs 2 0; demand = get_or vs 3 0 } ∷ types_from n (drop 4 vs)

abbrev pub numbers_from : List ℕ → Numbers
numbers_from vs = record { long = get_or vs 1 0; wide = get_or vs 2 0; kerf = get_or vs 3 0; types = types_from (piece_count vs) (drop 5 vs) }

-- the flat numbers of a plan text's placements stand behind their count, which is item 5 + 4 n
abbrev pub placements_from : List ℕ → List ℕ
placements_from vs = drop (6 + 4 * piece_count vs) vs

-- "A job handed over as numbers": the sheet's three numbers, a piece count, and types, those past the count not read.
-- "It is checked with the same item numbers, the sheet count standing as 1."
abbrev pub type_items : List PieceType → List ℕ
type_items [] = []
type_items (p ∷ ps) = p.long ∷ p.wide ∷ p.profit ∷ p.demand ∷ type_items ps

abbrev pub handed_over : ℕ → ℕ → ℕ → ℕ → List PieceType → List ℕ
handed_over l w k n ps = 1 ∷ l ∷ w ∷ k ∷ n ∷ type_items (take n ps)
