-- Lines and columns: what a grown piece at a place takes up of the sheet. Assumes nothing.
use Rattle.std.specs.Prelude.{Bool, ◌&&◌, ◌⊎◌, List, [], ◌∷◌, ℕ, ◌+◌, ◌≤◌, ltb}
use Rattle.rules.specs.Bag.{All}

-- a grown piece with its corner at (x, y): x and its length are measured along the sheet, y and its width across it
pub record Box : Type 0 where
  pub x : ℕ
  pub y : ℕ
  pub long : ℕ
  pub wide : ℕ

-- the two ways of a sheet; a line of the way `along` stands at a place along the sheet, and lies across it
pub data Way : Type 0 where
  along across : Way

-- "between lines x and x+l+k", "between lines y and y+w+k": the sizes of a box are grown already
abbrev pub near : Way → Box → ℕ
near along b = b.x
near across b = b.y

abbrev pub far : Way → Box → ℕ
far along b = b.x + b.long
far across b = b.y + b.wide

-- between the lines x₀ and x₁ along and the lines y₀ and y₁ across; an edge on one of them is inside
pub record Inside (x₀ y₀ x₁ y₁ : ℕ) (b : Box) : Type 0 where
  pub left : x₀ ≤ near along b
  pub right : far along b ≤ x₁
  pub low : y₀ ≤ near across b
  pub high : far across b ≤ y₁

-- some line has the one box on its one side and the other on its other: "edges on one line touch and do not overlap"
abbrev pub Apart : Box → Box → Type 0
Apart b c = ((far along b ≤ near along c) ⊎ (far along c ≤ near along b)) ⊎ ((far across b ≤ near across c) ⊎ (far across c ≤ near across b))

-- no two boxes of a list overlap
pub data Disjoint : List Box → Type 0 where
  empty : Disjoint []
  more : {b : Box} {bs : List Box} → All (Apart b) bs → Disjoint bs → Disjoint (b ∷ bs)

-- the two share columns and rows, as a test; proofs/Boxes shows that it is so exactly if some square of the sheet is in both
abbrev pub overlap : Box → Box → Bool
overlap b c = (ltb (near along b) (far along c) && ltb (near along c) (far along b)) && (ltb (near across b) (far across c) && ltb (near across c) (far across b))
