-- "Numbers of a job", and placement lists as numbers: what they stand for. Assumes nothing.
use Rattle.std.specs.Prelude.{List, [], ◌∷◌, map, ℕ, suc, ◌+◌}
use Rattle.rules.specs.Job.{Piece, Job}
use Rattle.rules.specs.Placed.{Placed, put, of_type}

-- a piece type: a line `l w p b`
pub record PieceType : Type 0 where
  pub long : ℕ
  pub wide : ℕ
  pub profit : ℕ
  pub demand : ℕ

-- the sheet `L W k`, and the piece types
pub record Numbers : Type 0 where
  pub long : ℕ
  pub wide : ℕ
  pub kerf : ℕ
  pub types : List PieceType

abbrev pub no_type : PieceType
no_type = record { long = 0; wide = 0; profit = 0; demand = 0 }

-- "A piece takes up its grown size, l+k by w+k"
abbrev pub grown : ℕ → ℕ → PieceType → Piece
grown k t p = record { type = t; long = p.long + k; wide = p.wide + k }

-- the pieces as they can lie, of the types from t on
abbrev pub singles_from : ℕ → ℕ → List PieceType → List Piece
singles_from k t [] = []
singles_from k t (p ∷ ps) = grown k t p ∷ singles_from k (suc t) ps

-- ".. and the sheet is L by W". The one place where numbers become a job.
abbrev pub job_of : Numbers → Job
job_of n = record { long = n.long; wide = n.wide; singles = singles_from n.kerf 1 n.types; demands = map (λ p. p.demand) n.types; profits = map (λ p. p.profit) n.types }

-- a placement `type x y`
pub record Entry : Type 0 where
  pub type : ℕ
  pub x : ℕ
  pub y : ℕ

-- "flat numbers, three to a placement"; "a length that is not a multiple of 3 loses its last one or two numbers"
abbrev pub entries : List ℕ → List Entry
entries [] = []
entries (t ∷ []) = []
entries (t ∷ x ∷ []) = []
entries (t ∷ x ∷ y ∷ r) = record { type = t; x = x; y = y } ∷ entries r

-- an entry is a grown piece of its type at its place
abbrev pub placed : Numbers → Entry → Placed
placed n e = put (grown n.kerf e.type (of_type no_type n.types e.type)) e.x e.y

abbrev pub lying : Numbers → List Entry → List Placed
lying n l = map (placed n) l
