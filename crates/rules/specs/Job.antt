-- "Builds and outlines": the job, its builds, their outlines, and the best of them. Assumes nothing.
use Rattle.std.specs.Prelude.{◌≡◌, ◌⊎◌, ℕ, zero, suc, ◌+◌, ◌*◌, ◌≤◌, ◌<◌, max, length, eqb}
use mathlib.Core.List.{List, [], ◌∷◌, map, Memᴰ}
use Rattle.rules.specs.Bag.{tick, sum}
use Rattle.rules.specs.Made.{Making, Made, Enumerates}

-- a piece as it can lie: its type, and its grown length and width. "Types are numbered from 1."
pub record Piece : Type 0 where
  pub type : ℕ
  pub long : ℕ
  pub wide : ℕ

-- the sheet's length and width, the pieces as they can lie, and by type the demands and the profits
pub record Job : Type 0 where
  pub long : ℕ
  pub wide : ℕ
  pub singles : List Piece
  pub demands : List ℕ
  pub profits : List ℕ

abbrev pub types : Job → ℕ
types j = length j.demands

-- "Builds that agree in length, width and the count of every type are one outline." Type 1 is counted first.
pub record Outline : Type 0 where
  pub long : ℕ
  pub wide : ℕ
  pub counts : List ℕ

-- f 1, f 2, .. f n: a number for each type
abbrev pub table : ℕ → (ℕ → ℕ) → List ℕ
table zero f = []
table (suc n) f = f 1 ∷ table n (λ t. f (suc t))

-- type by type the sum
abbrev pub plus : List ℕ → List ℕ → List ℕ
plus [] ds = []
plus (c ∷ cs) [] = []
plus (c ∷ cs) (d ∷ ds) = (c + d) ∷ plus cs ds

-- type by type at most
abbrev pub AtMost : List ℕ → List ℕ → Type 0
AtMost [] ds = Unit {0}
AtMost (c ∷ cs) [] = ⊥
AtMost (c ∷ cs) (d ∷ ds) = (c ≤ d) × AtMost cs ds

-- 1. One piece: its grown size, and a count of one of its type
abbrev pub alone : Job → Piece → Outline
alone j p = record { long = p.long; wide = p.wide; counts = table (types j) (λ t. tick (eqb p.type t) 0) }

-- 2. "A horizontal build of A and B has length lA+lB and the larger of the two widths."
abbrev pub horizontal : Outline → Outline → Outline
horizontal a b = record { long = a.long + b.long; wide = max a.wide b.wide; counts = plus a.counts b.counts }

-- "A vertical build has the larger of the two lengths and width wA+wB."
abbrev pub vertical : Outline → Outline → Outline
vertical a b = record { long = max a.long b.long; wide = a.wide + b.wide; counts = plus a.counts b.counts }

-- 3. "length ≤ L, width ≤ W and, type by type, the added counts do not exceed the demand"
pub record Fits (j : Job) (o : Outline) : Type 0 where
  pub long : o.long ≤ j.long
  pub wide : o.wide ≤ j.wide
  pub counts : AtMost o.counts j.demands

abbrev pub building : Job → Making Outline
building j = record { Start = λ o. Memᴰ o (map (alone j) j.singles); Keep = Fits j; side = horizontal; stack = vertical }

-- the outlines of the job's builds
abbrev pub Build : Job → Outline → Type 0
Build j = Made (building j)

-- 4. "Profit is the sum over its pieces."
abbrev pub dot : List ℕ → List ℕ → ℕ
dot [] ps = 0
dot (c ∷ cs) [] = 0
dot (c ∷ cs) (p ∷ ps) = c * p + dot cs ps

abbrev pub profit : Job → Outline → ℕ
profit j o = dot o.counts j.profits

abbrev pub pieces : Outline → ℕ
pieces o = sum o.counts

-- a list of all outlines, each once: "N is the number of different outlines of the job", its length
abbrev pub AllOutlines : Job → List Outline → Type 0
AllOutlines j l = Enumerates (Build j) l

-- equal, or first in lexicographic order, smaller first
abbrev pub NotAfter : List ℕ → List ℕ → Type 0
NotAfter [] bs = Unit {0}
NotAfter (a ∷ l) [] = ⊥
NotAfter (a ∷ l) (b ∷ bs) = (a < b) ⊎ ((a ≡ b) × NotAfter l bs)

-- "among those the least length, then the least width, then the counts that come first in lexicographic order"
abbrev pub tie_order : Outline → List ℕ
tie_order o = o.long ∷ o.wide ∷ o.counts

-- "The best outline has the greatest profit; among those .."
abbrev pub AtLeastAsGood : Job → Outline → Outline → Type 0
AtLeastAsGood j o u = (profit j u < profit j o) ⊎ ((profit j u ≡ profit j o) × NotAfter (tie_order o) (tie_order u))

pub record Best (j : Job) (o : Outline) : Type 0 where
  pub build : Build j o
  pub top : (u : Outline) → Build j u → AtLeastAsGood j o u
