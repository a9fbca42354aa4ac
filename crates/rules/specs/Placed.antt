-- Pieces placed on a job's sheet: what they count and earn, and which lists are accepted. Assumes nothing.
use mathlib.Core.List.{List, [], ◌∷◌, map, Memᴰ}
use Rattle.std.specs.Prelude.{ℕ, zero, suc, ◌+◌, get_or, eqb}
use Rattle.rules.specs.Bag.{count, All}
use Rattle.rules.specs.Box.{Box, Inside}
use Rattle.rules.specs.Parted.{CanBeParted}
use Rattle.rules.specs.Job.{Piece, Job, Outline, types, table, AtMost}

pub record Placed : Type 0 where
  pub type : ℕ
  pub box : Box

abbrev pub boxes : List Placed → List Box
boxes ps = map (λ p. p.box) ps

-- a piece laid with its corner at (x, y)
abbrev pub put : Piece → ℕ → ℕ → Placed
put s x y = record { type = s.type; box = record { x = x; y = y; long = s.long; wide = s.wide } }

-- it is one of the job's pieces
abbrev pub Of : Job → Placed → Type 0
Of j p = Memᴰ (record { type = p.type; long = p.box.long; wide = p.box.wide }) j.singles

-- wholly in the sheet
abbrev pub OnSheet : Job → Placed → Type 0
OnSheet j p = Inside 0 0 j.long j.wide p.box

-- "all within the best outline with its corner at (0, 0)"
abbrev pub InOutline : Outline → Placed → Type 0
InOutline o p = Inside 0 0 o.long o.wide p.box

-- how many pieces of each type
abbrev pub counts_of : Job → List Placed → List ℕ
counts_of j ps = table (types j) (λ t. count (λ p. eqb p.type t) ps)

-- what stands for a type in a list by types, which are numbered from 1
abbrev pub of_type : {A : Type 0} → A → List A → ℕ → A
of_type d l zero = d
of_type d l (suc t) = get_or l t d

-- what the pieces earn: the sum over them
abbrev pub worth : Job → List Placed → ℕ
worth j [] = 0
worth j (p ∷ ps) = of_type 0 j.profits p.type + worth j ps

-- "the pieces keep to the job's sheet and demands and some sequence of through cuts parts them all"
pub record Accepted (j : Job) (ps : List Placed) : Type 0 where
  pub known : All (Of j) ps
  pub inside : All (OnSheet j) ps
  pub demand : AtMost (counts_of j ps) j.demands
  pub parted : CanBeParted (boxes ps)
