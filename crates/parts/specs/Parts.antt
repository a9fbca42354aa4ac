-- The parts of counts with at most half of the pieces, as an odometer goes through them. Assumes nothing.
use Rattle.std.specs.Prelude.{◌≡◌, Option, Some, None, List, [], ◌∷◌, ℕ, suc, ◌+◌, ◌-◌, ◌*◌, ◌/◌, ◌≤◌, ◌<◌, length, get_or, set, take}
use Rattle.rules.specs.Bag.{sum}
use Rattle.rules.specs.Limits.{types_most}
use Rattle.tally.specs.Bounds.{counts_most}
use Rattle.weighing.specs.Weights.{weighed}
use Rattle.parts.specs.declared.Step.{Step}

-- the count of a type, and 0 behind the last
abbrev pub digit : List ℕ → ℕ → ℕ
digit l k = get_or l k 0

-- half of the pieces of counts
abbrev pub half_of : ℕ → List ℕ → ℕ
half_of types c = sum (take types c) / 2

-- a part of counts, its rest, its weight, and how many pieces it lacks to half of them
pub record Portion : Type 0 where
  pub part : List ℕ
  pub rest : List ℕ
  pub weight : ℕ
  pub spare : ℕ

abbrev pub portion : List ℕ → List ℕ → Step → Portion
portion part rest s = record { part = part; rest = rest; weight = s.weight; spare = s.spare }

pub record PortionOf (types : ℕ) (c : List ℕ) (p : Portion) : Type 0 where
  pub long : length p.part ≡ types_most
  pub long_rest : length p.rest ≡ types_most
  pub adds : (k : ℕ) → k < types → digit p.part k + digit p.rest k ≡ digit c k
  pub weighs : p.weight ≡ weighed 0 (take types p.part)
  pub spares : p.spare + sum (take types p.part) ≡ half_of types c
  pub small : sum (take types c) ≤ counts_most

-- one piece of a type goes from the rest to the part
pub record Risen (t : ℕ) (part rest part2 rest2 : List ℕ) : Type 0 where
  pub up : part2 ≡ set part t (suc (digit part t))
  pub down : rest2 ≡ set rest t (digit rest t - 1)
  pub byte : digit part t < 255

-- a part of counts c with at most half of the pieces
pub record Part (types : ℕ) (c x : List ℕ) : Type 0 where
  pub long : length x ≡ types
  pub within : (k : ℕ) → k < types → digit x k ≤ digit c k
  pub few : sum x ≤ half_of types c

-- no such part that is d behind count k has more than d there
abbrev pub Stuck : ℕ → List ℕ → List ℕ → ℕ → Type 0
Stuck types c d k = (x : List ℕ) → Part types c x → ((j : ℕ) → k < j → j < types → digit x j ≡ digit d j) → digit x k ≤ digit d k

-- e is the part of c behind d: count `at` goes up, those before it could not and begin again, those behind it stay
pub record Behind (types : ℕ) (c d e : List ℕ) : Type 0 where
  pub at : ℕ
  pub among : at < types
  pub byte : digit d at < 255
  pub up : digit e at ≡ suc (digit d at)
  pub stuck : (k : ℕ) → k < at → Stuck types c d k
  pub again : (k : ℕ) → k < at → digit e k ≡ 0
  pub stays : (k : ℕ) → at < k → k < types → digit e k ≡ digit d k

-- the part behind, and its rest; or that there is none, and what is there is a part all the same
abbrev pub Stepped : (types : ℕ) (c d part rest : List ℕ) → Option Step → Type 0
Stepped types c d part rest (Some s) = PortionOf types c (portion part rest s) × Behind types c d part
Stepped types c d part rest None = ((s : Step) × PortionOf types c (portion part rest s)) × ((k : ℕ) → k < types → Stuck types c d k)

-- x comes before d: the last count in which they differ is less
pub record Earlier (types : ℕ) (x d : List ℕ) : Type 0 where
  pub at : ℕ
  pub among : at < types
  pub less : digit x at < digit d at
  pub above : (k : ℕ) → at < k → k < types → digit x k ≡ digit d k

-- how many parts counts have, with more than half of the pieces or less
unfoldable pub parts_of : List ℕ → ℕ
parts_of [] = 1
parts_of (x ∷ c) = suc x * parts_of c
