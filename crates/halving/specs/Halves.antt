-- Pairs of classes that add up to the counts of a class that grows. Assumes nothing.
use Rattle.std.specs.Prelude.{◌≡◌, true, List, ℕ, ◌*◌, ◌≤◌, ◌<◌, length, take}
use Rattle.rules.specs.Bag.{sum}
use Rattle.rules.specs.Box.{Way}
use Rattle.rules.specs.Job as rules
use Rattle.rules.specs.Limits.{types_most}
use Rattle.rules.proofs.Outlines.{at_most}
use Rattle.shapes.specs.declared.Job.{Job}
use Rattle.outline.specs.declared.Least.{Least}
use Rattle.outline.specs.Stands.{LeastOf}
use Rattle.weighing.specs.Weights.{weighed}
use Rattle.classes.specs.Directory.{Class, Turn}
use Rattle.outlines.specs.Listing.{Ready, JoinIn}
use Rattle.growing.specs.Growing.{Growing, pair_of}
use Rattle.growing.specs.Rows.{OfClass}
use Rattle.pairing.specs.Pairs.{key_at, AbleAt}

-- the counts of record a and a rest together; a part and its rest
abbrev pub whole_with : Job → List ℕ → ℕ → List ℕ → List ℕ
whole_with job s a rest = rules.plus (key_at job s a) (take job.count rest)

abbrev pub whole_of : Job → (part rest : List ℕ) → List ℕ
whole_of job part rest = rules.plus (take job.count part) (take job.count rest)

-- the joins, in both ways, of record i as a first half with all records before start that it adds up to counts c with
abbrev pub PairsOf : Job → Least → List ℕ → ℕ → List ℕ → ℕ → List rules.Outline → Type 0
PairsOf job least s start c i l = (w : Way) (q : ℕ) → q < start → pair_of job s i q ≡ c → AbleAt job least s i w → JoinIn job w i q l

-- of each record of class a
abbrev pub ClassPairs : Job → Least → List ℕ → ℕ → List ℕ → ℕ → List rules.Outline → Type 0
ClassPairs job least s start c a l = OfClass s a (λ i. PairsOf job least s start c i l)

-- class a, while the class with counts c grows
pub record Halving (job : Job) (least : Least) (s : List ℕ) (start n a : ℕ) (c : List ℕ) : Type 0 where
  pub least_of : LeastOf job least
  pub ready : Ready job s n
  pub class : Class job.count s start a
  pub growing : Growing job.count s start n c

-- it is within these counts
pub record Within (job : Job) (least : Least) (s : List ℕ) (start n a : ℕ) (c : List ℕ) : Type 0 where
  pub halving : Halving job least s start n a c
  pub within : at_most (key_at job s a) c ≡ true

-- a class that is not there yet, to be made of pairs with first halves before half, which have at most half of its pieces
pub record Sought (job : Job) (least : Least) (s : List ℕ) (start half : ℕ) (c : List ℕ) : Type 0 where
  pub least_of : LeastOf job least
  pub ready : Ready job s start
  pub growing : Growing job.count s start start c
  pub turn : Turn job.count s start half
  pub few : (q : ℕ) → q < half → 2 * sum (key_at job s q) ≤ sum c

abbrev pub PairsBefore : Job → Least → List ℕ → ℕ → List ℕ → ℕ → List rules.Outline → Type 0
PairsBefore job least s start c half l = (i : ℕ) → i < half → PairsOf job least s start c i l

-- what a part weighs, and all of the counts
pub record PartWeighs (job : Job) (part rest : List ℕ) (share weight : ℕ) : Type 0 where
  pub long : length part ≡ types_most
  pub long_rest : length rest ≡ types_most
  pub part_weighs : share ≡ weighed 0 (take job.count part)
  pub whole_weighs : weight ≡ weighed 0 (whole_of job part rest)

-- a part may be tried while the class with counts c grows
pub record Trying (job : Job) (least : Least) (s : List ℕ) (start n half : ℕ) (c : List ℕ) : Type 0 where
  pub least_of : LeastOf job least
  pub ready : Ready job s n
  pub upto : half ≤ start
  pub growing : Growing job.count s start n c

-- the pairs whose first half stands before half and has these counts
abbrev pub PartPairs : Job → Least → List ℕ → (start half : ℕ) (c part : List ℕ) → List rules.Outline → Type 0
PartPairs job least s start half c part l = (i : ℕ) → i < half → key_at job s i ≡ part → PairsOf job least s start c i l
