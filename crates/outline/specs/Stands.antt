-- What an outline of the code stands for, and what its joins hand back. Assumes nothing.
use Rattle.std.specs.Prelude.{◌≡◌, List, [], ◌∷◌, ℕ, suc, ◌+◌, ◌%◌, ◌≤◌, ◌<◌, get_or, take}
use Rattle.rules.specs.Limits.{demand_most}
use Rattle.rules.specs.Bag.{All}
use Rattle.rules.specs.Box as box
use Rattle.rules.specs.Job as rules
use Rattle.rules.specs.Numbers.{no_type, grown, job_of}
use Rattle.shapes.specs.declared.Job.{Job}
use Rattle.shapes.specs.Handed.{numbers_of}
use Rattle.outline.specs.declared.Outline.{Outline}
use Rattle.outline.specs.declared.Least.{Least}
use Rattle.outline.specs.declared.Way.{Way}
use Rattle.outline.specs.declared.Way.TheVariants.{Beside, Above}

abbrev pub job_for : Job → rules.Job
job_for job = job_of (numbers_of job)

-- the piece of type t, counted from 0, as it can lie
abbrev pub piece_at : Job → ℕ → rules.Piece
piece_at job t = grown job.kerf (suc t) (get_or (numbers_of job).types t no_type)

-- for a job of n types
abbrev pub outline_of : ℕ → Outline → rules.Outline
outline_of n o = record { long = o.length.0; wide = o.width.0; counts = take n o.counts }

abbrev pub way_of : Way → box.Way
way_of Beside = box.along
way_of Above = box.across

-- the number of a way in the arena's links and sizes, and the sheet's side in it
abbrev pub number_of : Way → ℕ
number_of Beside = 0
number_of Above = 1

abbrev pub side_of : Job → Way → ℕ
side_of job Beside = job.length
side_of job Above = job.width

-- what two bytes hold is below
abbrev pub two_bytes : ℕ
two_bytes = 65_536

-- sizes that two bytes hold
pub record Sized (o : Outline) : Type 0 where
  pub long : o.length.0 < two_bytes
  pub wide : o.width.0 < two_bytes

-- of none of n types are there more than a demand can be
abbrev pub Few : ℕ → List ℕ → Type 0
Few n c = All (λ x. x ≤ demand_most) (take n c)

-- counts added in bytes
abbrev pub sums : List ℕ → List ℕ → List ℕ
sums [] b = []
sums (x ∷ a) [] = []
sums (x ∷ a) (y ∷ b) = ((x + y) % 256) ∷ sums a b

-- r is what the join f makes of a and b, whatever the number of types
pub record Joins (f : rules.Outline → rules.Outline → rules.Outline) (a b r : Outline) : Type 0 where
  pub joined : (n : ℕ) → Few n a.counts → Few n b.counts → outline_of n r ≡ f (outline_of n a) (outline_of n b)

-- r is the outline of one piece of type t, counted from 0
pub record Alone (job : Job) (t : ℕ) (r : Outline) : Type 0 where
  pub alone : outline_of job.count r ≡ rules.alone (job_for job) (piece_at job t)

-- no piece of the first n types is smaller than r says, and r can be added to sizes
pub record LeastAmong (job : Job) (n : ℕ) (r : Least) : Type 0 where
  pub long : (t : ℕ) → t < n → r.length ≤ (piece_at job t).long
  pub wide : (t : ℕ) → t < n → r.width ≤ (piece_at job t).wide
  pub long_small : r.length ≤ two_bytes
  pub wide_small : r.width ≤ two_bytes

abbrev pub LeastOf : Job → Least → Type 0
LeastOf job r = LeastAmong job job.count r

-- in a way
abbrev pub least_by : box.Way → Least → ℕ
least_by box.along r = r.length
least_by box.across r = r.width
