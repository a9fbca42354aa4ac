-- A job handed over as numbers, and records of three numbers, in the words of the rules. Assumes nothing.
use Rattle.std.specs.Prelude.{◌≡◌, List, map, ℕ, ◌≤◌, length, take}
use Rattle.rules.specs.Limits.{types_most}
use Rattle.rules.specs.Numbers as rules
use Rattle.rules.specs.Items.{handed_over}
use Rattle.rules.proofs.Ranges.{InRange}
use Rattle.shapes.specs.declared.PieceType.{PieceType}
use Rattle.shapes.specs.declared.Job.{Job}
use Rattle.shapes.specs.declared.Placement.{Placement}

abbrev pub type_of : PieceType → rules.PieceType
type_of t = record { long = t.length; wide = t.width; profit = t.profit; demand = t.demand }

-- the items of the job, as a text of it would have them
abbrev pub items_of : Job → List ℕ
items_of j = handed_over j.length j.width j.kerf j.count (map type_of j.types)

-- the numbers that the job stands for
abbrev pub numbers_of : Job → rules.Numbers
numbers_of j = record { long = j.length; wide = j.width; kerf = j.kerf; types = take j.count (map type_of j.types) }

abbrev pub entry_of : Placement → rules.Entry
entry_of p = record { type = p.kind; x = p.x; y = p.y }

-- a job as the code holds it, its numbers in range
pub record JobInRange (job : Job) : Type 0 where
  pub numbers : InRange (numbers_of job)
  pub count : job.count ≤ types_most
  pub types : length job.types ≡ types_most
