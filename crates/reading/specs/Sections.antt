-- What the sheet and piece sections of a text hold. Assumes nothing.
use Rattle.std.specs.Prelude.{◌≡◌, ◌≢◌, List, ◌∷◌, ℕ, ◌≤◌, ◌<◌, length, drop, Some, None}
use Rattle.rules.specs.Limits.{types_most}
use Rattle.rules.specs.Text.{Script, a_line, some_lines, section}
use Rattle.shapes.specs.Handed.{items_of}
use Rattle.shapes.specs.declared.Job.{Job}
use Rattle.reading.specs.declared.Sections.{Sections}
use Rattle.reading.specs.Pieces.{no_types}

-- what comes behind a sheet count
abbrev pub some_sheets : ℕ → Script → Script
some_sheets n s = some_lines n 3 (section 4 s)

abbrev pub one_sheet : Script → Script
one_sheet s = a_line 3 (section 4 s)

abbrev pub sheets_and_pieces : Script → Script
sheets_and_pieces s = section 3 (section 4 s)

-- the sections of a job's text: one sheet
abbrev pub sections_of : Job → Sections
sections_of job = record { sheets = 1; job = Some job }

-- the sheet count that the items of the two sections begin with, and the job that they hold, if that count is 1: where the types have room, they are the job's items
pub data Holds : Sections → List ℕ → Type 0 where
  all : {job : Job} → length job.types ≡ types_most → drop job.count job.types ≡ drop job.count no_types → job.count ≤ types_most → Holds (sections_of job) (items_of job)
  too_many : {job : Job} {vs : List ℕ} → types_most < job.count → Holds (sections_of job) (1 ∷ job.length ∷ job.width ∷ job.kerf ∷ job.count ∷ vs)
  not_one : {sheets : ℕ} {vs : List ℕ} → sheets ≢ 1 → Holds (record { sheets = sheets; job = None }) (sheets ∷ vs)
