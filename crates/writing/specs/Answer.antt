-- What a writer answers and leaves in the buffer: all the bytes that are asked for, or nothing. Assumes nothing.
use Rattle.std.specs.Prelude.{◌≡◌, List, ◌++◌, ℕ, ◌+◌, ◌*◌, ◌≤◌, ◌<◌, length, take, drop, Result, Ok, Err}
use Rattle.rules.specs.Limits.{placement_numbers}
use Rattle.rules.specs.Planner.{slots_of}
use Rattle.rules.specs.Decimal.{Decimal}
use Rattle.rules.specs.Text.{end, a_line, job_text}
use Rattle.rules.specs.Printed.{Spelled, PlacementSection}
use Rattle.rules.specs.Printed as printed
use Rattle.shapes.specs.Answer.{plan_line_of, check_line_of}
use Rattle.shapes.specs.Handed.{items_of}
use Rattle.shapes.specs.declared.Job.{Job}
use Rattle.shapes.specs.declared.Plan.{Plan}
use Rattle.shapes.specs.declared.Drawing.{Drawing}
use Rattle.shapes.specs.declared.Line.{Line}
use Rattle.writing.specs.declared.Unwritten.{Unwritten}
use Rattle.writing.specs.declared.Unwritten.TheVariants.{Full, NoText}

module _ (Asked : List ℕ → Type 0) (before : List ℕ) (at : ℕ) (after : List ℕ) where
  -- bytes as asked for stand from `at` to `next`, and every other byte is as it was
  pub record Stored (next : ℕ) : Type 0 where
    pub bytes : List ℕ
    pub asked : Asked bytes
    pub ends : next ≡ at + length bytes
    pub room : next ≤ length before
    pub left : after ≡ take at before ++ bytes ++ drop next before

  -- they would end behind the buffer, and every byte is as it was
  pub record TooShort : Type 0 where
    pub bytes : List ℕ
    pub asked : Asked bytes
    pub short : length before < at + length bytes
    pub left : after ≡ before

  -- no bytes are as asked for, and every byte is as it was
  pub record NoSuch : Type 0 where
    pub none : (bytes : List ℕ) → Asked bytes → ⊥
    pub left : after ≡ before

  abbrev pub Writes : Result ℕ Unwritten → Type 0
  Writes (Ok next) = Stored next
  Writes (Err Full) = TooShort
  Writes (Err NoText) = NoSuch

-- what is asked for: a number
abbrev pub NumberOf : ℕ → List ℕ → Type 0
NumberOf n bytes = Decimal bytes n

-- a line of these numbers
abbrev pub LineOf : List ℕ → List ℕ → Type 0
LineOf numbers bytes = Spelled (a_line (length numbers) end) bytes numbers

-- the line of an answer of the planner, and of the checker
abbrev pub PlanLineOf : Line Plan → List ℕ → Type 0
PlanLineOf l bytes = printed.PlanLine bytes (plan_line_of l)

abbrev pub CheckLineOf : Line Drawing → List ℕ → Type 0
CheckLineOf l bytes = printed.CheckLine bytes (check_line_of l)

-- the placement section of a list: "a length of flat numbers that is not a multiple of 3 loses its last one or two numbers"
abbrev pub SectionOf : List ℕ → List ℕ → Type 0
SectionOf flat bytes = PlacementSection bytes (slots_of (length flat)) (take (slots_of (length flat) * placement_numbers) flat)

-- "the house job text of those numbers"
abbrev pub HouseText : Job → List ℕ → Type 0
HouseText job bytes = Spelled job_text bytes (items_of job)
