-- The answers of the code in the words of document 01: for each case its number and its values. Assumes nothing.
use Rattle.std.specs.Prelude.{ℕ, List, [], ◌∷◌, Result, Ok, Err}
use Rattle.rules.specs.Limits.{input_most}
use Rattle.rules.specs.Planner.{PlanAnswer, no_plan}
use Rattle.rules.specs.Checker.{CheckAnswer, refused}
use Rattle.shapes.specs.declared.Refusal.{Refusal}
use Rattle.shapes.specs.declared.Refusal.TheVariants.{NotInGrammar, OutOfRange, NothingFits, ArenaFull, BufferShort, NotAType, OffSheet, AboveDemand, Overlaps, NotParted, InputTooLong}
use Rattle.shapes.specs.declared.Plan.{Plan}
use Rattle.shapes.specs.declared.Drawing.{Drawing}
use Rattle.shapes.specs.declared.Line.{Line}

-- the column "no." of the refusal table
abbrev pub number_of : Refusal → ℕ
number_of (NotInGrammar place) = 1
number_of (OutOfRange item) = 2
number_of NothingFits = 3
number_of ArenaFull = 4
number_of BufferShort = 5
number_of (NotAType place) = 6
number_of (OffSheet place) = 7
number_of (AboveDemand place) = 8
number_of (Overlaps place) = 9
number_of NotParted = 10
number_of InputTooLong = 11

-- the column "place returned"
abbrev pub place_of : Refusal → ℕ
place_of (NotInGrammar place) = place
place_of (OutOfRange item) = item
place_of NothingFits = 0
place_of ArenaFull = 0
place_of BufferShort = 0
place_of (NotAType place) = place
place_of (OffSheet place) = place
place_of (AboveDemand place) = place
place_of (Overlaps place) = place
place_of NotParted = 0
place_of InputTooLong = input_most

abbrev pub plan_answer : Result Plan Refusal → PlanAnswer
plan_answer (Ok p) = record { number = 0; place = 0; profit = p.profit; long = p.length; wide = p.width; pieces = p.pieces; outlines = p.outlines }
plan_answer (Err r) = no_plan (number_of r) (place_of r)

abbrev pub check_answer : Result Drawing Refusal → CheckAnswer
check_answer (Ok d) = record { number = 0; place = 0; profit = d.profit; pieces = d.pieces }
check_answer (Err r) = refused (number_of r) (place_of r)

-- an answer in the table's numbers
abbrev pub plan_line_of : Line Plan → PlanAnswer
plan_line_of l = record { number = l.number; place = l.place; profit = l.found.profit; long = l.found.length; wide = l.found.width; pieces = l.found.pieces; outlines = l.found.outlines }

abbrev pub check_line_of : Line Drawing → CheckAnswer
check_line_of l = record { number = l.number; place = l.place; profit = l.found.profit; pieces = l.found.pieces }

-- the line of an answer of either kind; `none` stands in it where the answer is a refusal
abbrev pub line_for : {A : Type 0} → Result A Refusal → A → Line A
line_for (Ok a) none = record { number = 0; place = 0; found = a }
line_for (Err r) none = record { number = number_of r; place = place_of r; found = none }

-- the numbers of an answer, as "plan" and "check" print them
abbrev pub plan_numbers : PlanAnswer → List ℕ
plan_numbers a = a.number ∷ a.place ∷ a.profit ∷ a.long ∷ a.wide ∷ a.pieces ∷ a.outlines ∷ []

abbrev pub check_numbers : CheckAnswer → List ℕ
check_numbers a = a.number ∷ a.place ∷ a.profit ∷ a.pieces ∷ []
