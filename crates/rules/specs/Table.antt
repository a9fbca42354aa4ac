-- The marked examples of "Tables on both sides of each line", twelve in all, as one table. `examples` in proofs/Table proves them. Assumes nothing.
use Rattle.std.specs.Prelude.{List, [], ◌∷◌, ◌++◌, ℕ, ◌≤◌}
use Rattle.rules.specs.Job.{Outline, pieces}
use Rattle.rules.specs.Numbers.{job_of}
use Rattle.rules.specs.Items.{numbers_from}
use Rattle.rules.specs.Checker.{CheckAnswer, refused}
use Rattle.rules.specs.Planner.{PlanAnswer, no_plan, Planned}
use Rattle.rules.specs.Answers.{Ranged, refused_plan, PlanText, CheckNumbers}

-- a row: an input, and what the paper gives for it
pub data Row : Type 0 where
  -- the items of a job; its best outline, the profit and N
  plan : List ℕ → Outline → ℕ → ℕ → Row
  -- the items of a job
  no_fit : List ℕ → Row
  -- the items of a job, a list of flat numbers, the checker's answer
  check : List ℕ → List ℕ → CheckAnswer → Row
  -- a text and the place where it leaves the grammar
  text : List ℕ → ℕ → Row

-- the planner's answer to the items of a job, with so much room and so many slots
abbrev pub Answers : ℕ → ℕ → List ℕ → PlanAnswer → Type 0
Answers room slots = Ranged no_plan (λ vs. Planned (job_of (numbers_from vs)) room slots)

-- what a row says. A plan is answered wherever there is room for N records and slots for its pieces.
abbrev pub Holds : Row → Type 0
Holds (plan vs o p n) = (room slots : ℕ) → n ≤ room → pieces o ≤ slots → Answers room slots vs (record { number = 0; place = 0; profit = p; long = o.long; wide = o.wide; pieces = pieces o; outlines = n })
Holds (no_fit vs) = (room slots : ℕ) → Answers room slots vs (no_plan 3 0)
Holds (check vs flat a) = CheckNumbers flat vs a
Holds (text t k) = (arena buffer : List ℕ) → PlanText arena buffer t (refused_plan arena buffer 1 k)

-- Short forms for the rows. One sheet `L W k`; its piece lines `l w p b`, of which there are n.
abbrev pub sheet : ℕ → ℕ → ℕ → ℕ → List ℕ → List ℕ
sheet l w k n piece_lines = 1 ∷ l ∷ w ∷ k ∷ n ∷ piece_lines

abbrev pub piece : ℕ → ℕ → ℕ → ℕ → List ℕ
piece l w p b = l ∷ w ∷ p ∷ b ∷ []

abbrev pub at : ℕ → ℕ → ℕ → List ℕ
at type x y = type ∷ x ∷ y ∷ []

abbrev pub outline : ℕ → ℕ → List ℕ → Outline
outline l w c = record { long = l; wide = w; counts = c }

abbrev pub accepted : ℕ → ℕ → CheckAnswer
accepted p m = record { number = 0; place = 0; profit = p; pieces = m }

-- "The job above"
abbrev pub ten : List ℕ
ten = sheet 10 6 0 1 (piece 5 3 15 4)

-- "Pinwheel"
abbrev pub wheel : List ℕ
wheel = sheet 3 3 0 3 (piece 2 1 2 2 ++ piece 1 2 2 2 ++ piece 1 1 1 1)

abbrev pub rows : List Row
rows =
    plan ten (outline 10 6 (4 ∷ [])) 60 5
    ∷ plan (sheet 10 6 0 1 (piece 10 6 60 1)) (outline 10 6 (1 ∷ [])) 60 1
    ∷ no_fit (sheet 10 6 1 1 (piece 10 6 60 1))
    ∷ plan (sheet 4 1 0 2 (piece 2 1 5 1 ++ piece 2 1 3 1)) (outline 4 1 (1 ∷ 1 ∷ [])) 8 3
    ∷ check ten (at 1 0 0 ++ at 1 5 0) (accepted 30 2)
    ∷ check ten (at 1 0 0 ++ at 1 4 0) (refused 9 1)
    ∷ check ten (at 1 6 0) (refused 7 0)
    ∷ check ten (at 1 0 0 ++ at 1 0 0 ++ at 1 0 0 ++ at 1 0 0 ++ at 1 0 0) (refused 8 4)
    ∷ check wheel (at 1 0 0 ++ at 2 2 0 ++ at 1 1 2 ++ at 2 0 1 ++ at 3 1 1) (refused 10 0)
    ∷ check wheel (at 2 2 0 ++ at 1 1 2 ++ at 2 0 1 ++ at 3 1 1) (accepted 7 4)
    ∷ text [] 0
    ∷ text (48 ∷ 49 ∷ []) 1
    ∷ []
