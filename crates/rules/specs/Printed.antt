-- "What the programs print". Assumes nothing.
use Rattle.std.specs.Prelude.{List, [], ◌∷◌, ◌++◌, ℕ}
use Rattle.rules.specs.Decimal.{Decimal}
use Rattle.rules.specs.Text.{End, byte, Script, end, num, a_line, section}
use Rattle.rules.specs.Checker.{CheckAnswer}
use Rattle.rules.specs.Planner.{PlanAnswer}

-- numbers of any size written as a script asks for them
pub data Spelled : Script → List ℕ → List ℕ → Type 0 where
  done : Spelled end [] []
  after : {e : End} {k : ℕ → Script} {ds t vs : List ℕ} {v : ℕ} → Decimal ds v → Spelled (k v) t vs → Spelled (num e k) (ds ++ byte e ∷ t) (v ∷ vs)

-- "one line: number, place, profit, length, width, pieces, N"
abbrev pub PlanLine : List ℕ → PlanAnswer → Type 0
PlanLine bytes a = Spelled (a_line 7 end) bytes (a.number ∷ a.place ∷ a.profit ∷ a.long ∷ a.wide ∷ a.pieces ∷ a.outlines ∷ [])

-- "number, place, profit, pieces"
abbrev pub CheckLine : List ℕ → CheckAnswer → Type 0
CheckLine bytes a = Spelled (a_line 4 end) bytes (a.number ∷ a.place ∷ a.profit ∷ a.pieces ∷ [])

-- "On number 0 a placement section follows": a count, and lines `type x y` of flat numbers
abbrev pub PlacementSection : List ℕ → ℕ → List ℕ → Type 0
PlacementSection bytes placements flat = Spelled (section 3 end) bytes (placements ∷ flat)
