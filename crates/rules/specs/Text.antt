-- "Texts": the grammar of job and plan texts, and the place at which a text leaves it. Assumes nothing.
use Rattle.std.specs.Prelude.{List, [], ◌∷◌, ◌++◌, ℕ, zero, suc, ◌≤◌, ◌<◌, length, take}
use Rattle.rules.specs.Limits.{digits_most}
use Rattle.rules.specs.Decimal.{Decimal}

-- what ends a number: "Lines end in LF", "one space between"
pub data End : Type 0 where
  space line : End

abbrev pub byte : End → ℕ
byte space = 32
byte line = 10

-- what is still to come: nothing, or a number with what ends it, and then what its value asks for
pub data Script : Type 0 where
  end : Script
  num : End → (ℕ → Script) → Script

-- the texts of a script, with their numbers in reading order: "decimal, 1 to 8 digits". "Nothing follows the last line."
pub data Text : Script → List ℕ → List ℕ → Type 0 where
  done : Text end [] []
  after : {e : End} {k : ℕ → Script} {ds t vs : List ℕ} {v : ℕ} → Decimal ds v → length ds ≤ digits_most → Text (k v) t vs → Text (num e k) (ds ++ byte e ∷ t) (v ∷ vs)

-- a line of w numbers; n such lines; "sections in fixed order, each after its count"
abbrev pub a_line : ℕ → Script → Script
a_line zero s = s
a_line (suc zero) s = num line (λ v. s)
a_line (suc (suc w)) s = num space (λ v. a_line (suc w) s)

abbrev pub some_lines : ℕ → ℕ → Script → Script
some_lines zero w s = s
some_lines (suc n) w s = a_line w (some_lines n w s)

-- "a count may be any number"
abbrev pub section : ℕ → Script → Script
section w s = num line (λ n. some_lines n w s)

-- sheets `L W k`, pieces `l w p b`
unfoldable pub job_text : Script
job_text = section 3 (section 4 end)

-- and placements `type x y`
unfoldable pub plan_text : Script
plan_text = section 3 (section 4 (section 3 end))

-- p begins some text of the grammar
abbrev pub Begins : Script → List ℕ → Type 0
Begins s p = (u : List ℕ) × (vs : List ℕ) × Text s (p ++ u) vs

-- t is not in the grammar, and k is the "length of its longest beginning that also begins some text of the grammar"
pub record LeavesAt (s : Script) (t : List ℕ) (k : ℕ) : Type 0 where
  pub none : (vs : List ℕ) → ¬ Text s t vs
  pub within : k ≤ length t
  pub begins : Begins s (take k t)
  pub longest : (i : ℕ) → k < i → i ≤ length t → ¬ Begins s (take i t)
