-- How far the reading position has come, told of the reading of the rules (proofs/Reading of the rules shows that it is the grammar's). Assumes nothing.
use Rattle.std.specs.Prelude.{◌≡◌, List, [], ◌∷◌, ℕ, ◌-◌, ◌≤◌, length, take, drop, Result, MatchResult}
use Rattle.rules.specs.Text.{Script, a_line, some_lines}
use Rattle.rules.proofs.Reading.{Read, stop, read, noted}
use Rattle.reader.specs.declared.Stray.{Stray}

-- numbers read before a reading
abbrev pub noted_all : List ℕ → Read → Read
noted_all [] r = r
noted_all (v ∷ vs) r = noted v (noted_all vs r)

-- reading what f asks for, whatever comes behind it, leads from one place with the numbers vs to what g still asks for at another
pub record Walking (f : Script → Script) (t : List ℕ) (from : ℕ) (vs : List ℕ) (g : Script → Script) (at : ℕ) : Type 0 where
  pub reads : (s : Script) → read (f s) from 0 0 (drop from t) ≡ noted_all vs (read (g s) at 0 0 (drop at t))

-- reading what f asks for leaves the grammar at this place, whatever comes behind it
pub record Strays (f : Script → Script) (t : List ℕ) (from : ℕ) (stray : Stray) : Type 0 where
  pub stops : (s : Script) → read (f s) from 0 0 (drop from t) ≡ stop stray.place

-- what f asks for was read up to this place, and what is told of it is so of its numbers
pub record Arrives {A : Type 0} (f : Script → Script) (t : List ℕ) (from : ℕ) (Told : A → List ℕ → Type 0) (a : A) (at : ℕ) : Type 0 where
  pub numbers : List ℕ
  pub told : Told a numbers
  pub walked : Walking f t from numbers (λ s. s) at

-- what f asks for was read up to a place; or the reading leaves the grammar
abbrev pub Reads : {A : Type 0} → (Script → Script) → List ℕ → ℕ → (A → List ℕ → Type 0) → Result A Stray → ℕ → Type 0
Reads f t from Told r at = MatchResult r (λ a. Arrives f t from Told a at) (Strays f t from)

-- what f asks for was read up to this place, whatever its numbers
pub record Passed (f : Script → Script) (t : List ℕ) (from at : ℕ) : Type 0 where
  pub numbers : List ℕ
  pub walked : Walking f t from numbers (λ s. s) at

abbrev pub Passes : (Script → Script) → List ℕ → ℕ → Result Unit Stray → ℕ → Type 0
Passes f t from r at = MatchResult r (λ _. Passed f t from at) (Strays f t from)

-- within a line of w numbers: j of them are read and stand in front of the array
pub record InLine (t : List ℕ) (from w : ℕ) (numbers : List ℕ) (at j : ℕ) : Type 0 where
  pub within : j ≤ w
  pub size : length numbers ≡ w
  pub walking : Walking (a_line w) t from (take j numbers) (a_line (w - j)) at

-- among n lines of w numbers: i of them are passed
pub record InLines (t : List ℕ) (from n w at i : ℕ) : Type 0 where
  pub within : i ≤ n
  pub numbers : List ℕ
  pub walking : Walking (some_lines n w) t from numbers (some_lines (n - i) w) at
