-- An answer handed out through a lent slice of numbers. Assumes nothing.
use Rattle.std.specs.Prelude.{◌≡◌, List, ◌++◌, ℕ, length, take, drop, get_or}

-- a lent slice takes as many of the numbers as it has room for; what it holds behind them stays
abbrev pub handed_out : List ℕ → List ℕ → List ℕ
handed_out numbers was = take (length was) numbers ++ drop (length numbers) was

-- the slice that held `was` holds `now`, and r is returned: an answer that is right was handed out, and its first number, the refusal table's, returned
pub record Reply {A : Type 0} (numbers : A → List ℕ) (Right : A → Type 0) (was now : List ℕ) (r : ℕ) : Type 0 where
  pub said : A
  pub right : Right said
  pub answer : now ≡ handed_out (numbers said) was
  pub returned : r ≡ get_or (numbers said) 0 0
