-- What can be made from starts by two ways to join, kept if ..; and lists that hold each such thing once.
-- The builds of document 01 are one instance (specs/Job); other engines keep less or join other things. Assumes nothing.
use Rattle.std.specs.Prelude.{◌≡◌, ℕ, suc, length}
use mathlib.Core.List.{List, [], ◌∷◌, Memᴰ}
use Rattle.rules.specs.Bag.{All}

-- what one starts from, what may be kept, and the two joins
pub record Making (A : Type 0) : Type 1 where
  pub Start : A → Type 0
  pub Keep : A → Type 0
  pub side : A → A → A
  pub stack : A → A → A

module _ {A : Type 0} where
  -- a start that may be kept, or a join of two made things that may be kept
  pub data Made (m : Making A) : A → Type 0 where
    one : {a : A} → m.Start a → m.Keep a → Made m a
    beside : {a b : A} → Made m a → Made m b → m.Keep (m.side a b) → Made m (m.side a b)
    above : {a b : A} → Made m a → Made m b → m.Keep (m.stack a b) → Made m (m.stack a b)

  -- no element twice
  pub data Distinct : List A → Type 0 where
    no_one : Distinct []
    new : {a : A} {l : List A} → ¬ Memᴰ a l → Distinct l → Distinct (a ∷ l)

  -- each thing with P once, and nothing else; the number of things with P is then the length of the list
  pub record Enumerates (P : A → Type 0) (l : List A) : Type 0 where
    pub once : Distinct l
    pub only : All P l
    pub each : (a : A) → P a → Memᴰ a l

  -- at least n + 1 different things have P
  abbrev pub MoreThan : (A → Type 0) → ℕ → Type 0
  MoreThan P n = (l : List A) × Distinct l × All P l × (length l ≡ suc n)
