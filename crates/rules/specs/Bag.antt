-- Lists as bags: how many elements pass a test, the part that passes it, and lists that agree but for their order. Assumes nothing.
use Rattle.std.specs.Prelude.{◌≡◌, Bool, true, false, not, List, [], ◌∷◌, ℕ, suc, ◌+◌, ◌≤◌}

-- one more where the test passed
abbrev pub tick : Bool → ℕ → ℕ
tick true n = suc n
tick false n = n

abbrev pub sum : List ℕ → ℕ
sum [] = 0
sum (x ∷ xs) = x + sum xs

module _ {A : Type 0} where
  abbrev pub prepend : Bool → A → List A → List A
  prepend true x l = x ∷ l
  prepend false x l = l

  -- the elements that pass, in their order
  abbrev pub keep : (A → Bool) → List A → List A
  keep f [] = []
  keep f (x ∷ xs) = prepend (f x) x (keep f xs)

  -- how many elements pass
  abbrev pub count : (A → Bool) → List A → ℕ
  count f [] = 0
  count f (x ∷ xs) = tick (f x) (count f xs)

  abbrev pub always : A → Bool
  always a = true

  abbrev pub other : (A → Bool) → A → Bool
  other f a = not (f a)

  -- what every element of a list has
  pub data All (P : A → Type 0) : List A → Type 0 where
    nil : All P []
    cons : {x : A} {xs : List A} → P x → All P xs → All P (x ∷ xs)

  -- qs holds nothing that ps does not hold, and nothing more often: a part of ps in any order
  abbrev pub Within : List A → List A → Type 0
  Within qs ps = (f : A → Bool) → count f qs ≤ count f ps

  -- the same elements, as often, in any order
  abbrev pub Same : List A → List A → Type 0
  Same qs ps = (f : A → Bool) → count f qs ≡ count f ps
