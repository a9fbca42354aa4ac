-- Laws of tests joined by "and" and "or". Assumes nothing.
use mathlib.Core.Path.{◌≡◌, refl, sym}
use mathlib.Core.Bool.{Bool, true, false, not, ◌&&◌, ◌||◌, true≢false}
use mathlib.Core.Logic.{◌⊎◌, inl, inr}
use mathlib.Core.List.{List, [], ◌∷◌}
use Rattle.rules.specs.Bag.{All, nil, cons}

pub and_both : (a b : Bool) → (a && b) ≡ true → (a ≡ true) × (b ≡ true)
and_both true b e = (refl, e)
and_both false b e = absurd (true≢false (sym e))

pub both_and : {a b : Bool} → a ≡ true → b ≡ true → (a && b) ≡ true
both_and p q = cc

-- the first that holds
pub or_cases : (a b : Bool) → (a || b) ≡ true → (a ≡ true) ⊎ ((a ≡ false) × (b ≡ true))
or_cases true b e = inl refl
or_cases false b e = inr (refl, e)

pub or_left : {a : Bool} (b : Bool) → a ≡ true → (a || b) ≡ true
or_left b p = rw p

pub or_right : (a : Bool) {b : Bool} → b ≡ true → (a || b) ≡ true
or_right true e = refl
or_right false e = e

pub or_second : (a b : Bool) → (a || b) ≡ true → not a ≡ true → b ≡ true
or_second true b e n = absurd (true≢false (sym n))
or_second false b e n = e

pub or_false : (a b : Bool) → (a || b) ≡ false → (a ≡ false) × (b ≡ false)
or_false true b e = absurd (true≢false e)
or_false false b e = (refl, e)

pub both_false : {a b : Bool} → a ≡ false → b ≡ false → (a || b) ≡ false
both_false p q = cc

pub and_false_left : {a : Bool} (b : Bool) → a ≡ false → (a && b) ≡ false
and_false_left b e = rw e

pub and_false_right : (a : Bool) {b : Bool} → b ≡ false → (a && b) ≡ false
and_false_right true e = e
and_false_right false e = refl

pub not_false : (a : Bool) → not a ≡ false → a ≡ true
not_false true e = refl
not_false false e = absurd (true≢false e)

pub not_true : (a : Bool) → not a ≡ true → a ≡ false
not_true true e = absurd (true≢false (sym e))
not_true false e = refl

-- a test of every element
abbrev pub every : {A : Type 0} → (A → Bool) → List A → Bool
every f [] = true
every f (x ∷ xs) = f x && every f xs

pub every_all : {A : Type 0} (f : A → Bool) (l : List A) → every f l ≡ true → All (λ a. f a ≡ true) l
every_all f [] e = nil
every_all f (x ∷ xs) e = let p = and_both (f x) (every f xs) e in cons p.0 (every_all f xs p.1)
