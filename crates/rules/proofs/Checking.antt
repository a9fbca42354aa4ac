-- The checker's answer: computed, so every list has one, and it is the only one. Assumes nothing.
use mathlib.Core.Path.{◌≡◌, refl, sym, ◌∙◌}
use mathlib.Core.Bool.{Bool, true, false, true≢false}
use mathlib.Core.List.{List}
use Prim.Native.Nat.{ℕ}
use native.Mathlib.Omega.{arith}
use lib.ListN.{length}
use Rattle.rules.specs.Placed.{boxes}
use Rattle.rules.specs.Numbers.{Numbers, Entry, lying}
use Rattle.rules.specs.Checker.{tests, first_refusal, Found, nothing, found, CheckAnswer, refused, taken, Checked, refusal, not_parted, accepted}
use Rattle.rules.proofs.Decide.{parts, parts_iff}

abbrev pub checked : Numbers → List Entry → CheckAnswer
checked n l = elim (first_refusal (tests n) l) [
  | nothing ↦ elim (parts (length (boxes (lying n l))) (boxes (lying n l))) [ true ↦ taken n l | false ↦ refused 10 0 ]
  | found m i ↦ refused m i
]

pub checked_is : (n : Numbers) (l : List Entry) → Checked n l (checked n l)
checked_is n l = go (first_refusal (tests n) l) refl (parts (length (boxes (lying n l))) (boxes (lying n l))) refl
  where
    go : (f : Found) → first_refusal (tests n) l ≡ f → (b : Bool) → parts (length (boxes (lying n l))) (boxes (lying n l)) ≡ b →
        Checked n l (elim f as (λ (f : Found). CheckAnswer) [ nothing ↦ elim b as (λ (b : Bool). CheckAnswer) [ true ↦ taken n l | false ↦ refused 10 0 ] | found m i ↦ refused m i ])
    go nothing e true p = accepted e ((parts_iff (boxes (lying n l))).0 p)
    go nothing e false p = not_parted e (λ x. true≢false (sym ((parts_iff (boxes (lying n l))).1 x) ∙ p))
    go (found m i) e b p = refusal e

found_same : {m i k j : ℕ} → found m i ≡ found k j → refused m i ≡ refused k j
found_same e = cc

never : {m i : ℕ} → found m i ≡ nothing → ⊥
never e = let z : ◌≡◌ {A = ℕ} 0 1 = cc in omega arith

pub checked_once : {n : Numbers} {l : List Entry} {a b : CheckAnswer} → Checked n l a → Checked n l b → a ≡ b
checked_once (refusal e) (refusal f) = found_same (sym e ∙ f)
checked_once (refusal e) (not_parted f p) = absurd (never (sym e ∙ f))
checked_once (refusal e) (accepted f p) = absurd (never (sym e ∙ f))
checked_once (not_parted e p) (refusal f) = absurd (never (sym f ∙ e))
checked_once (not_parted e p) (not_parted f q) = refl
checked_once (not_parted e p) (accepted f q) = absurd (p q)
checked_once (accepted e p) (refusal f) = absurd (never (sym f ∙ e))
checked_once (accepted e p) (not_parted f q) = absurd (q p)
checked_once (accepted e p) (accepted f q) = refl
