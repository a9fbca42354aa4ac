-- Numbers in decimal: each has its digits, and one way to write them; what is written is read back. Assumes nothing.
use mathlib.Core.Path.{◌≡◌, refl, sym, subst}
use mathlib.Core.Bool.{Bool, true, false}
use mathlib.Core.List.{List, [], ◌∷◌, ◌++◌}
use Prim.Native.Nat.{ℕ, zero, suc, ◌+◌, ◌*◌, ◌/◌, ◌%◌, ◌^◌, ◌≤◌, ◌<◌}
use native.Mathlib.Nat.{pow-le-pow_right, suc-mul}
use native.Mathlib.Omega.{arith}
use native.Mathlib.Decide.{dec_lt}
use lib.ListN.{length, length-append}
use lib.Dec.{ltb}
use borrow.Author.Tests.{ltb-true, ltb-false}
use Rattle.rules.specs.Limits.{digits_most}
use Rattle.rules.specs.Bag.{All, cons}
use Rattle.rules.specs.Decimal.{Decimal, digit, more}
use Rattle.rules.specs.Text.{End, byte, Script, end, num, Text, done, after}
use Rattle.rules.specs.Printed.{Spelled}
use Rattle.rules.specs.Printed as printed
use Rattle.rules.proofs.Reading.{text_once}

-- a number of n digits is below 10 to the n, and, unless it is 0, at least 10 to the n - 1
pub decimal_below : {ds : List ℕ} {v : ℕ} → Decimal ds v → v < 10 ^ length ds
decimal_below (digit h) = omega arith
decimal_below (more {ds = ds} {v = v} {d = d} p a h) =
    let l : length (ds ++ ((48 + d) ∷ [])) ≡ suc (length ds) = omega (arith, length-append ds ((48 + d) ∷ [])) in
    subst (λ n. 10 * v + d < 10 ^ n) (sym l) (omega (arith, decimal_below p))

pub decimal_above : {ds : List ℕ} {v : ℕ} → Decimal ds v → 0 < v → 10 ^ length ds ≤ 10 * v
decimal_above (digit h) k = omega arith
decimal_above (more {ds = ds} {v = v} {d = d} p a h) k =
    let l : length (ds ++ ((48 + d) ∷ [])) ≡ suc (length ds) = omega (arith, length-append ds ((48 + d) ∷ [])) in
    subst (λ n. 10 ^ n ≤ 10 * (10 * v + d)) (sym l) (omega (arith, decimal_above p a))

zero_digits : {ds : List ℕ} {v : ℕ} → Decimal ds v → v ≡ 0 → length ds ≡ 1
zero_digits (digit h) e = refl
zero_digits (more p a h) e = absurd (omega arith)

tens : (m n : ℕ) → m ≤ n → 10 ^ m ≤ 10 ^ n
tens m n h = pow-le-pow_right {n = 10} (omega arith) h

-- so the numbers of a text are those below 10 to the digits it allows
pub short_below : {ds : List ℕ} {v : ℕ} → Decimal ds v → length ds ≤ digits_most → v < 100_000_000
short_below {ds} p h = omega (arith, decimal_below p, tens (length ds) digits_most h)

pub below_short : {ds : List ℕ} {v : ℕ} → Decimal ds v → v < 100_000_000 → length ds ≤ digits_most
below_short {ds} {v} p h = go (dec_lt digits_most (length ds)) (dec_lt 0 v)
  where
    go : Dec (digits_most < length ds) → Dec (0 < v) → length ds ≤ digits_most
    go (no k) z = omega arith
    go (yes k) (yes z) = absurd (omega (arith, decimal_above p z, tens 9 (length ds) k))
    go (yes k) (no z) = absurd (omega (arith, zero_digits p (omega arith)))

-- there is one way to write a number
decimal_same : {ds es : List ℕ} {v w : ℕ} → Decimal ds v → Decimal es w → v ≡ w → ds ≡ es
decimal_same (digit {d = d} h) (digit {d = c} k) e = λ i. (48 + e i) ∷ []
decimal_same (digit h) (more p a k) e = absurd (omega arith)
decimal_same (more p a k) (digit h) e = absurd (omega arith)
decimal_same (more {ds = ds} {v = v} {d = d} p a h) (more {ds = es} {v = w} {d = c} q b k) e =
    let x : v ≡ w = omega arith in
    let y : d ≡ c = omega arith in
    let z : ds ≡ es = decimal_same p q x in
    λ i. z i ++ ((48 + y i) ∷ [])

pub decimal_once : {ds es : List ℕ} {v : ℕ} → Decimal ds v → Decimal es v → ds ≡ es
decimal_once p q = decimal_same p q refl

-- the digits of a number below 10 to the f + 1, computed
abbrev pub digits_of : ℕ → ℕ → List ℕ
digits_of zero n = (48 + n % 10) ∷ []
digits_of (suc f) n = elim (ltb n 10) [ true ↦ (48 + n) ∷ [] | false ↦ digits_of f (n / 10) ++ ((48 + n % 10) ∷ []) ]

pub digits_decimal : (f n : ℕ) → n < 10 ^ suc f → Decimal (digits_of f n) n
digits_decimal zero n b =
    let e : n % 10 ≡ n = omega arith in
    rw e (digit {d = n} (omega arith))
digits_decimal (suc f) n b = go (ltb n 10) refl (digits_decimal f (n / 10))
  where
    go : (t : Bool) → ltb n 10 ≡ t → (n / 10 < 10 ^ suc f → Decimal (digits_of f (n / 10)) (n / 10)) → Decimal (elim t as (λ (t : Bool). List ℕ) [ true ↦ (48 + n) ∷ [] | false ↦ digits_of f (n / 10) ++ ((48 + n % 10) ∷ []) ]) n
    go true p r = digit (ltb-true n 10 p)
    go false p r =
        let q = ltb-false n 10 p in
        let e : 10 * (n / 10) + n % 10 ≡ n = omega arith in
        subst (λ v. Decimal (digits_of f (n / 10) ++ ((48 + n % 10) ∷ [])) v) e (more (r (omega arith)) (omega arith) (omega arith))

-- every number has its digits
bounded : (n : ℕ) → n < 10 ^ suc n
bounded zero = omega arith
bounded (suc n) = omega (arith, bounded n)

pub decimal_exists : (n : ℕ) → (ds : List ℕ) × Decimal ds n
decimal_exists n = (digits_of n n, digits_decimal n n (bounded n))

-- numbers as many as a script asks for
pub data Asked : Script → List ℕ → Type 0 where
  none : Asked end []
  one : {e : End} {k : ℕ → Script} {v : ℕ} {vs : List ℕ} → Asked (k v) vs → Asked (num e k) (v ∷ vs)

pub spelled_exists : {s : Script} {vs : List ℕ} → Asked s vs → (t : List ℕ) × Spelled s t vs
spelled_exists none = ([], printed.done)
spelled_exists (one {e = e} {v = v} a) =
    let d = decimal_exists v in
    let r = spelled_exists a in
    (d.0 ++ byte e ∷ r.0, printed.after d.1 r.1)

pub spelled_once : {s : Script} {t u vs : List ℕ} → Spelled s t vs → Spelled s u vs → t ≡ u
spelled_once printed.done printed.done = refl
spelled_once (printed.after {e = e} p x) (printed.after q y) =
    let a = decimal_once p q in
    let b = spelled_once x y in
    λ i. a i ++ byte e ∷ b i

-- what is written is a text of the grammar, where its numbers are small enough, and a text is what is written
pub spelled_text : {s : Script} {t vs : List ℕ} → Spelled s t vs → All (λ v. v < 100_000_000) vs → Text s t vs
spelled_text printed.done a = done
spelled_text (printed.after p x) (cons h a) = after p (below_short p h) (spelled_text x a)

pub text_spelled : {s : Script} {t vs : List ℕ} → Text s t vs → Spelled s t vs
text_spelled done = printed.done
text_spelled (after p l x) = printed.after p (text_spelled x)

-- "what is written is read back as the same numbers"
pub read_back : {s : Script} {t vs ws : List ℕ} → Spelled s t vs → All (λ v. v < 100_000_000) vs → Text s t ws → ws ≡ vs
read_back x a y = text_once y (spelled_text x a)

pub text_asked : {s : Script} {t vs : List ℕ} → Text s t vs → Asked s vs
text_asked done = none
text_asked (after p l x) = one (text_asked x)

pub spelled_asked : {s : Script} {t vs : List ℕ} → Spelled s t vs → Asked s vs
spelled_asked printed.done = none
spelled_asked (printed.after p x) = one (spelled_asked x)

-- how long a number can be, and a text of numbers each with the byte behind it
pub digits_at_most : {ds : List ℕ} {v : ℕ} (k : ℕ) → 0 < k → v < 10 ^ k → Decimal ds v → length ds ≤ k
digits_at_most {ds} {v} k z h p = go (dec_lt k (length ds)) (dec_lt 0 v)
  where
    go : Dec (k < length ds) → Dec (0 < v) → length ds ≤ k
    go (no n) b = omega arith
    go (yes n) (yes b) = absurd (omega (arith, decimal_above p b, tens (suc k) (length ds) n))
    go (yes n) (no b) = absurd (omega (arith, zero_digits p (omega arith)))

pub spelled_at_most : {s : Script} {t vs : List ℕ} (k : ℕ) → 0 < k → All (λ v. v < 10 ^ k) vs → Spelled s t vs → length t ≤ length vs * suc k
spelled_at_most k z a printed.done = omega arith
spelled_at_most k z (cons h a) (printed.after {e = e} {ds = ds} {t = t} {vs = vs} p x) =
    let d = digits_at_most k z h p in
    let r = spelled_at_most k z a x in
    omega (arith, length-append ds (byte e ∷ t), suc-mul (length vs) (suc k))
