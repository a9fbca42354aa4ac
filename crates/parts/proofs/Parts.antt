-- An odometer goes through all parts of counts with at most half of the pieces, and comes to its end. Assumes nothing.
use mathlib.Core.Path.{◌≡◌, sym, ap, ◌∙◌}
use mathlib.Core.Logic.{◌⊎◌, inl, inr}
use mathlib.Core.List.{List, [], ◌∷◌}
use Prim.Native.Nat.{ℕ, zero, suc, ◌+◌, ◌*◌, ◌-◌, ◌≤◌, ◌<◌}
use native.Mathlib.Omega.{arith}
use native.Mathlib.Decide.{ℕ_discrete, dec_lt}
use lib.ListN.{length}
use lib.Seq.{ext_get_or}
use Rattle.rules.specs.Bag.{sum}
use Rattle.parts.specs.Parts.{digit, half_of, Part, Stuck, Behind, Earlier}

-- the same counts of so many types
abbrev pub Same : ℕ → List ℕ → List ℕ → Type 0
Same types x d = (k : ℕ) → k < types → digit x k ≡ digit d k

-- where x is d from a on, and d can have no more before, x is d or comes before it
downward : {types : ℕ} {c : List ℕ} (x d : List ℕ) → Part types c x → (a : ℕ) → a ≤ types → ((k : ℕ) → k < a → Stuck types c d k) → ((k : ℕ) → a ≤ k → k < types → digit x k ≡ digit d k) → Earlier types x d ⊎ Same types x d
downward x d w zero h f g = inr (λ k l. g k (omega arith) l)
downward {types} x d w (suc a) h f g = go (λ r. downward x d w a (omega arith) (λ k l. f k (omega arith)) r) (f a (omega arith) x w (λ k l m. g k (omega arith) m)) (ℕ_discrete (digit x a) (digit d a))
  where
    at_a : digit x a ≡ digit d a → (k : ℕ) → a ≤ k → k < types → Dec (k ≡ a) → digit x k ≡ digit d k
    at_a e k l m (yes z) = ap (digit x) z ∙ e ∙ ap (digit d) (sym z)
    at_a e k l m (no z) = g k (omega arith) m

    go : (((k : ℕ) → a ≤ k → k < types → digit x k ≡ digit d k) → Earlier types x d ⊎ Same types x d) → digit x a ≤ digit d a → Dec (digit x a ≡ digit d a) → Earlier types x d ⊎ Same types x d
    go r y (yes e) = r (λ k l m. at_a e k l m (ℕ_discrete k a))
    go r y (no e) = inl (record { at = a; among = omega arith; less = omega arith; above = λ k l m. g k (omega arith) m })

-- what comes before the next part comes before this one, or is it
pub earlier_step : {types : ℕ} {c x d e : List ℕ} → Behind types c d e → Part types c x → Earlier types x e → Earlier types x d ⊎ Same types x d
earlier_step {types} {c} {x} {d} {e} b w r = go (dec_lt r.at b.at) (dec_lt b.at r.at)
  where
    here : r.at ≡ b.at → Dec (digit x b.at ≡ digit d b.at) → Earlier types x d ⊎ Same types x d
    here z (yes y) = downward x d w b.at (omega (arith, b.among)) b.stuck (λ k l m. from k l m (ℕ_discrete k b.at))
      where
        from : (k : ℕ) → b.at ≤ k → k < types → Dec (k ≡ b.at) → digit x k ≡ digit d k
        from k l m (yes v) = ap (digit x) v ∙ y ∙ ap (digit d) (sym v)
        from k l m (no v) = r.above k (omega arith) m ∙ b.stays k (omega arith) m
    here z (no y) =
        let u = r.less in
        let v = ap (digit e) z ∙ b.up in
        inl (record { at = b.at; among = b.among; less = omega (arith, ap (digit x) z); above = λ k l m. r.above k (omega arith) m ∙ b.stays k l m })

    go : Dec (r.at < b.at) → Dec (b.at < r.at) → Earlier types x d ⊎ Same types x d
    go (yes y) z = absurd (omega (arith, r.less, b.again r.at y))
    go (no y) (yes z) = inl (record { at = r.at; among = r.among; less = omega (arith, r.less, b.stays r.at z r.among); above = λ k l m. r.above k l m ∙ b.stays k (omega arith) m })
    go (no y) (no z) = here (omega arith) (ℕ_discrete (digit x b.at) (digit d b.at))

-- where no count can go up, nothing comes behind
pub earlier_end : {types : ℕ} {c x d : List ℕ} → ((k : ℕ) → k < types → Stuck types c d k) → Part types c x → Earlier types x d ⊎ Same types x d
earlier_end {types} {x = x} {d = d} f w = downward x d w types (omega arith) f (λ k l m. absurd (omega arith))

-- before the part of nothing there is none
pub earlier_none : {types : ℕ} {x d : List ℕ} → ((k : ℕ) → digit d k ≡ 0) → Earlier types x d → ⊥
earlier_none f r = omega (arith, r.less, f r.at)

-- a count that has all of its pieces can have no more
pub stuck_full : {types : ℕ} (c d : List ℕ) {k : ℕ} → k < types → digit c k ≤ digit d k → Stuck types c d k
stuck_full c d {k} l h x w f = omega (arith, w.within k l)

same_sum : (x r : List ℕ) → length x ≡ length r → ((j : ℕ) → j < length r → digit x j ≡ digit r j) → sum x ≡ sum r
same_sum x r e f = ap sum (ext_get_or 0 x r e (λ j l. f j (omega arith)))

sum_above : (k : ℕ) (x r : List ℕ) → length x ≡ length r → ((j : ℕ) → j < k → digit r j ≡ 0) → ((j : ℕ) → k < j → j < length r → digit x j ≡ digit r j) → digit x k + sum r ≤ digit r k + sum x
sum_above k [] [] e f g = omega arith
sum_above k [] (b ∷ r) e f g = absurd (omega arith)
sum_above k (a ∷ x) [] e f g = absurd (omega arith)
sum_above zero (a ∷ x) (b ∷ r) e f g = omega (arith, same_sum x r (omega arith) (λ j l. g (suc j) (omega arith) (omega arith)))
sum_above (suc k) (a ∷ x) (b ∷ r) e f g = omega (arith, f 0 (omega arith), sum_above k x r (omega arith) (λ j l. f (suc j) (omega arith)) (λ j l m. g (suc j) (omega arith) (omega arith)))

-- nor can one where what stands there and behind it has half of the pieces already
pub stuck_spare : {types : ℕ} (c d r : List ℕ) {k : ℕ} → k < types → length r ≡ types → ((j : ℕ) → j < k → digit r j ≡ 0) → ((j : ℕ) → k ≤ j → j < types → digit r j ≡ digit d j) → half_of types c ≤ sum r → Stuck types c d k
stuck_spare c d r {k} l e z s h x w f =
    omega (arith, sum_above k x r (w.long ∙ sym e) z (λ j a b. f j a (omega arith) ∙ sym (s j (omega arith) (omega arith))), w.few, s k (omega arith) l)

-- what is left of the odometer falls
unfoldable pub power : ℕ → ℕ
power zero = 1
power (suc t) = 256 * power t

unfoldable pub left : ℕ → List ℕ → ℕ
left zero d = 0
left (suc t) d = (255 - digit d t) * power t + left t d

times_more : (x w : ℕ) → suc x * w ≡ x * w + w
times_more x w = omega arith

fresh : (t : ℕ) (e : List ℕ) → ((k : ℕ) → k < t → digit e k ≡ 0) → left t e < power t
unfolding power left
fresh zero e f = omega arith
fresh (suc t) e f = let z = f t (omega arith) in let y : (255 - digit e t) * power t ≡ 255 * power t = ap (λ v. (255 - v) * power t) z in omega (arith, fresh t e (λ k l. f k (omega arith)))

pub left_falls : {types : ℕ} {c d e : List ℕ} (b : Behind types c d e) (t : ℕ) → t ≤ types → b.at < t → left t e < left t d
unfolding left
left_falls b zero h l = absurd (omega arith)
left_falls {types} {c} {d} {e} b (suc t) h l = go (λ y. left_falls b t (omega arith) y) (ℕ_discrete t b.at)
  where
    go : (b.at < t → left t e < left t d) → Dec (t ≡ b.at) → left (suc t) e < left (suc t) d
    go r (yes z) =
        let f = fresh t e (λ k m. b.again k (omega arith)) in
        let v : digit e t ≡ suc (digit d t) = ap (digit e) z ∙ b.up ∙ ap (λ k. suc (digit d k)) (sym z) in
        let w : digit d t < 255 = omega (arith, b.byte, ap (digit d) z) in
        let x : 255 - digit d t ≡ suc (255 - digit e t) = omega arith in
        let y : (255 - digit d t) * power t ≡ (255 - digit e t) * power t + power t = ap (λ k. k * power t) x ∙ times_more (255 - digit e t) (power t) in
        omega arith
    go r (no z) =
        let v : (255 - digit e t) * power t ≡ (255 - digit d t) * power t = ap (λ k. (255 - k) * power t) (b.stays t (omega arith) (omega arith)) in
        omega (arith, r (omega arith))
