-- What keys weigh: number by number, together, and how far it spreads. Assumes nothing.
use mathlib.Core.Path.{◌≡◌, refl, sym, ap, ◌∙◌, subst}
use mathlib.Core.List.{List, [], ◌∷◌}
use Prim.Native.Nat.{ℕ, zero, suc, ◌+◌, ◌-◌, ◌*◌, ◌%◌, ◌≤◌, ◌<◌}
use native.Mathlib.Omega.{arith}
use native.Mathlib.Nat.{mod-lt, mul_comm, mul-le-mul, mul-lt-mul_of_pos_right, div-lt_iff_lt-mul, add-mul}
use native.Mathlib.Numerals.{add-one}
use lib.Dec.{lit<}
use lib.ListN.{length, get_or, set, take, drop, length-take, drop_of_length-le}
use lib.Seq.{drop-cons, get_or-take}
use Rattle.rules.specs.Bag.{sum}
use Rattle.rules.specs.Job.{plus}
use Rattle.weighing.specs.Weights.{weight_most, first_weight, next_weight, weight_of, weighed, key_most, spread}

pub weight_small : (t : ℕ) → weight_of t < weight_most
unfolding weight_of
weight_small zero = lit< tt
weight_small (suc t) = mod-lt _ (lit< tt)

-- the weight of the next place
pub weight_next : (t : ℕ) {w v : ℕ} → w ≡ weight_of t → v ≡ next_weight w → v ≡ weight_of (t + 1)
unfolding weight_of
weight_next t e f = f ∙ ap next_weight e ∙ ap weight_of (sym (add-one t))

pub weight_first : first_weight ≡ weight_of 0
unfolding weight_of
weight_first = refl

-- what a byte weighs
pub byte_weighs : {x w : ℕ} → x < 256 → w < weight_most → x * w ≤ key_most
byte_weighs {x} {w} a b = omega (arith, mul-le-mul {n₁ = x} {m₁ = w} {n₂ = 256} {m₂ = weight_most} (omega arith) (omega arith))

-- as far as a key has been weighed
pub record Weighing (types : ℕ) (c : List ℕ) (sum each i : ℕ) : Type 0 where
  pub upto : i ≤ types
  pub each_is : each ≡ weight_of i
  pub total : sum + weighed i (drop i (take types c)) ≡ weighed 0 (take types c)
  pub small : sum ≤ i * key_most

pub weighing_start : (types : ℕ) (c : List ℕ) → Weighing types c 0 first_weight 0
weighing_start types c = record { upto = omega arith; each_is = weight_first; total = omega arith; small = omega arith }

module _ {types : ℕ} {c : List ℕ} {sum each i : ℕ} (h : Weighing types c sum each i) where
  pub each_small : each < weight_most
  each_small = omega (arith, h.each_is, weight_small i)

  pub weighing_more : {x next : ℕ} → i < types → types ≤ length c → x ≡ get_or c i 0 → x < 256 → next ≡ next_weight each → Weighing types c (sum + x * each) next (i + 1)
  unfolding weighed
  weighing_more {x} {next} l m e y z =
      let k = take types c in
      let g = drop-cons k i 0 (simp length-take (omega arith)) in
      let d = get_or-take types c i 0 l in
      let f : weighed i (drop i k) ≡ get_or c i 0 * weight_of i + weighed (suc i) (drop (suc i) k) = ap (weighed i) (g ∙ (λ j. d j ∷ drop (suc i) k)) in
      let p : x * each ≡ get_or c i 0 * weight_of i = λ j. e j * h.each_is j in
      let b = byte_weighs y each_small in
      let n = add-one i in
      record {
        upto = omega arith;
        each_is = weight_next i h.each_is z;
        total = rw n (omega (arith, h.total));
        small = omega (arith, h.small);
      }

  pub weighing_end : types ≤ i → (sum ≡ weighed 0 (take types c)) × (sum ≤ types * key_most)
  unfolding weighed
  weighing_end l =
      let z : length (take types c) ≤ i = simp length-take (omega arith) in
      let e : drop i (take types c) ≡ [] = drop_of_length-le (take types c) z in
      (omega (arith, h.total, ap (weighed i) e), omega (arith, h.small, h.upto))

-- keys that add up weigh together what each weighs
pub weighed_plus : (t : ℕ) (a b : List ℕ) → length a ≡ length b → weighed t (plus a b) ≡ weighed t a + weighed t b
unfolding weighed
weighed_plus t [] [] e = refl
weighed_plus t [] (y ∷ b) e = absurd (omega arith)
weighed_plus t (x ∷ a) [] e = absurd (omega arith)
weighed_plus t (x ∷ a) (y ∷ b) e = omega (arith, add-mul x y (weight_of t), weighed_plus (suc t) a b (omega arith))

-- where the number at place k is exchanged
pub weighed_set : (t : ℕ) (c : List ℕ) (i v : ℕ) → i < length c → (k : ℕ) → k ≡ t + i → weighed t (set c i v) + get_or c i 0 * weight_of k ≡ weighed t c + v * weight_of k
unfolding weighed
weighed_set t [] i v h k e = absurd (omega arith)
weighed_set t (x ∷ c) zero v h k e = let f : t ≡ k = omega arith in subst (λ u. v * weight_of u + weighed (suc t) c + x * weight_of k ≡ x * weight_of u + weighed (suc t) c + v * weight_of k) (sym f) (omega arith)
weighed_set t (x ∷ c) (suc i) v h k e = omega (arith, weighed_set (suc t) c i v (omega arith) k (omega arith))

-- one unit less
pub weighed_less : (c : List ℕ) (t : ℕ) → t < length c → 0 < get_or c t 0 → weighed 0 (set c t (get_or c t 0 - 1)) + weight_of t ≡ weighed 0 c
weighed_less c t l h =
    let v = get_or c t 0 - 1 in
    let e : get_or c t 0 ≡ v + 1 = omega arith in
    let f : get_or c t 0 * weight_of t ≡ v * weight_of t + weight_of t = ap (λ k. k * weight_of t) e ∙ add-mul v 1 (weight_of t) ∙ omega arith in
    omega (arith, weighed_set 0 c t v l t (omega arith))

-- a piece weighs less than the most
pub weighed_most : (t : ℕ) (l : List ℕ) → weighed t l ≤ sum l * weight_most
unfolding weighed
weighed_most t [] = omega arith
weighed_most t (x ∷ l) =
    let h = weight_small t in
    omega (arith, mul-le-mul {n₁ = x} {m₁ = weight_of t} {n₂ = x} {m₂ = weight_most} (omega arith) (omega arith), add-mul x (sum l) weight_most, weighed_most (suc t) l)

pub spread_below : {buckets : ℕ} (w : ℕ) → 0 < buckets → spread buckets w < buckets
unfolding spread
spread_below {buckets} w k = (div-lt_iff_lt-mul {k = weight_most} (lit< tt)).1 (subst (λ v. w % weight_most * buckets < v) (mul_comm weight_most buckets) (mul-lt-mul_of_pos_right (mod-lt w (lit< tt)) k))
