-- Counts, place by place: what a loop over them has found so far. Assumes nothing.
use mathlib.Core.Path.{◌≡◌, refl, sym, ap, ◌∙◌}
use mathlib.Core.Bool.{true, false, ◌&&◌, true≢false}
use mathlib.Core.List.{List, [], ◌∷◌}
use Prim.Native.Nat.{ℕ, zero, suc, ◌+◌, ◌≤◌, ◌<◌}
use native.Mathlib.Omega.{arith}
use native.Mathlib.Numerals.{add-one}
use native.Mathlib.Decide.{dec_le}
use lib.Dec.{eqb, leb}
use lib.ListN.{length, get_or, take, set}
use lib.Seq.{get_or-set_same, get_or-set_other}
use borrow.Author.Count.{below_more}
use borrow.Author.Tests.{eq-eqb, ne_eqb, le-leb, lt-leb}
use Rattle.rules.specs.Job.{plus}
use Rattle.rules.proofs.Bools.{and_false_left, and_false_right, both_and}
use Rattle.rules.proofs.Outlines.{same_list, at_most}

-- a store at i, where what holds below i holds at i by the value stored
pub grow : (r : List ℕ) (i v : ℕ) (f : ℕ → ℕ) → i < length r → ((k : ℕ) → k < i → get_or r k 0 ≡ f k) → v ≡ f i → (k : ℕ) → k < i + 1 → get_or (set r i v) k 0 ≡ f k
grow r i v f l p e =
    below_more (λ k. get_or (set r i v) k 0 ≡ f k) i (λ k h. get_or-set_other r i k v 0 (omega arith) ∙ p k h) (get_or-set_same r i v 0 l ∙ e)

-- the test whether counts are the same
pub same_here : (n : ℕ) (a b : List ℕ) (i : ℕ) → i < n → i < length a → i < length b → (get_or a i 0 ≡ get_or b i 0 → ⊥) → same_list (take n a) (take n b) ≡ false
same_here zero a b i h l m p = absurd (omega arith)
same_here (suc n) [] b i h l m p = absurd (omega arith)
same_here (suc n) (x ∷ a) [] i h l m p = refl
same_here (suc n) (x ∷ a) (y ∷ b) zero h l m p = and_false_left (same_list (take n a) (take n b)) (ne_eqb x y p)
same_here (suc n) (x ∷ a) (y ∷ b) (suc i) h l m p = and_false_right (eqb x y) (same_here n a b i (omega arith) (omega arith) (omega arith) p)

pub same_all : (n : ℕ) (a b : List ℕ) → n ≤ length a → n ≤ length b → ((i : ℕ) → i < n → get_or a i 0 ≡ get_or b i 0) → same_list (take n a) (take n b) ≡ true
same_all zero a b l m p = refl
same_all (suc n) [] b l m p = absurd (omega arith)
same_all (suc n) (x ∷ a) [] l m p = absurd (omega arith)
same_all (suc n) (x ∷ a) (y ∷ b) l m p = both_and (eq-eqb x y (p 0 (omega arith))) (same_all n a b (omega arith) (omega arith) (λ i h. p (suc i) (omega arith)))

-- one place more, where there is no more than the bound
pub at_most_next : (i : ℕ) (c ds : List ℕ) → i < length ds → get_or c i 0 ≤ get_or ds i 0 → at_most (take (i + 1) c) ds ≡ at_most (take i c) ds
at_most_next i c ds h p = ap (λ n. at_most (take n c) ds) (add-one i) ∙ go i c ds h p
  where
    go : (i : ℕ) (c ds : List ℕ) → i < length ds → get_or c i 0 ≤ get_or ds i 0 → at_most (take (suc i) c) ds ≡ at_most (take i c) ds
    go zero [] ds h p = refl
    go (suc i) [] ds h p = refl
    go i (x ∷ c) [] h p = absurd (omega arith)
    go zero (x ∷ c) (d ∷ ds) h p = both_and (le-leb x d p) refl
    go (suc i) (x ∷ c) (d ∷ ds) h p = ap (λ b. leb x d && b) (go i c ds (omega arith) p)

-- the places past the first n do not count, where there is no more than the bounds
pub at_most_past : (n : ℕ) (c ds : List ℕ) → length c ≤ length ds → ((i : ℕ) → n ≤ i → i < length c → get_or c i 0 ≤ get_or ds i 0) → at_most c ds ≡ at_most (take n c) (take n ds)
at_most_past zero [] ds l p = refl
at_most_past (suc n) [] ds l p = refl
at_most_past n (x ∷ c) [] l p = absurd (omega arith)
at_most_past zero (x ∷ c) (d ∷ ds) l p = both_and (le-leb x d (p 0 (omega arith) (omega arith))) (at_most_past zero c ds (omega arith) (λ i h k. p (suc i) (omega arith) (omega arith)))
at_most_past (suc n) (x ∷ c) (d ∷ ds) l p = ap (λ b. leb x d && b) (at_most_past n c ds (omega arith) (λ i h k. p (suc i) (omega arith) (omega arith)))

-- counts that are added up place by place
pub plus_all : (n : ℕ) (a b c : List ℕ) → n ≤ length a → n ≤ length b → n ≤ length c → ((i : ℕ) → i < n → get_or a i 0 + get_or b i 0 ≡ get_or c i 0) → plus (take n a) (take n b) ≡ take n c
plus_all zero a b c l m k p = refl
plus_all (suc n) [] b c l m k p = absurd (omega arith)
plus_all (suc n) (x ∷ a) [] c l m k p = absurd (omega arith)
plus_all (suc n) (x ∷ a) (y ∷ b) [] l m k p = absurd (omega arith)
plus_all (suc n) (x ∷ a) (y ∷ b) (z ∷ c) l m k p = λ j. p 0 (omega arith) j ∷ plus_all n a b c (omega arith) (omega arith) (omega arith) (λ i h. p (suc i) (omega arith)) j

-- the test whether counts keep to bounds
pub at_most_here : (n : ℕ) (c ds : List ℕ) (i : ℕ) → i < n → i < length c → get_or ds i 0 < get_or c i 0 → at_most (take n c) ds ≡ false
at_most_here zero c ds i h l p = absurd (omega arith)
at_most_here (suc n) [] ds i h l p = absurd (omega arith)
at_most_here (suc n) (c ∷ cs) [] i h l p = refl
at_most_here (suc n) (c ∷ cs) (d ∷ ds) zero h l p = and_false_left (at_most (take n cs) ds) (lt-leb c d p)
at_most_here (suc n) (c ∷ cs) (d ∷ ds) (suc i) h l p = and_false_right (leb c d) (at_most_here n cs ds i (omega arith) (omega arith) p)

pub at_most_all : (n : ℕ) (c ds : List ℕ) → n ≤ length ds → ((i : ℕ) → i < n → get_or c i 0 ≤ get_or ds i 0) → at_most (take n c) ds ≡ true
at_most_all zero c ds h p = refl
at_most_all (suc n) [] ds h p = refl
at_most_all (suc n) (c ∷ cs) [] h p = absurd (omega arith)
at_most_all (suc n) (c ∷ cs) (d ∷ ds) h p = both_and (le-leb c d (p 0 (omega arith))) (at_most_all n cs ds (omega arith) (λ i k. p (suc i) (omega arith)))

pub at_most_at : (n : ℕ) (c ds : List ℕ) (i : ℕ) → i < n → i < length c → at_most (take n c) ds ≡ true → get_or c i 0 ≤ get_or ds i 0
at_most_at n c ds i h l e = go (dec_le (get_or c i 0) (get_or ds i 0))
  where
    go : Dec (get_or c i 0 ≤ get_or ds i 0) → get_or c i 0 ≤ get_or ds i 0
    go (yes p) = p
    go (no p) = absurd (true≢false (sym e ∙ at_most_here n c ds i h l (omega arith)))
