-- Numbers by type: tables, their sums, and that counts and profits add up over the pieces. Assumes nothing.
use mathlib.Core.Path.{◌≡◌, refl, sym, ap, ap₂, ◌∙◌, subst}
use mathlib.Core.Bool.{Bool, true, false}
use mathlib.Core.List.{List, [], ◌∷◌, ◌++◌}
use Prim.Native.Nat.{ℕ, zero, suc, ◌+◌, ◌≤◌, ◌<◌}
use native.Mathlib.Nat.{le_trans}
use native.Mathlib.Omega.{arith}
use native.Mathlib.Numerals.{add-one}
use lib.ListN.{length, get_or, take}
use lib.Dec.{eqb, eqb-suc-zero, eqb-suc-suc}
use borrow.Author.Tests.{ne_eqb}
use Rattle.rules.specs.Bag.{tick, sum, keep, count, other, All, nil, cons, Same}
use Rattle.rules.specs.Job.{Job, types, table, plus, AtMost, dot}
use Rattle.rules.specs.Placed.{Placed, counts_of, of_type, worth}
use Rattle.rules.proofs.Bags.{count_split, count-append}

pub plus_table : (n : ℕ) (f g : ℕ → ℕ) → plus (table n f) (table n g) ≡ table n (λ k. f k + g k)
plus_table zero f g = refl
plus_table (suc n) f g = ap {B = List ℕ} (λ l. (f 1 + g 1) ∷ l) (plus_table n (λ k. f (suc k)) (λ k. g (suc k)))

-- types are numbered from 1, so two tables agree where what they are made of agrees from there on
pub table_same : (n : ℕ) {f g : ℕ → ℕ} → ((t : ℕ) → 0 < t → f t ≡ g t) → table n f ≡ table n g
table_same zero e = refl
table_same (suc n) e = λ i. e 1 (omega arith) i ∷ table_same n (λ t h. e (suc t) (omega arith)) i

pub counts_split : (j : Job) (g : Placed → Bool) (ps : List Placed) → plus (counts_of j (keep g ps)) (counts_of j (keep (other g) ps)) ≡ counts_of j ps
counts_split j g ps = plus_table (types j) _ _ ∙ table_same (types j) (λ t h. count_split (λ p. eqb p.type t) g ps)

pub counts_append : (j : Job) (ps qs : List Placed) → counts_of j (ps ++ qs) ≡ plus (counts_of j ps) (counts_of j qs)
counts_append j ps qs = table_same (types j) (λ t h. count-append (λ p. eqb p.type t) ps qs) ∙ sym (plus_table (types j) _ _)

-- tables are at most a list where each entry is
pub at_most_mono : (n : ℕ) (f g : ℕ → ℕ) (ds : List ℕ) → ((k : ℕ) → f k ≤ g k) → AtMost (table n g) ds → AtMost (table n f) ds
at_most_mono zero f g ds e h = tt
at_most_mono (suc n) f g [] e h = h
at_most_mono (suc n) f g (d ∷ ds) e h = (le_trans (e 1) h.0, at_most_mono n (λ k. f (suc k)) (λ k. g (suc k)) ds (λ k. e (suc k)) h.1)

pub dot_plus : (a b : List ℕ) (ps : List ℕ) → length a ≡ length b → dot (plus a b) ps ≡ dot a ps + dot b ps
dot_plus [] [] ps e = refl
dot_plus [] (b ∷ bs) ps e = absurd (omega arith)
dot_plus (a ∷ l) [] ps e = absurd (omega arith)
dot_plus (a ∷ l) (b ∷ bs) [] e = refl
dot_plus (a ∷ l) (b ∷ bs) (p ∷ ps) e = omega (arith, dot_plus l bs ps (omega arith))

pub length_table : (n : ℕ) (f : ℕ → ℕ) → length (table n f) ≡ n
length_table zero f = refl
length_table (suc n) f = ap suc (length_table n (λ k. f (suc k)))

pub length_plus : (a b : List ℕ) → length a ≡ length b → length (plus a b) ≡ length a
length_plus [] b e = refl
length_plus (a ∷ l) [] e = absurd (omega arith)
length_plus (a ∷ l) (b ∷ bs) e = ap suc (length_plus l bs (omega arith))

dot_zero : (n : ℕ) (ps : List ℕ) → dot (table n (λ k. 0)) ps ≡ 0
dot_zero zero ps = refl
dot_zero (suc n) [] = refl
dot_zero (suc n) (p ∷ ps) = omega (arith, dot_zero n ps)

-- no other type is counted
other_type : (i : ℕ) {t : ℕ} → i < t → tick (eqb i t) 0 ≡ 0
other_type i {t} h = ap (λ b. tick b 0) (ne_eqb i t (λ e. omega arith))

next_type : (i t : ℕ) → tick (eqb (suc i) (suc t)) 0 ≡ tick (eqb i t) 0
next_type i t = ap (λ b. tick b 0) (eqb-suc-suc i t)

zeros : (n : ℕ) {f : ℕ → ℕ} → ((t : ℕ) → 0 < t → f t ≡ 0) → (ps : List ℕ) → dot (table n f) ps ≡ 0
zeros n e ps = ap (λ l. dot l ps) (table_same n {g = λ t. 0} e) ∙ dot_zero n ps

-- one piece earns the profit of its type
pub dot_unit : (ps : List ℕ) (i : ℕ) → dot (table (length ps) (λ t. tick (eqb i t) 0)) ps ≡ of_type 0 ps i
dot_unit [] zero = refl
dot_unit [] (suc i) = refl
dot_unit (p ∷ ps) zero = omega (arith, other_type 0 {t = 1} (omega arith), zeros (length ps) (λ t h. other_type 0 {t = suc t} (omega arith)) ps)
dot_unit (p ∷ ps) (suc zero) = omega (arith, zeros (length ps) (λ t h. other_type 1 {t = suc t} (omega arith)) ps)
dot_unit (p ∷ ps) (suc (suc i)) =
    let e = ap (λ l. dot l ps) (table_same (length ps) (λ t h. next_type (suc i) t)) in
    let z : tick (eqb (suc (suc i)) 1) 0 ≡ 0 = next_type (suc i) 0 ∙ ap (λ b. tick b 0) (eqb-suc-zero i) in
    rw z (omega (arith, e, dot_unit ps (suc i)))

tick_plus : (b : Bool) (n : ℕ) → tick b n ≡ tick b 0 + n
tick_plus true n = omega arith
tick_plus false n = omega arith

-- what a list earns is what its counts earn
pub worth_counts : (j : Job) → length j.profits ≡ types j → (ps : List Placed) → dot (counts_of j ps) j.profits ≡ worth j ps
worth_counts j e [] = dot_zero (types j) j.profits
worth_counts j e (p ∷ ps) =
    let unit : List ℕ = table (types j) (λ t. tick (eqb p.type t) 0) in
    let split : counts_of j (p ∷ ps) ≡ plus unit (counts_of j ps) = table_same (types j) (λ t h. tick_plus (eqb p.type t) (count (λ q. eqb q.type t) ps)) ∙ sym (plus_table (types j) _ _) in
    let u : dot unit j.profits ≡ of_type 0 j.profits p.type = subst (λ n. dot (table n (λ t. tick (eqb p.type t) 0)) j.profits ≡ of_type 0 j.profits p.type) e (dot_unit j.profits p.type) in
    ap (λ c. dot c j.profits) split ∙ dot_plus unit (counts_of j ps) j.profits (length_table (types j) _ ∙ sym (length_table (types j) _)) ∙ ap₂ ◌+◌ u (worth_counts j e ps)

-- counts do not depend on the order
pub counts_same : (j : Job) (ps qs : List Placed) → Same ps qs → counts_of j ps ≡ counts_of j qs
counts_same j ps qs s = table_same (types j) (λ t h. s (λ p. eqb p.type t))

-- sums of counts
pub sum_plus : (a b : List ℕ) → length a ≡ length b → sum (plus a b) ≡ sum a + sum b
sum_plus [] [] e = refl
sum_plus [] (b ∷ bs) e = absurd (omega arith)
sum_plus (a ∷ l) [] e = absurd (omega arith)
sum_plus (a ∷ l) (b ∷ bs) e = omega (arith, sum_plus l bs (omega arith))

sum_zeros : (n : ℕ) {f : ℕ → ℕ} → ((t : ℕ) → 0 < t → f t ≡ 0) → sum (table n f) ≡ 0
sum_zeros zero e = refl
sum_zeros (suc n) e = omega (arith, e 1 (omega arith), sum_zeros n (λ t h. e (suc t) (omega arith)))

pub sum_unit : (n i : ℕ) → 0 < i → i ≤ n → sum (table n (λ t. tick (eqb i t) 0)) ≡ 1
sum_unit zero i p h = absurd (omega arith)
sum_unit (suc n) zero p h = absurd (omega arith)
sum_unit (suc n) (suc zero) p h = omega (arith, sum_zeros n (λ t k. other_type 1 {t = suc t} (omega arith)))
sum_unit (suc n) (suc (suc i)) p h =
    let e = ap sum (table_same n (λ t k. next_type (suc i) t)) in
    omega (arith, e, sum_unit n (suc i) (omega arith) (omega arith), next_type (suc i) 0, ap (λ b. tick b 0) (eqb-suc-zero i))

pub sum-at_most : (c d : List ℕ) → AtMost c d → sum c ≤ sum d
sum-at_most [] d h = omega arith
sum-at_most (c ∷ cs) [] h = absurd h
sum-at_most (c ∷ cs) (d ∷ ds) h = omega (arith, h.0, sum-at_most cs ds h.1)

-- counts are added up one after the other
sum_suc : (i : ℕ) (c : List ℕ) → sum (take (suc i) c) ≡ sum (take i c) + get_or c i 0
sum_suc zero [] = refl
sum_suc (suc i) [] = refl
sum_suc zero (c ∷ cs) = omega arith
sum_suc (suc i) (c ∷ cs) = omega (arith, sum_suc i cs)

pub sum_next : (i : ℕ) (c : List ℕ) → sum (take (i + 1) c) ≡ sum (take i c) + get_or c i 0
sum_next i c = ap (λ n. sum (take n c)) (add-one i) ∙ sum_suc i c

-- a type of the job
pub record Typed (j : Job) (t : ℕ) : Type 0 where
  pub low : 0 < t
  pub high : t ≤ types j

-- the counts of pieces of the job's types add up to the number of pieces
pub pieces_counts : {j : Job} {ps : List Placed} → All (λ p. Typed j p.type) ps → sum (counts_of j ps) ≡ length ps
pieces_counts {j} nil = sum_zeros (types j) (λ t h. refl)
pieces_counts {j} (cons {x = p} {xs = ps} h a) =
    let e = ap sum (counts_append j (p ∷ []) ps) in
    let l = length_table (types j) (λ t. count (λ q. eqb q.type t) (p ∷ [])) ∙ sym (length_table (types j) (λ t. count (λ q. eqb q.type t) ps)) in
    omega (arith, e, sum_plus (counts_of j (p ∷ [])) (counts_of j ps) l, sum_unit (types j) p.type h.low h.high, pieces_counts a)
