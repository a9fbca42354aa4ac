-- The order of outlines: the best is unique, and exists where there is a build. No accepted list earns more. Assumes nothing.
use mathlib.Core.Path.{◌≡◌, refl, ap, ◌∙◌}
use mathlib.Core.Logic.{◌⊎◌, inl, inr}
use mathlib.Core.List.{List, [], ◌∷◌, Memᴰ}
use Prim.Native.Nat.{ℕ, ◌≤◌, ◌<◌}
use native.Mathlib.Omega.{arith}
use native.Mathlib.Decide.{dec_lt}
use lib.ListN.{length}
use Rattle.rules.specs.Bag.{All, nil, cons}
use Rattle.rules.specs.Made.{Enumerates}
use Rattle.rules.specs.Job.{Job, types, Outline, Build, profit, dot, NotAfter, tie_order, AtLeastAsGood, Best}
use Rattle.rules.specs.Placed.{Placed, worth, Accepted}
use Rattle.rules.proofs.Bags.{all_at, all_map}
use Rattle.rules.proofs.Tally.{worth_counts}
use Rattle.rules.proofs.Bridge.{build_of}

not_after_both : (a b : List ℕ) → NotAfter a b → NotAfter b a → a ≡ b
not_after_both [] [] h k = refl
not_after_both [] (y ∷ ys) h k = absurd k
not_after_both (x ∷ xs) [] h k = absurd h
not_after_both (x ∷ xs) (y ∷ ys) h k = rest (not_after_both xs ys) h k
  where
    rest : (NotAfter xs ys → NotAfter ys xs → xs ≡ ys) → (x < y) ⊎ ((x ≡ y) × NotAfter xs ys) → (y < x) ⊎ ((y ≡ x) × NotAfter ys xs) → ◌≡◌ {A = List ℕ} (x ∷ xs) (y ∷ ys)
    rest r (inl p) (inl q) = absurd (omega arith)
    rest r (inl p) (inr q) = absurd (omega (arith, q.0))
    rest r (inr p) (inl q) = absurd (omega (arith, p.0))
    rest r (inr p) (inr q) = λ i. p.0 i ∷ r p.1 q.1 i

outline_path : (o u : Outline) → tie_order o ≡ tie_order u → o ≡ u
outline_path o u e =
    let l : o.long ≡ u.long = cc in
    let w : o.wide ≡ u.wide = cc in
    let c : o.counts ≡ u.counts = cc in
    λ i. record { long = l i; wide = w i; counts = c i }

good_both : (j : Job) (o u : Outline) → AtLeastAsGood j o u → AtLeastAsGood j u o → o ≡ u
good_both j o u (inl p) (inl q) = absurd (omega arith)
good_both j o u (inl p) (inr q) = absurd (omega (arith, q.0))
good_both j o u (inr p) (inl q) = absurd (omega (arith, p.0))
good_both j o u (inr p) (inr q) = outline_path o u (not_after_both _ _ p.1 q.1)

-- the best outline is unique
pub best_unique : {j : Job} {o u : Outline} → Best j o → Best j u → o ≡ u
best_unique {j} {o} {u} b c = good_both j o u (b.top u c.build) (c.top o b.build)

-- any two outlines compare
not_after_total : (a b : List ℕ) → NotAfter a b ⊎ NotAfter b a
not_after_total [] b = inl tt
not_after_total (x ∷ xs) [] = inr tt
not_after_total (x ∷ xs) (y ∷ ys) = go (not_after_total xs ys) (dec_lt x y) (dec_lt y x)
  where
    go : NotAfter xs ys ⊎ NotAfter ys xs → Dec (x < y) → Dec (y < x) → NotAfter (x ∷ xs) (y ∷ ys) ⊎ NotAfter (y ∷ ys) (x ∷ xs)
    go r (yes p) q = inl (inl p)
    go r (no p) (yes q) = inr (inl q)
    go (inl r) (no p) (no q) = inl (inr (omega arith, r))
    go (inr r) (no p) (no q) = inr (inr (omega arith, r))

good_total : (j : Job) (o u : Outline) → AtLeastAsGood j o u ⊎ AtLeastAsGood j u o
good_total j o u = go (dec_lt (profit j u) (profit j o)) (dec_lt (profit j o) (profit j u)) (not_after_total (tie_order o) (tie_order u))
  where
    go : Dec (profit j u < profit j o) → Dec (profit j o < profit j u) → NotAfter (tie_order o) (tie_order u) ⊎ NotAfter (tie_order u) (tie_order o) → AtLeastAsGood j o u ⊎ AtLeastAsGood j u o
    go (yes p) q r = inl (inl p)
    go (no p) (yes q) r = inr (inl q)
    go (no p) (no q) (inl r) = inl (inr (omega arith, r))
    go (no p) (no q) (inr r) = inr (inr (omega arith, r))

not_after_trans : (a b c : List ℕ) → NotAfter a b → NotAfter b c → NotAfter a c
not_after_trans [] b c h k = tt
not_after_trans (x ∷ xs) [] c h k = absurd h
not_after_trans (x ∷ xs) (y ∷ ys) [] h k = k
not_after_trans (x ∷ xs) (y ∷ ys) (z ∷ zs) h k = go (not_after_trans xs ys zs) h k
  where
    go : (NotAfter xs ys → NotAfter ys zs → NotAfter xs zs) → (x < y) ⊎ ((x ≡ y) × NotAfter xs ys) → (y < z) ⊎ ((y ≡ z) × NotAfter ys zs) → (x < z) ⊎ ((x ≡ z) × NotAfter xs zs)
    go r (inl p) (inl q) = inl (omega arith)
    go r (inl p) (inr q) = inl (omega (arith, q.0))
    go r (inr p) (inl q) = inl (omega (arith, p.0))
    go r (inr p) (inr q) = inr (p.0 ∙ q.0, r p.1 q.1)

pub good_trans : (j : Job) (o u w : Outline) → AtLeastAsGood j o u → AtLeastAsGood j u w → AtLeastAsGood j o w
good_trans j o u w (inl p) (inl q) = inl (omega arith)
good_trans j o u w (inl p) (inr q) = inl (omega (arith, q.0))
good_trans j o u w (inr p) (inl q) = inl (omega (arith, p.0))
good_trans j o u w (inr p) (inr q) = inr (q.0 ∙ p.0, not_after_trans (tie_order o) (tie_order u) (tie_order w) p.1 q.1)

pub not_after_refl : (a : List ℕ) → NotAfter a a
not_after_refl [] = tt
not_after_refl (x ∷ xs) = inr (refl, not_after_refl xs)

pub good_refl : (j : Job) (o : Outline) → AtLeastAsGood j o o
good_refl j o = inr (refl, not_after_refl (tie_order o))

-- the best of a list that is not empty
top_of : (j : Job) (l : List Outline) → 0 < length l → (o : Outline) × Memᴰ o l × All (AtLeastAsGood j o) l
top_of j [] h = absurd (omega arith)
top_of j (o ∷ []) h = (o, Memᴰ.head refl, cons {x = o} (good_refl j o) nil)
top_of j (o ∷ u ∷ l) h = go (top_of j (u ∷ l) (omega arith))
  where
    pick : (b : Outline) → Memᴰ b (u ∷ l) → All (AtLeastAsGood j b) (u ∷ l) → AtLeastAsGood j o b ⊎ AtLeastAsGood j b o → (w : Outline) × Memᴰ w (o ∷ u ∷ l) × All (AtLeastAsGood j w) (o ∷ u ∷ l)
    pick b m a (inl g) = (o, Memᴰ.head refl, cons {x = o} (good_refl j o) (all_map (λ w k. good_trans j o b w g k) a))
    pick b m a (inr g) = (b, Memᴰ.tail m, cons {x = o} g a)

    go : (b : Outline) × Memᴰ b (u ∷ l) × All (AtLeastAsGood j b) (u ∷ l) → (w : Outline) × Memᴰ w (o ∷ u ∷ l) × All (AtLeastAsGood j w) (o ∷ u ∷ l)
    go r = pick r.0 r.1 r.2 (good_total j o r.0)

pub best_exists : (j : Job) {l : List Outline} → Enumerates (Build j) l → 0 < length l → (o : Outline) × Best j o
best_exists j {l} e h =
    let t = top_of j l h in
    (t.0, record { build = all_at e.only t.1; top = λ u b. all_at t.2 (e.each u b) })

pub good_profit : (j : Job) (o u : Outline) → AtLeastAsGood j o u → profit j u ≤ profit j o
good_profit j o u (inl p) = omega arith
good_profit j o u (inr p) = omega (arith, p.0)

-- "The best outline has the greatest profit; among those the least length, then the least width, then the counts that come first": read off the definition
pub best_profit : {j : Job} {o u : Outline} → Best j o → Build j u → profit j u ≤ profit j o
best_profit {j} {o} {u} b d = good_profit j o u (b.top u d)

same_profit : (j : Job) (o u : Outline) → AtLeastAsGood j o u → profit j u ≡ profit j o → NotAfter (tie_order o) (tie_order u)
same_profit j o u (inl p) e = absurd (omega arith)
same_profit j o u (inr p) e = p.1

after_head : (l m : List ℕ) {a b : ℕ} → (a < b) ⊎ ((a ≡ b) × NotAfter l m) → a ≤ b
after_head l m (inl p) = omega arith
after_head l m (inr p) = omega (arith, p.0)

after_tail : (l m : List ℕ) {a b : ℕ} → (a < b) ⊎ ((a ≡ b) × NotAfter l m) → a ≡ b → NotAfter l m
after_tail l m (inl p) e = absurd (omega arith)
after_tail l m (inr p) e = p.1

pub best_length : {j : Job} {o u : Outline} → Best j o → Build j u → profit j u ≡ profit j o → o.long ≤ u.long
best_length {j} {o} {u} b d e = after_head (o.wide ∷ o.counts) (u.wide ∷ u.counts) (same_profit j o u (b.top u d) e)

pub best_width : {j : Job} {o u : Outline} → Best j o → Build j u → profit j u ≡ profit j o → o.long ≡ u.long → o.wide ≤ u.wide
best_width {j} {o} {u} b d e f = after_head o.counts u.counts (after_tail (o.wide ∷ o.counts) (u.wide ∷ u.counts) (same_profit j o u (b.top u d) e) f)

pub best_counts : {j : Job} {o u : Outline} → Best j o → Build j u → profit j u ≡ profit j o → o.long ≡ u.long → o.wide ≡ u.wide → NotAfter o.counts u.counts
best_counts {j} {o} {u} b d e f g = after_tail o.counts u.counts (after_tail (o.wide ∷ o.counts) (u.wide ∷ u.counts) (same_profit j o u (b.top u d) e) f) g

-- no accepted list earns more than the best outline
pub none_earns_more : {j : Job} → length j.profits ≡ types j → {o : Outline} → Best j o → (ps : List Placed) → Accepted j ps → worth j ps ≤ profit j o
none_earns_more {j} e {o} b [] a = omega arith
none_earns_more {j} e {o} b (p ∷ ps) a =
    let x = build_of j (p ∷ ps) (omega arith) a in
    omega (arith, best_profit b x.build, ap (λ c. dot c j.profits) x.counts, worth_counts j e (p ∷ ps))
