-- A list of all made things, computed in rounds of joins until the sizes allow no more. Assumes nothing.
use mathlib.Core.Path.{◌≡◌, refl, sym, ap, ◌∙◌, subst}
use mathlib.Core.Bool.{Bool, true, false, not, ◌&&◌, ◌||◌, true≢false}
use mathlib.Core.Logic.{◌⊎◌, inl, inr}
use mathlib.Core.List.Memᴰ
use mathlib.Core.List.{List, [], ◌∷◌, ◌++◌, Memᴰ}
use Prim.Native.Nat.{ℕ, zero, suc, ◌+◌, ◌≤◌, ◌<◌, max}
use native.Mathlib.Nat.{le-max_left, le-max_right}
use native.Mathlib.Omega.{arith}
use native.Mathlib.Decide.{le_ind}
use Rattle.rules.specs.Bag.{All, nil, cons}
use Rattle.rules.specs.Made.{Making, Distinct, Enumerates, Made, above, beside, new, no_one, one}
use Rattle.rules.proofs.Bags.{all_append}
use Rattle.rules.proofs.Listing.{made_kept}

-- `same` tests for equality, `may` for what is kept
module _ {A : Type 0} (starts : List A) (h v : A → A → A) (same : A → A → Bool) (may : A → Bool) where
  abbrev pub held : A → List A → Bool
  held a [] = false
  held a (b ∷ l) = same a b || held a l

  abbrev pub add : A → List A → List A
  add a l = elim (may a && not (held a l)) [ true ↦ a ∷ l | false ↦ l ]

  abbrev pub add_all : List A → List A → List A
  add_all [] l = l
  add_all (c ∷ cs) l = add_all cs (add c l)

  abbrev pub join_with : A → List A → List A
  join_with a [] = []
  join_with a (b ∷ bs) = h a b ∷ v a b ∷ join_with a bs

  abbrev pub joins : List A → List A → List A
  joins [] bs = []
  joins (a ∷ l) bs = join_with a bs ++ joins l bs

  abbrev pub rounds : ℕ → List A
  rounds zero = add_all starts []
  rounds (suc n) = add_all (joins (rounds n) (rounds n)) (rounds n)

  abbrev pub making : (A → Type 0) → Making A
  making Keep = record { Start = λ a. Memᴰ a starts; Keep = Keep; side = h; stack = v }

  module _ (Keep : A → Type 0) (same_eq : (a b : A) → same a b ≡ true → a ≡ b) (eq_same : (a : A) → same a a ≡ true) (may-keep : (a : A) → may a ≡ true → Keep a) (keep-may : (a : A) → Keep a → may a ≡ true) where
    abbrev M : A → Type 0
    M = Made (making Keep)

    pub held_mem : (a : A) (l : List A) → held a l ≡ true → Memᴰ a l
    held_mem a [] e = absurd (true≢false (sym e))
    held_mem a (b ∷ l) e = go (same a b) refl (λ k. held_mem a l k) e
      where
        go : (t : Bool) → same a b ≡ t → (held a l ≡ true → Memᴰ a l) → (t || held a l) ≡ true → Memᴰ a (b ∷ l)
        go true s r k = Memᴰ.head (same_eq a b s)
        go false s r k = Memᴰ.tail (r k)

    mem_held : {a : A} {l : List A} → Memᴰ a l → held a l ≡ true
    mem_held {a} (Memᴰ.head {x = x} {xs = xs} e) = rw (← e, eq_same a)
    mem_held {a} (Memᴰ.tail {x = x} {xs = xs} m) = go (same a x) (mem_held m)
      where
        go : (t : Bool) → held a xs ≡ true → (t || held a xs) ≡ true
        go true e = refl
        go false e = e

    -- what one more candidate does
    pub record Grown (c : A) (l m : List A) : Type 0 where
      pub once : Distinct m
      pub only : All M m
      pub more : (a : A) → Memᴰ a l → Memᴰ a m
      pub it : Keep c → Memᴰ c m

    grown : (c : A) (l : List A) → (Keep c → M c) → Distinct l → All M l → Grown c l (add c l)
    grown c l f d o = go (may c) refl (held c l) refl
      where
        go : (s : Bool) → may c ≡ s → (t : Bool) → held c l ≡ t → Grown c l (elim (s && not t) as (λ (b : Bool). List A) [ true ↦ c ∷ l | false ↦ l ])
        go true k true e = record { once = d; only = o; more = λ a m. m; it = λ p. held_mem c l e }
        go true k false e = record { once = new (λ m. true≢false (sym (mem_held m) ∙ e)) d; only = cons (f (may-keep c k)) o; more = λ a m. Memᴰ.tail m; it = λ p. Memᴰ.head refl }
        go false k t e = record { once = d; only = o; more = λ a m. m; it = λ p. absurd (true≢false (sym (keep-may c p) ∙ k)) }

    pub record GrownAll (cs l m : List A) : Type 0 where
      pub once : Distinct m
      pub only : All M m
      pub more : (a : A) → Memᴰ a l → Memᴰ a m
      pub them : (c : A) → Memᴰ c cs → Keep c → Memᴰ c m

    grown_all : (cs l : List A) → All (λ c. Keep c → M c) cs → Distinct l → All M l → GrownAll cs l (add_all cs l)
    grown_all [] l f d o = record { once = d; only = o; more = λ a m. m; them = λ c m k. absurd (Memᴰ.not-nil m) }
    grown_all (c ∷ cs) l (cons p f) d o =
        let g = grown c l p d o in
        let r = grown_all cs (add c l) f g.once g.only in
        record { once = r.once; only = r.only; more = λ a m. r.more a (g.more a m); them = λ b m k. go g r b k (Memᴰ.cases_cons m) }
      where
        go : Grown c l (add c l) → GrownAll cs (add c l) (add_all cs (add c l)) → (b : A) → Keep b → (b ≡ c) ⊎ Memᴰ b cs → Memᴰ b (add_all cs (add c l))
        go g r b k (inl e) = r.more b (Memᴰ.cast e (g.it (subst Keep e k)))
        go g r b k (inr m) = r.them b m k

    with_made : {a : A} → M a → (bs : List A) → All M bs → All (λ c. Keep c → M c) (join_with a bs)
    with_made p [] q = nil
    with_made p (b ∷ bs) (cons q r) = cons (λ k. beside p q k) (cons (λ k. above p q k) (with_made p bs r))

    joins_made : {l bs : List A} → All M l → All M bs → All (λ c. Keep c → M c) (joins l bs)
    joins_made nil q = nil
    joins_made {bs = bs} (cons p r) q = all_append (with_made p bs q) (joins_made r q)

    side_in_with : (a : A) {b : A} {bs : List A} → Memᴰ b bs → Memᴰ (h a b) (join_with a bs) × Memᴰ (v a b) (join_with a bs)
    side_in_with a (Memᴰ.head e) = (Memᴰ.head (ap (h a) e), Memᴰ.tail (Memᴰ.head (ap (v a) e)))
    side_in_with a (Memᴰ.tail m) =
        let r = side_in_with a m in (Memᴰ.tail (Memᴰ.tail r.0), Memᴰ.tail (Memᴰ.tail r.1))

    in_joins : {a b : A} {l bs : List A} → Memᴰ a l → Memᴰ b bs → Memᴰ (h a b) (joins l bs) × Memᴰ (v a b) (joins l bs)
    in_joins {a} {b} {bs = bs} (Memᴰ.head {x = x} {xs = xs} e) n =
        let r = side_in_with x n in
        (Memᴰ.append_left (joins xs bs) (Memᴰ.cast (ap (λ c. h c b) e) r.0), Memᴰ.append_left (joins xs bs) (Memᴰ.cast (ap (λ c. v c b) e) r.1))
    in_joins {bs = bs} (Memᴰ.tail {x = x} {xs = xs} m) n =
        let r = in_joins m n in (Memᴰ.append_right (join_with x bs) r.0, Memᴰ.append_right (join_with x bs) r.1)

    start_made : (l : List A) → ((a : A) → Memᴰ a l → Memᴰ a starts) → All (λ c. Keep c → M c) l
    start_made [] f = nil
    start_made (a ∷ l) f = cons (λ k. one (f a (Memᴰ.head refl)) k) (start_made l (λ b m. f b (Memᴰ.tail m)))

    pub first_round : GrownAll starts [] (rounds 0)
    first_round = grown_all starts [] (start_made starts (λ a m. m)) no_one nil

    pub record Round (n : ℕ) : Type 0 where
      pub once : Distinct (rounds n)
      pub only : All M (rounds n)

    next_round : (n : ℕ) → Round n → GrownAll (joins (rounds n) (rounds n)) (rounds n) (rounds (suc n))
    next_round n r = grown_all (joins (rounds n) (rounds n)) (rounds n) (joins_made r.only r.only) r.once r.only

    pub round_ok : (n : ℕ) → Round n
    round_ok zero = record { once = first_round.once; only = first_round.only }
    round_ok (suc n) = let g = next_round n (round_ok n) in record { once = g.once; only = g.only }

    pub height : {a : A} → M a → ℕ
    height (one s k) = 0
    height (beside p q k) = suc (max (height p) (height q))
    height (above p q k) = suc (max (height p) (height q))

    pub more_rounds : (n m : ℕ) {a : A} → n ≤ m → Memᴰ a (rounds n) → Memᴰ a (rounds m)
    more_rounds n m {a} le k = le_ind (λ i. Memᴰ a (rounds i)) k (λ i p r. (next_round i (round_ok i)).more a r) m le

    pub reached : {a : A} (d : M a) → Memᴰ a (rounds (height d))
    unfolding height
    reached (one {a = a} s k) = first_round.them a s k
    reached (beside {a = a} {b = b} p q k) =
        let n = max (height p) (height q) in
        (next_round n (round_ok n)).them (h a b) (in_joins (more_rounds (height p) n (le-max_left _ _) (reached p)) (more_rounds (height q) n (le-max_right _ _) (reached q))).0 k
    reached (above {a = a} {b = b} p q k) =
        let n = max (height p) (height q) in
        (next_round n (round_ok n)).them (v a b) (in_joins (more_rounds (height p) n (le-max_left _ _) (reached p)) (more_rounds (height q) n (le-max_right _ _) (reached q))).1 k

    -- where a size adds up in joins and is bounded, so many rounds reach everything
    module _ (size : A → ℕ) (size-h : (a b : A) → M a → M b → size (h a b) ≡ size a + size b) (size-v : (a b : A) → M a → M b → size (v a b) ≡ size a + size b) (size-one : (a : A) → Memᴰ a starts → 0 < size a) where
      pub height_lt : {a : A} (d : M a) → height d < size a
      unfolding height
      height_lt (one {a = a} s k) = size-one a s
      height_lt (beside {a = a} {b = b} p q k) = omega (arith, height_lt p, height_lt q, size-h a b p q)
      height_lt (above {a = a} {b = b} p q k) = omega (arith, height_lt p, height_lt q, size-v a b p q)

      pub rounds_enumerate : (n : ℕ) → ((a : A) → Keep a → size a ≤ n) → Enumerates M (rounds n)
      rounds_enumerate n f = record { once = (round_ok n).once; only = (round_ok n).only; each = λ a d. more_rounds (height d) n (bound d) (reached d) }
        where
          bound : {a : A} (d : M a) → height d ≤ n
          bound {a} d = omega (arith, height_lt d, f a (made_kept d))
