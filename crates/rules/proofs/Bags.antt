-- Laws of bags: tests, parts and orders of a list. Assumes nothing.
use mathlib.Core.Path.{◌≡◌, refl, sym, ap, ◌∙◌, subst}
use mathlib.Core.Bool.{Bool, true, false, not, ◌&&◌}
use mathlib.Core.Logic.{◌⊎◌, inl, inr}
use mathlib.Core.List.Memᴰ
use mathlib.Core.List.{List, [], ◌∷◌, ◌++◌, map, Memᴰ}
use Prim.Native.Nat.{ℕ, zero, suc, ◌+◌, ◌≤◌, ◌<◌}
use native.Mathlib.Nat.{zero-add}
use native.Mathlib.Omega.{arith}
use lib.ListN.{length, get_or, set, take, drop}
use native.Mathlib.Decide.{dec_le}
use Rattle.rules.specs.Bag.{All, Same, Within, always, cons, count, keep, nil, other, prepend, tick}

-- a place of an element of a list
pub index : {A : Type 0} (d : A) {a : A} {l : List A} → Memᴰ a l → (i : ℕ) × (i < length l) × (get_or l i d ≡ a)
index d (Memᴰ.head e) = (0, omega arith, sym e)
index d (Memᴰ.tail m) = let r = index d m in (suc r.0, omega (arith, r.1), r.2)

module _ {A : Type 0} where
  pub count_always : (l : List A) → count always l ≡ length l
  count_always [] = refl
  count_always (x ∷ xs) = ap suc (count_always xs)

  pub count_le : (f : A → Bool) (l : List A) → count f l ≤ length l
  count_le f [] = omega arith
  count_le f (x ∷ xs) = step (f x) (count_le f xs)
    where
      step : (b : Bool) → count f xs ≤ length xs → tick b (count f xs) ≤ suc (length xs)
      step true h = omega arith
      step false h = omega arith

  pub length_keep : (f : A → Bool) (l : List A) → length (keep f l) ≡ count f l
  length_keep f [] = refl
  length_keep f (x ∷ xs) = step (f x) (length_keep f xs)
    where
      step : (b : Bool) → length (keep f xs) ≡ count f xs → length (prepend b x (keep f xs)) ≡ tick b (count f xs)
      step true h = ap suc h
      step false h = h

  pub count_keep : (f g : A → Bool) (l : List A) → count f (keep g l) ≡ count (λ a. g a && f a) l
  count_keep f g [] = refl
  count_keep f g (x ∷ xs) = step (g x) (count_keep f g xs)
    where
      step : (b : Bool) → count f (keep g xs) ≡ count (λ a. g a && f a) xs → count f (prepend b x (keep g xs)) ≡ tick (b && f x) (count (λ a. g a && f a) xs)
      step true h = ap (tick (f x)) h
      step false h = h

  -- a test divides a bag
  pub count_split : (f g : A → Bool) (l : List A) → count f (keep g l) + count f (keep (other g) l) ≡ count f l
  count_split f g [] = refl
  count_split f g (x ∷ xs) = step (g x) (count_split f g xs)
    where
      both : (b : Bool) → count f (keep g xs) + count f (keep (other g) xs) ≡ count f xs → tick b (count f (keep g xs)) + count f (keep (other g) xs) ≡ tick b (count f xs)
      both true h = omega arith
      both false h = h

      second : (b : Bool) → count f (keep g xs) + count f (keep (other g) xs) ≡ count f xs → count f (keep g xs) + tick b (count f (keep (other g) xs)) ≡ tick b (count f xs)
      second true h = omega arith
      second false h = h

      step : (b : Bool) → count f (keep g xs) + count f (keep (other g) xs) ≡ count f xs → count f (prepend b x (keep g xs)) + count f (prepend (not b) x (keep (other g) xs)) ≡ tick (f x) (count f xs)
      step true h = both (f x) h
      step false h = second (f x) h

  pub count-append : (f : A → Bool) (s t : List A) → count f (s ++ t) ≡ count f s + count f t
  count-append f [] t = sym (zero-add (count f t))
  count-append f (x ∷ xs) t = step (f x) (count-append f xs t)
    where
      step : (b : Bool) → count f (xs ++ t) ≡ count f xs + count f t → tick b (count f (xs ++ t)) ≡ tick b (count f xs) + count f t
      step true h = omega arith
      step false h = h

  pub keep_append : (f : A → Bool) (s t : List A) → keep f (s ++ t) ≡ keep f s ++ keep f t
  keep_append f [] t = refl
  keep_append f (x ∷ xs) t = step (f x) (keep_append f xs t)
    where
      step : (b : Bool) → keep f (xs ++ t) ≡ keep f xs ++ keep f t → prepend b x (keep f (xs ++ t)) ≡ prepend b x (keep f xs) ++ keep f t
      step true h = ap {B = List A} (λ l. x ∷ l) h
      step false h = h

  pub all_at : {P : A → Type 0} {a : A} {l : List A} → All P l → Memᴰ a l → P a
  all_at nil m = absurd (Memᴰ.not-nil m)
  all_at {P} {a} (cons {x = x} {xs = xs} p h) m = go (λ k. all_at h k) (Memᴰ.cases_cons m)
    where
      go : (Memᴰ a xs → P a) → (a ≡ x) ⊎ Memᴰ a xs → P a
      go f (inl e) = subst P (sym e) p
      go f (inr k) = f k

  pub all_of : {P : A → Type 0} (l : List A) → ((a : A) → Memᴰ a l → P a) → All P l
  all_of [] h = nil
  all_of (x ∷ xs) h = cons (h x (Memᴰ.head refl)) (all_of xs (λ a m. h a (Memᴰ.tail m)))

  pub all_head : {P : A → Type 0} {x : A} {xs : List A} → All P (x ∷ xs) → P x
  all_head (cons p h) = p

  pub all_tail : {P : A → Type 0} {x : A} {xs : List A} → All P (x ∷ xs) → All P xs
  all_tail (cons p h) = h

  pub all_append : {P : A → Type 0} {s t : List A} → All P s → All P t → All P (s ++ t)
  all_append nil ht = ht
  all_append (cons p hs) ht = cons p (all_append hs ht)

  pub all_map : {P Q : A → Type 0} {l : List A} → ((a : A) → P a → Q a) → All P l → All Q l
  all_map f nil = nil
  all_map f (cons {x = x} p h) = cons (f x p) (all_map f h)

  pub all_zip : {P Q : A → Type 0} {l : List A} → All P l → All Q l → All (λ a. P a × Q a) l
  all_zip nil k = nil
  all_zip (cons p h) k = cons (p, all_head k) (all_zip h (all_tail k))

  pub all_keep : {P : A → Type 0} (f : A → Bool) {l : List A} → All P l → All (λ a. P a × (f a ≡ true)) (keep f l)
  all_keep f nil = nil
  all_keep {P} f (cons {x = x} {xs = xs} p h) = step (f x) refl (all_keep f h)
    where
      step : (b : Bool) → f x ≡ b → All (λ a. P a × (f a ≡ true)) (keep f xs) → All (λ a. P a × (f a ≡ true)) (prepend b x (keep f xs))
      step true e k = cons (p, e) k
      step false e k = k

  -- all pass exactly when none fails
  pub none_fails : (f : A → Bool) {l : List A} → All (λ a. f a ≡ true) l → count (other f) l ≡ 0
  none_fails f nil = refl
  none_fails f (cons p h) = rw p (none_fails f h)

  pub all_pass : (f : A → Bool) (l : List A) → count (other f) l ≡ 0 → All (λ a. f a ≡ true) l
  all_pass f [] h = nil
  all_pass f (x ∷ xs) h = step (f x) refl (λ k. all_pass f xs k) h
    where
      step : (b : Bool) → f x ≡ b → (count (other f) xs ≡ 0 → All (λ a. f a ≡ true) xs) → tick (not b) (count (other f) xs) ≡ 0 → All (λ a. f a ≡ true) (x ∷ xs)
      step true e r k = cons e (r k)
      step false e r k = absurd (omega arith)

  pub keep_all : (f : A → Bool) {l : List A} → All (λ a. f a ≡ true) l → keep f l ≡ l
  keep_all f nil = refl
  keep_all f (cons p h) = rw (p, keep_all f h)

  pub keep_none : (f : A → Bool) {l : List A} → All (λ a. f a ≡ false) l → keep f l ≡ []
  keep_none f nil = refl
  keep_none f (cons p h) = rw p (keep_none f h)

  pub within_refl : (l : List A) → Within l l
  within_refl l f = omega arith

  pub same_within : (qs ps : List A) → Same qs ps → Within qs ps
  same_within qs ps s f = omega (arith, s f)

  pub within_keep : (g : A → Bool) (qs ps : List A) → Within qs ps → Within (keep g qs) (keep g ps)
  within_keep g qs ps s f = simp count_keep (s (λ a. g a && f a))

  pub keep_within : (g : A → Bool) (l : List A) → Within (keep g l) l
  keep_within g l f = omega (arith, count_split f g l)

  -- a part that has nothing on one side of a test lies within the other side
  pub within_other : (g : A → Bool) (qs ps : List A) → count g qs ≡ 0 → Within qs ps → Within qs (keep (other g) ps)
  within_other g qs ps e s f =
      let k : count f (keep g qs) ≤ 0 = subst (λ n. count f (keep g qs) ≤ n) (length_keep g qs ∙ e) (count_le f (keep g qs)) in
      omega (arith, count_split f g qs, within_keep (other g) qs ps s f)

  pub within_side : (g : A → Bool) (qs ps : List A) → count (other g) qs ≡ 0 → Within qs ps → Within qs (keep g ps)
  within_side g qs ps e s f =
      let k : count f (keep (other g) qs) ≤ 0 = subst (λ n. count f (keep (other g) qs) ≤ n) (length_keep (other g) qs ∙ e) (count_le f (keep (other g) qs)) in
      omega (arith, count_split f g qs, within_keep g qs ps s f)

  pub within_all : (f : A → Bool) {qs ps : List A} → Within qs ps → All (λ a. f a ≡ true) ps → All (λ a. f a ≡ true) qs
  within_all f {qs} {ps} s h = all_pass f qs (omega (arith, s (other f), none_fails f h))

  pub within_length : (qs ps : List A) → Within qs ps → length qs ≤ length ps
  within_length qs ps s = omega (arith, s always, count_always qs, count_always ps)

  pub keep_same : {f g : A → Bool} {l : List A} → All (λ a. f a ≡ g a) l → keep f l ≡ keep g l
  keep_same nil = refl
  keep_same (cons p h) = rw (p, keep_same h)

  pub count_same : {f g : A → Bool} {l : List A} → All (λ a. f a ≡ g a) l → count f l ≡ count g l
  count_same nil = refl
  count_same (cons p h) = rw (p, count_same h)

  pub all_every : {P : A → Type 0} → ((a : A) → P a) → (l : List A) → All P l
  all_every f [] = nil
  all_every f (x ∷ xs) = cons (f x) (all_every f xs)

  pub mem_keep : (f : A → Bool) {a : A} (l : List A) → Memᴰ a (keep f l) → Memᴰ a l
  mem_keep f [] m = m
  mem_keep f {a} (x ∷ xs) m = step (f x) (λ k. mem_keep f xs k) m
    where
      low : (Memᴰ a (keep f xs) → Memᴰ a xs) → (a ≡ x) ⊎ Memᴰ a (keep f xs) → Memᴰ a (x ∷ xs)
      low r (inl e) = Memᴰ.head e
      low r (inr k) = Memᴰ.tail (r k)

      step : (b : Bool) → (Memᴰ a (keep f xs) → Memᴰ a xs) → Memᴰ a (prepend b x (keep f xs)) → Memᴰ a (x ∷ xs)
      step true r k = low r (Memᴰ.cases_cons k)
      step false r k = Memᴰ.tail (r k)

  pub keep_mem : (f : A → Bool) {a : A} {l : List A} → f a ≡ true → Memᴰ a l → Memᴰ a (keep f l)
  keep_mem f e (Memᴰ.head {x = x} {xs = xs} p) = rw (sym (ap f p) ∙ e) (Memᴰ.head p)
  keep_mem f {a} e (Memᴰ.tail {x = x} {xs = xs} m) = step (f x) (keep_mem f e m)
    where
      step : (b : Bool) → Memᴰ a (keep f xs) → Memᴰ a (prepend b x (keep f xs))
      step true k = Memᴰ.tail k
      step false k = k

  -- a list that is not empty has an element at which a number is greatest
  pub greatest : (g : A → ℕ) (l : List A) → 0 < length l → (a : A) × Memᴰ a l × All (λ b. g b ≤ g a) l
  greatest g [] h = absurd (omega arith)
  greatest g (x ∷ []) h = (x, Memᴰ.head refl, cons {x = x} (omega arith) nil)
  greatest g (x ∷ y ∷ ys) h = pick (greatest g (y ∷ ys) (omega arith))
    where
      better : (a : A) → Memᴰ a (y ∷ ys) → All (λ b. g b ≤ g a) (y ∷ ys) → Dec (g a ≤ g x) → (a : A) × Memᴰ a (x ∷ y ∷ ys) × All (λ b. g b ≤ g a) (x ∷ y ∷ ys)
      better a m k (yes le) = (x, Memᴰ.head refl, cons {x = x} (omega arith) (all_map (λ b p. omega arith) k))
      better a m k (no n) = (a, Memᴰ.tail m, cons {x = x} (omega arith) k)

      pick : (a : A) × Memᴰ a (y ∷ ys) × All (λ b. g b ≤ g a) (y ∷ ys) → (a : A) × Memᴰ a (x ∷ y ∷ ys) × All (λ b. g b ≤ g a) (x ∷ y ∷ ys)
      pick r = better r.0 r.1 r.2 (dec_le (g r.0) (g x))

  pub length_split : (g : A → Bool) (l : List A) → length (keep g l) + length (keep (other g) l) ≡ length l
  length_split g l = omega (arith, count_split always g l, count_always l, count_always (keep g l), count_always (keep (other g) l))

-- lists of images
module _ {A B : Type 0} (g : A → B) where
  pub count_map : (f : B → Bool) (l : List A) → count f (map g l) ≡ count (λ a. f (g a)) l
  count_map f [] = refl
  count_map f (x ∷ xs) = ap (tick (f (g x))) (count_map f xs)

  pub keep_map : (f : B → Bool) (l : List A) → keep f (map g l) ≡ map g (keep (λ a. f (g a)) l)
  keep_map f [] = refl
  keep_map f (x ∷ xs) = step (f (g x)) (keep_map f xs)
    where
      step : (b : Bool) → keep f (map g xs) ≡ map g (keep (λ a. f (g a)) xs) → prepend b (g x) (keep f (map g xs)) ≡ map g (prepend b x (keep (λ a. f (g a)) xs))
      step true h = ap {B = List B} (λ l. g x ∷ l) h
      step false h = h

  pub same_map : (qs ps : List A) → Same qs ps → Same (map g qs) (map g ps)
  same_map qs ps s f = count_map f qs ∙ s (λ a. f (g a)) ∙ sym (count_map f ps)

  pub map-append : (s t : List A) → map g (s ++ t) ≡ map g s ++ map g t
  map-append [] t = refl
  map-append (x ∷ xs) t = ap {B = List B} (λ l. g x ∷ l) (map-append xs t)

  pub all_image : {P : B → Type 0} {l : List A} → All (λ a. P (g a)) l → All P (map g l)
  all_image nil = nil
  all_image (cons {x = a} p h) = cons {x = g a} p (all_image h)

  pub image_all : {P : B → Type 0} (l : List A) → All P (map g l) → All (λ a. P (g a)) l
  image_all [] h = nil
  image_all (a ∷ l) (cons p h) = cons {x = a} p (image_all l h)

  pub mem_map : {a : A} {l : List A} → Memᴰ a l → Memᴰ (g a) (map g l)
  mem_map (Memᴰ.head e) = Memᴰ.head (ap g e)
  mem_map (Memᴰ.tail m) = Memᴰ.tail (mem_map m)

  pub from_map : {b : B} (l : List A) → Memᴰ b (map g l) → (a : A) × Memᴰ a l × (b ≡ g a)
  from_map [] m = absurd (Memᴰ.not-nil m)
  from_map {b} (x ∷ xs) m = go (λ k. from_map xs k) (Memᴰ.cases_cons m)
    where
      go : (Memᴰ b (map g xs) → (a : A) × Memᴰ a xs × (b ≡ g a)) → (b ≡ g x) ⊎ Memᴰ b (map g xs) → (a : A) × Memᴰ a (x ∷ xs) × (b ≡ g a)
      go r (inl e) = (x, Memᴰ.head refl, e)
      go r (inr k) = let t = r k in (t.0, Memᴰ.tail t.1, t.2)

module _ {A : Type 0} where
  pub same_refl : (l : List A) → Same l l
  same_refl l f = refl

  pub same_trans : (p q r : List A) → Same p q → Same q r → Same p r
  same_trans p q r s t f = s f ∙ t f

  pub same_sym : (p q : List A) → Same p q → Same q p
  same_sym p q s f = sym (s f)

  pub same_length : (p q : List A) → Same p q → length p ≡ length q
  same_length p q s = sym (count_always p) ∙ s always ∙ count_always q

  -- what a test of equality with an element counts
  module _ (same : A → A → Bool) (same_eq : (a b : A) → same a b ≡ true → a ≡ b) (eq_same : (a : A) → same a a ≡ true) where
    some_count : {a : A} {l : List A} → Memᴰ a l → 0 < count (same a) l
    some_count {a} (Memᴰ.head {x = b} {xs = l} e) = subst (λ b. 0 < tick (same a b) (count (same a) l)) e (rw (eq_same a) (omega arith))
    some_count {a} (Memᴰ.tail {x = b} {xs = l} m) = go (same a b) (some_count m)
      where
        go : (t : Bool) → 0 < count (same a) l → 0 < tick t (count (same a) l)
        go true h = omega arith
        go false h = h

    count_some : (a : A) (l : List A) → 0 < count (same a) l → Memᴰ a l
    count_some a [] h = absurd (omega arith)
    count_some a (b ∷ l) h = go (same a b) refl (count_some a l) h
      where
        go : (t : Bool) → same a b ≡ t → (0 < count (same a) l → Memᴰ a l) → 0 < tick t (count (same a) l) → Memᴰ a (b ∷ l)
        go true e r h = Memᴰ.head (same_eq a b e)
        go false e r h = Memᴰ.tail (r h)

    -- what all of a list have, all have in another order
    pub all_same : {P : A → Type 0} (qs : List A) {ps : List A} → Same qs ps → All P ps → All P qs
    all_same qs {ps} s h = all_of qs (λ a m. all_at h (count_some a ps (omega (arith, s (same a), some_count m))))

-- all of a list by their places; d is what stands past the end
module _ {A : Type 0} {P : A → Type 0} where
  pub all_index : (d : A) {l : List A} → All P l → (i : ℕ) → i < length l → P (get_or l i d)
  all_index d nil i h = absurd (omega arith)
  all_index d (cons p a) zero h = p
  all_index d (cons p a) (suc i) h = all_index d a i (omega arith)

  pub index_all : (d : A) (l : List A) → ((i : ℕ) → i < length l → P (get_or l i d)) → All P l
  index_all d [] f = nil
  index_all d (a ∷ l) f = cons (f 0 (omega arith)) (index_all d l (λ i h. f (suc i) (omega arith)))

  pub all_set : {l : List A} (i : ℕ) {a : A} → All P l → P a → All P (set l i a)
  all_set i nil p = nil
  all_set zero (cons q a) p = cons p a
  all_set (suc i) (cons q a) p = cons q (all_set i a p)

  pub all_take : (k : ℕ) {l : List A} → All P l → All P (take k l)
  all_take zero a = nil
  all_take (suc k) nil = nil
  all_take (suc k) (cons p a) = cons p (all_take k a)

  pub all_drop : (k : ℕ) {l : List A} → All P l → All P (drop k l)
  all_drop zero a = a
  all_drop (suc k) nil = nil
  all_drop (suc k) (cons p a) = all_drop k a
