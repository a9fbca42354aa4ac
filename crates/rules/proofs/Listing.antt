-- Lists that hold each made thing once: a list closed under the joins is one, all have one length, and "more than n" compares with it. Assumes nothing.
use mathlib.Core.Path.{◌≡◌, refl, sym, ap, ◌∙◌}
use mathlib.Core.Logic.{◌⊎◌, inl, inr, ◌↔◌}
use mathlib.Core.List.Memᴰ
use mathlib.Core.List.{List, [], ◌∷◌, Memᴰ}
use Prim.Native.Nat.{ℕ, zero, suc, ◌≤◌, ◌<◌}
use native.Mathlib.Omega.{arith}
use lib.ListN.{length, take}
use lib.Seq.{length-take-le}
use Rattle.rules.specs.Bag.{All, nil, cons}
use Rattle.rules.proofs.Bags.{all_at}
use Rattle.rules.specs.Made.{Making, Distinct, Enumerates, Made, MoreThan, above, beside, new, no_one, one}

module _ {A : Type 0} where
  -- taking out one place of a list
  pub record Taken (a : A) (l : List A) : Type 0 where
    pub left : List A
    pub shorter : length l ≡ suc (length left)
    pub holds : (b : A) → ¬ (b ≡ a) → Memᴰ b l → Memᴰ b left

  take_out : {a : A} {l : List A} → Memᴰ a l → Taken a l
  take_out {a} (Memᴰ.head {x = x} {xs = xs} e) = record { left = xs; shorter = refl; holds = λ b n m. go b n (Memᴰ.cases_cons m) }
    where
      go : (b : A) → ¬ (b ≡ a) → (b ≡ x) ⊎ Memᴰ b xs → Memᴰ b xs
      go b n (inl p) = absurd (n (p ∙ sym e))
      go b n (inr k) = k
  take_out {a} (Memᴰ.tail {x = x} {xs = xs} m) = under (take_out m)
    where
      under : Taken a xs → Taken a (x ∷ xs)
      under t = record { left = x ∷ t.left; shorter = ap suc t.shorter; holds = λ b n k. go b n (Memᴰ.cases_cons k) }
        where
          go : (b : A) → ¬ (b ≡ a) → (b ≡ x) ⊎ Memᴰ b xs → Memᴰ b (x ∷ t.left)
          go b n (inl p) = Memᴰ.head p
          go b n (inr k) = Memᴰ.tail (t.holds b n k)

  -- different things that all stand in a list are no more than it has places
  pub at_most : {l : List A} → Distinct l → (m : List A) → ((a : A) → Memᴰ a l → Memᴰ a m) → length l ≤ length m
  at_most no_one m f = omega arith
  at_most (new {a = a} {l = l} n d) m f =
      let t = take_out (f a (Memᴰ.head refl)) in
      let r = at_most d t.left (λ b k. t.holds b (λ e. n (Memᴰ.cast (sym e) k)) (f b (Memᴰ.tail k))) in
      omega (arith, r, t.shorter)

  pub same_number : {P : A → Type 0} {l m : List A} → Enumerates P l → Enumerates P m → length l ≡ length m
  same_number {P} {l} {m} e f =
      omega (arith, at_most e.once m (λ a k. f.each a (all_at e.only k)), at_most f.once l (λ a k. e.each a (all_at f.only k)))

  mem_take : (n : ℕ) {a : A} (l : List A) → Memᴰ a (take n l) → Memᴰ a l
  mem_take zero l m = absurd (Memᴰ.not-nil m)
  mem_take (suc n) [] m = m
  mem_take (suc n) {a} (x ∷ xs) m = go (λ k. mem_take n xs k) (Memᴰ.cases_cons m)
    where
      go : (Memᴰ a (take n xs) → Memᴰ a xs) → (a ≡ x) ⊎ Memᴰ a (take n xs) → Memᴰ a (x ∷ xs)
      go f (inl e) = Memᴰ.head e
      go f (inr k) = Memᴰ.tail (f k)

  distinct_take : (n : ℕ) {l : List A} → Distinct l → Distinct (take n l)
  distinct_take zero d = no_one
  distinct_take (suc n) no_one = no_one
  distinct_take (suc n) (new {l = l} m d) = new (λ k. m (mem_take n l k)) (distinct_take n d)

  all_take : {P : A → Type 0} (n : ℕ) {l : List A} → All P l → All P (take n l)
  all_take zero h = nil
  all_take (suc n) nil = nil
  all_take (suc n) (cons p h) = cons p (all_take n h)

  pub more_iff : {P : A → Type 0} {l : List A} (n : ℕ) → Enumerates P l → (n < length l) ↔ MoreThan P n
  more_iff {P} {l} n e = (
    (λ h. (take (suc n) l, distinct_take (suc n) e.once, all_take (suc n) e.only, length-take-le (suc n) l h)),
    (λ m. omega (arith, m.3, at_most m.1 l (λ a k. e.each a (all_at m.2 k)))),
  )

  -- a list that holds the starts and is closed under the joins
  pub record Closed (m : Making A) (l : List A) : Type 0 where
    pub starts : (a : A) → m.Start a → m.Keep a → Memᴰ a l
    pub sides : (a b : A) → Memᴰ a l → Memᴰ b l → m.Keep (m.side a b) → Memᴰ (m.side a b) l
    pub stacks : (a b : A) → Memᴰ a l → Memᴰ b l → m.Keep (m.stack a b) → Memᴰ (m.stack a b) l

  in_closed : {m : Making A} {l : List A} → Closed m l → {a : A} → Made m a → Memᴰ a l
  in_closed c (one {a = a} s k) = c.starts a s k
  in_closed c (beside {a = a} {b = b} p q k) = c.sides a b (in_closed c p) (in_closed c q) k
  in_closed c (above {a = a} {b = b} p q k) = c.stacks a b (in_closed c p) (in_closed c q) k

  pub closed_enumerates : {m : Making A} {l : List A} → Distinct l → All (Made m) l → Closed m l → Enumerates (Made m) l
  closed_enumerates d o c = record { once = d; only = o; each = λ a x. in_closed c x }

  pub made_kept : {m : Making A} {a : A} → Made m a → m.Keep a
  made_kept (one s k) = k
  made_kept (beside p q k) = k
  made_kept (above p q k) = k
