-- A class is found by its counts, and entered; what the orders of a class tell. Assumes nothing.
use mathlib.Core.Path.{◌≡◌, refl, sym, ap, ◌∙◌, subst}
use mathlib.Core.Bool.{true, false, true≢false}
use mathlib.Core.List.{List, [], ◌∷◌}
use Prim.Native.Nat.{ℕ, zero, suc, ◌+◌, ◌≤◌, ◌<◌}
use native.Mathlib.Omega.{arith}
use native.Mathlib.Decide.{ℕ_discrete, dec_lt}
use lib.Dec.{eqb}
use lib.ListN.{length, get_or, take, replicate}
use borrow.Author.Tests.{eqb-true, eq-eqb}
use Rattle.rules.proofs.Bools.{and_both, both_and}
use Rattle.rules.proofs.Outlines.{same_list}
use Rattle.rules.specs.Planner.{room_of}
use Rattle.arena.specs.Bytes.{word}
use Rattle.arena.specs.Records.{record_at, size_of, link_place, link_at, Linked}
use Rattle.weighing.specs.Weights.{weighed, bucket_of}
use Rattle.weighing.proofs.Laws.{spread_below}
use Rattle.classes.specs.Directory.{chain_link, head_link, end_link, counts_at, chain_in, Class, Directory, Begins, Enterable, Entered, Kept}
use Rattle.classes.specs.Chains.{Reach, here, next, Chain, none, some}
use Rattle.classes.proofs.Chains.{Chase, chase_end, chain_stays, reach_stays}
use Rattle.classes.specs.Orders.{Ordered, InOrderOf}

-- the same order where the sizes are the same
pub ordered_size : {size other f : ℕ → ℕ} {start n : ℕ} → ((i : ℕ) → other i ≡ size i) → Ordered size f start n → Ordered other f start n
ordered_size {f = f} e o = record { within = o.within; each = o.each; rising = λ i k a b c. omega (arith, e (f i), e (f k), o.rising i k a b c) }

-- looking for counts
same_list_lem : (a : List ℕ) → same_list a a ≡ true
same_list_lem [] = refl
same_list_lem (x ∷ a) = both_and (eq-eqb x x refl) (same_list_lem a)

list_same : (a b : List ℕ) → same_list a b ≡ true → a ≡ b
list_same [] [] e = refl
list_same [] (y ∷ b) e = absurd (true≢false (sym e))
list_same (x ∷ a) [] e = absurd (true≢false (sym e))
list_same (x ∷ a) (y ∷ b) e = let p = and_both (eqb x y) (same_list a b) e in λ i. eqb-true x y p.0 i ∷ list_same a b p.1 i

-- a class with these counts, as it is looked for
abbrev pub WithCounts : (types : ℕ) (s : List ℕ) (n : ℕ) (c : List ℕ) (q : ℕ) → Type 0
WithCounts types s n c q = Class types s n q × (counts_at types s q ≡ c)

abbrev pub Seek : (types : ℕ) (s : List ℕ) (n : ℕ) (c : List ℕ) (x : ℕ) → Type 0
Seek types s n c x = Chase (Class types s n) (chain_in s) 0 (WithCounts types s n c) x

module _ (types : ℕ) (s : List ℕ) (n : ℕ) (c : List ℕ) where
  pub seek_start : Directory types s n → (h : ℕ) → h < room_of (length s) → h ≡ bucket_of (room_of (length s)) c → Seek types s n c (link_at s h head_link)
  seek_start d h l e = record {
    chained = d.heads h l;
    all = λ q k. subst (λ b. Reach (chain_in s) 0 (link_at s b head_link) q) (ap (bucket_of (room_of (length s))) k.1 ∙ sym e) k.0.chained;
  }

  pub seek_other : (p : ℕ) → same_list c (counts_at types s p) ≡ false → WithCounts types s n c p → ⊥
  seek_other p f k = true≢false (sym (same_list_lem c) ∙ ap (same_list c) (sym k.1) ∙ f)

  pub seek_found : (p : ℕ) → Class types s n p → same_list c (counts_at types s p) ≡ true → WithCounts types s n c p
  seek_found p k e = (k, sym (list_same c (counts_at types s p) e))

  pub seek_none : {x : ℕ} → Directory types s n → Seek types s n c x → x ≤ 0 → (q : ℕ) → q < n → counts_at types s q ≡ c → ⊥
  seek_none d h z q l e =
      let r = d.each q l in
      chase_end h z r.0 (r.1, sym (r.1.same q r.2 r.3) ∙ e)

-- the same order where the same records are named
pub ordered_names : {size f g : ℕ → ℕ} {start n : ℕ} → ((k : ℕ) → start ≤ k → k < n → g k ≡ f k) → Ordered size f start n → Ordered size g start n
ordered_names {size} {f} {g} {start} {n} e o = record {
  within = λ k a b. let r = o.within k a b in (omega (arith, e k a b, r.0), omega (arith, e k a b, r.1));
  each = λ q a b. let r = o.each q a b in (r.0, r.1, r.2, e r.0 r.1 r.2 ∙ r.3);
  rising = λ i k a b c. omega (arith, ap size (e i a (omega arith)), ap size (e k (omega arith) c), o.rising i k a b c);
}

-- three links are written: the end and the chain of the new class, and the head of its bucket
pub record Written (s t : List ℕ) (start n h : ℕ) : Type 0 where
  pub same_length : length t ≡ length s
  pub records : (i : ℕ) → record_at t i ≡ record_at s i
  pub ended : link_at t start end_link ≡ n
  pub chain : link_at t start chain_link ≡ link_at s h head_link
  pub head : link_at t h head_link ≡ suc start
  pub names : (i w : ℕ) → w < 2 → link_at t i w ≡ link_at s i w
  pub ends : (i : ℕ) → i < start → link_at t i end_link ≡ link_at s i end_link
  pub chains : (i : ℕ) → i < start → link_at t i chain_link ≡ link_at s i chain_link
  pub heads : (i : ℕ) → (i ≡ h → ⊥) → link_at t i head_link ≡ link_at s i head_link

pub written : (s u v t : List ℕ) (start n h : ℕ) → Linked start chain_link (link_at s h head_link) s u → Linked start end_link n u v → Linked h head_link (suc start) v t → Written s t start n h
written s u v t start n h a b c = record {
  same_length = c.same_length ∙ b.same_length ∙ a.same_length;
  records = λ i. c.records i ∙ b.records i ∙ a.records i;
  ended = c.others start end_link (λ p q. omega arith) (omega arith) ∙ b.here;
  chain = c.others start chain_link (λ p q. omega arith) (omega arith) ∙ b.others start chain_link (λ p q. omega arith) (omega arith) ∙ a.here;
  head = c.here;
  names = λ i w l. c.others i w (λ p q. omega arith) (omega arith) ∙ b.others i w (λ p q. omega arith) (omega arith) ∙ a.others i w (λ p q. omega arith) (omega arith);
  ends = λ i l. c.others i end_link (λ p q. omega arith) (omega arith) ∙ b.others i end_link (λ p q. omega arith) (omega arith) ∙ a.others i end_link (λ p q. omega arith) (omega arith);
  chains = λ i l. c.others i chain_link (λ p q. omega arith) (omega arith) ∙ b.others i chain_link (λ p q. omega arith) (omega arith) ∙ a.others i chain_link (λ p q. omega arith) (omega arith);
  heads = λ i l. c.others i head_link (λ p q. l p) (omega arith) ∙ b.others i head_link (λ p q. omega arith) (omega arith) ∙ a.others i head_link (λ p q. omega arith) (omega arith);
}

module _ {types : ℕ} {s t : List ℕ} {start n h : ℕ} {c : List ℕ} (a : Enterable types s start n c) (eh : h ≡ bucket_of (room_of (length s)) c) (w : Written s t start n h) where
  same_counts : (q : ℕ) → counts_at types t q ≡ counts_at types s q
  same_counts q = ap (λ u. take types u.outline.counts) (w.records q)

  same_order : (v p e : ℕ) → v < 2 → InOrderOf s v p e → InOrderOf t v p e
  same_order v p e l o = ordered_names (λ k x y. w.names k v l) (ordered_size (λ i. ap (λ u. size_of v u.outline) (w.records i)) o)

  inside : (p : ℕ) → Class types s start p → p < start
  inside p k = omega (arith, k.some, k.ends)

  same_chain : (p : ℕ) → Class types s start p → chain_in t p ≡ chain_in s p
  same_chain p k = w.chains p (inside p k)

  bucket_room : (b : List ℕ) → bucket_of (room_of (length s)) b < room_of (length s)
  bucket_room b = spread_below (weighed 0 b) (omega (arith, a.room, a.some))

  -- the new class in front of its bucket's
  from_head : (b p : ℕ) → b < room_of (length s) → Reach (chain_in s) 0 (link_at s b head_link) p → Reach (chain_in t) 0 (link_at t b head_link) p
  from_head b p l r = go (ℕ_discrete b h)
    where
      go : Dec (b ≡ h) → Reach (chain_in t) 0 (link_at t b head_link) p
      go (yes e) = next {q = start} (ap (λ y. link_at t y head_link) e ∙ w.head) (omega arith) (subst (λ y. Reach (chain_in t) 0 y p) (ap (λ y. link_at s y head_link) e ∙ sym w.chain) (reach_stays same_chain (a.directory.heads b l) r))
      go (no e) = subst (λ y. Reach (chain_in t) 0 y p) (sym (w.heads b e)) (reach_stays same_chain (a.directory.heads b l) r)

  class_stays : (p : ℕ) → Class types s start p → Class types t n p
  class_stays p k =
      let e = w.ends p (inside p k) in
      let ks = k.some in
      let ke = k.ends in
      record {
        some = omega arith;
        ends = omega (arith, a.some);
        same = λ q x y. same_counts q ∙ k.same q x (omega arith) ∙ sym (same_counts p);
        whole = λ q x y. old_only q x (sym (same_counts q) ∙ y ∙ same_counts p) (dec_lt q start);
        orders = λ v l. subst (InOrderOf t v p) (sym e) (same_order v p (link_at s p end_link) l (k.orders v l));
        chained = rw (w.same_length, same_counts p) (from_head (bucket_of (room_of (length s)) (counts_at types s p)) p (bucket_room (counts_at types s p)) k.chained);
      }
    where
      old_only : (q : ℕ) → q < n → counts_at types s q ≡ counts_at types s p → Dec (q < start) → (p ≤ q) × (q < link_at t p end_link)
      old_only q x y (yes z) = let r = k.whole q z y in (r.0, omega (arith, r.1, w.ends p (inside p k)))
      old_only q x y (no z) = absurd (a.before p (inside p k) (sym y ∙ a.counts q (omega arith) x))

  chains_stay : {x : ℕ} → Chain (Class types s start) (chain_in s) 0 x → Chain (Class types t n) (chain_in t) 0 x
  chains_stay g = chain_stays same_chain class_stays g

  new_class : Class types t n start
  new_class =
      let e = w.ended in
      let more = a.some in
      record {
        some = omega arith;
        ends = omega arith;
        same = λ q x y. same_counts q ∙ a.counts q x (omega arith) ∙ sym (a.counts start (omega arith) more) ∙ sym (same_counts start);
        whole = λ q x y. new_only q x (sym (same_counts q) ∙ y ∙ same_counts start) (dec_lt q start);
        orders = λ v l. subst (InOrderOf t v start) (sym e) (same_order v start n l (a.orders v l));
        chained = rw (w.same_length, same_counts start, a.counts start (omega arith) more, sym eh) (here w.head (omega arith));
      }
    where
      new_only : (q : ℕ) → q < n → counts_at types s q ≡ counts_at types s start → Dec (q < start) → (start ≤ q) × (q < link_at t start end_link)
      new_only q x y (yes z) = absurd (a.before q z (y ∙ a.counts start (omega arith) a.some))
      new_only q x y (no z) = (omega arith, omega (arith, w.ended))

  chain_low : {x : ℕ} → Chain (Class types s start) (chain_in s) 0 x → x ≤ start
  chain_low (none z) = omega arith
  chain_low (some {p = p} z b k l g) = omega (arith, inside p k)

  pub entered : Entered types n s t
  entered = record {
    same_length = w.same_length;
    records = w.records;
    directory = record {
      room = omega (arith, a.room, ap room_of w.same_length);
      heads = λ b l. head b (omega (arith, ap room_of w.same_length)) (ℕ_discrete b h);
      each = λ q l. each q l (dec_lt q start);
    };
  }
    where
      head : (b : ℕ) → b < room_of (length s) → Dec (b ≡ h) → Chain (Class types t n) (chain_in t) 0 (link_at t b head_link)
      head b l (yes e) =
          let g = a.directory.heads h (subst (λ y. y < room_of (length s)) e l) in
          subst (λ y. Chain (Class types t n) (chain_in t) 0 (link_at t y head_link)) (sym e) (some {p = start} w.head (omega arith) new_class (omega (arith, w.chain, chain_low g)) (subst (Chain (Class types t n) (chain_in t) 0) (sym w.chain) (chains_stay g)))
      head b l (no e) = subst (Chain (Class types t n) (chain_in t) 0) (sym (w.heads b e)) (chains_stay (a.directory.heads b l))

      each : (q : ℕ) → q < n → Dec (q < start) → (p : ℕ) × Class types t n p × (p ≤ q) × (q < link_at t p end_link)
      each q l (yes x) = let r = a.directory.each q x in (r.0, class_stays r.0 r.1, r.2, omega (arith, r.3, w.ends r.0 (inside r.0 r.1)))
      each q l (no x) = (start, new_class, omega arith, omega (arith, w.ended))

-- the same order of the same records
pub ordered_stays : {size other f g : ℕ → ℕ} {start n : ℕ} → ((i : ℕ) → i < n → other i ≡ size i) → ((k : ℕ) → start ≤ k → k < n → g k ≡ f k) → Ordered size f start n → Ordered other g start n
ordered_stays {size} {other} {f} {g} {start} {n} z e o = ordered_names e (record {
  within = o.within;
  each = o.each;
  rising = λ i k a b c. omega (arith, z (f i) (o.within i a (omega arith)).1, z (f k) (o.within k (omega arith) c).1, o.rising i k a b c);
})

-- the classes before start are found and walked as before
module _ {types : ℕ} {s t : List ℕ} {start n : ℕ} (d : Directory types s start) (begins : start ≤ n) (a : Kept start n s t) where
  pub counts_stay : (q : ℕ) → q < start → counts_at types t q ≡ counts_at types s q
  counts_stay q h = ap (λ u. take types u.outline.counts) (a.records q (omega arith))

  in_front : (p : ℕ) → Class types s start p → p < start
  in_front p k = omega (arith, k.some, k.ends)

  chain_same : (p : ℕ) → Class types s start p → chain_in t p ≡ chain_in s p
  chain_same p k = a.links p chain_link (in_front p k) (omega arith)

  bucket_in : 0 < start → (b : List ℕ) → bucket_of (room_of (length s)) b < room_of (length s)
  bucket_in h b = spread_below (weighed 0 b) (omega (arith, d.room))

  pub class_kept : (p : ℕ) → Class types s start p → Class types t start p
  class_kept p k =
      let i = in_front p k in
      let e = a.links p end_link i (omega arith) in
      let ks = k.some in
      let ke = k.ends in
      let b = bucket_of (room_of (length s)) (counts_at types s p) in
      record {
        some = omega arith;
        ends = omega arith;
        same = λ q x y. counts_stay q (omega arith) ∙ k.same q x (omega arith) ∙ sym (counts_stay p i);
        whole = λ q x y. let r = k.whole q x (sym (counts_stay q x) ∙ y ∙ counts_stay p i) in (r.0, omega (arith, r.1));
        orders = λ v l. subst (InOrderOf t v p) (sym e) (ordered_stays (λ j h. ap (λ u. size_of v u.outline) (a.records j (omega arith))) (λ j x y. a.links j v (omega arith) (omega arith)) (k.orders v l));
        chained = rw (a.same_length, counts_stay p i, a.heads b) (reach_stays chain_same (d.heads b (bucket_in (omega arith) (counts_at types s p))) k.chained);
      }

  pub directory_kept : Directory types t start
  directory_kept = record {
    room = omega (arith, d.room, ap room_of a.same_length);
    heads = λ h l. subst (Chain (Class types t start) (chain_in t) 0) (sym (a.heads h)) (chain_stays chain_same class_kept (d.heads h (omega (arith, ap room_of a.same_length))));
    each = λ q l. let r = d.each q l in (r.0, class_kept r.0 r.1, r.2, omega (arith, r.3, a.links r.0 end_link (in_front r.0 r.1) (omega arith)));
  }

-- a class begins where no record before has the counts
pub class_at : {types : ℕ} {s : List ℕ} {n p : ℕ} → Directory types s n → p < n → Begins types s p → Class types s n p
class_at {types} {s} {n} {p} d h b = let r = d.each p h in go r.0 r.1 r.2 r.3 (ℕ_discrete r.0 p)
  where
    go : (q : ℕ) → Class types s n q → q ≤ p → p < link_at s q end_link → Dec (q ≡ p) → Class types s n p
    go q k x y (yes e) = subst (Class types s n) e k
    go q k x y (no e) = absurd (b q (omega arith) (sym (k.same p x y)))

-- where a class ends, the next begins
pub next_begins : {types : ℕ} {s : List ℕ} {n p : ℕ} → Directory types s n → Class types s n p → link_at s p end_link < n → Begins types s (link_at s p end_link)
next_begins {types} {s} {n} {p} d k h q l e = go (dec_lt q p)
  where
    never : counts_at types s (link_at s p end_link) ≡ counts_at types s p → ⊥
    never y = let r = k.whole (link_at s p end_link) h y in omega (arith, r.1)

    go : Dec (q < p) → ⊥
    go (yes x) =
        let c = d.each q (omega (arith, k.ends)) in
        let f = c.1.same q c.2 c.3 in
        let z = c.1.whole (link_at s p end_link) h (sym e ∙ f) in
        let ks = k.some in
        never (sym e ∙ f ∙ sym (c.1.same p (omega (arith, c.2)) (omega (arith, z.1))))
    go (no x) = never (sym e ∙ k.same q (omega arith) l)

pub kept_self : (start n : ℕ) (s : List ℕ) → Kept start n s s
kept_self start n s = record { same_length = refl; records = λ i h. refl; links = λ i k h l. refl; heads = λ i. refl }

pub kept_then : {start n m : ℕ} {s t u : List ℕ} → n ≤ m → Kept start n s t → Kept start m t u → Kept start n s u
kept_then h a b = record {
  same_length = b.same_length ∙ a.same_length;
  records = λ i l. b.records i (omega arith) ∙ a.records i l;
  links = λ i k l x. b.links i k l x ∙ a.links i k l x;
  heads = λ i. b.heads i ∙ a.heads i;
}

-- a row in order: behind the first that is too large all are
pub row_stops : {size f : ℕ → ℕ} {start n : ℕ} → Ordered size f start n → (k x most : ℕ) → start ≤ k → most < x + size (f k) → (p : ℕ) → k ≤ p → p < n → most < x + size (f p)
row_stops {size} {f} {start} {n} o k x most a h p b c = go (ℕ_discrete p k)
  where
    go : Dec (p ≡ k) → most < x + size (f p)
    go (yes e) = omega (arith, ap (λ i. size (f i)) e)
    go (no e) = omega (arith, o.rising k p a (omega arith) c)

-- what holds of all that an order names holds of all
pub row_whole : {size f : ℕ → ℕ} {start n : ℕ} → Ordered size f start n → (P : ℕ → Type 0) → ((k : ℕ) → start ≤ k → k < n → P (f k)) → (q : ℕ) → start ≤ q → q < n → P q
row_whole o P h q a b = let r = o.each q a b in subst P r.3 (h r.0 r.1 r.2)

-- the first that an order names is the smallest, the last the largest
pub first_least : {size f : ℕ → ℕ} {start n : ℕ} → Ordered size f start n → (q : ℕ) → start ≤ q → q < n → size (f start) ≤ size q
first_least {size} {f} {start} {n} o q a b = let r = o.each q a b in go r.0 r.1 r.2 r.3 (ℕ_discrete r.0 start)
  where
    go : (k : ℕ) → start ≤ k → k < n → f k ≡ q → Dec (k ≡ start) → size (f start) ≤ size q
    go k x y e (yes z) = omega (arith, ap (λ i. size (f i)) z, ap size e)
    go k x y e (no z) = omega (arith, o.rising start k (omega arith) (omega arith) y, ap size e)

pub last_most : {size f : ℕ → ℕ} {start n : ℕ} → Ordered size f start n → (last : ℕ) → suc last ≡ n → (q : ℕ) → start ≤ q → q < n → size q ≤ size (f last)
last_most {size} {f} {start} {n} o last h q a b = let r = o.each q a b in go r.0 r.1 r.2 r.3 (ℕ_discrete r.0 last)
  where
    go : (k : ℕ) → start ≤ k → k < n → f k ≡ q → Dec (k ≡ last) → size q ≤ size (f last)
    go k x y e (yes z) = omega (arith, ap (λ i. size (f i)) z, ap size e)
    go k x y e (no z) = omega (arith, o.rising k last x (omega arith) (omega arith), ap size e)

-- an arena of zeros has no classes
zero_at : (n i : ℕ) → get_or (replicate {A = ℕ} n 0) i 0 ≡ 0
zero_at zero i = refl
zero_at (suc n) zero = refl
zero_at (suc n) (suc i) = zero_at n i

zero_link : (n i k : ℕ) → link_at (replicate n 0) i k ≡ 0
unfolding word
zero_link n i k = rw (zero_at n (link_place i k), zero_at n (link_place i k + 1)) refl

pub none_entered : (types n : ℕ) → Directory types (replicate n 0) 0
none_entered types n = record { room = omega arith; heads = λ h l. none {x = link_at (replicate n 0) h head_link} (omega (arith, zero_link n h head_link)); each = λ q h. absurd (omega arith) }
