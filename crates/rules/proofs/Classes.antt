-- Builds class by class, a class being all builds with the same counts: a build less one piece of a type it has is a build,
-- so that each class is reached from a class with one piece less of its last type; and when a class, and the whole list, is complete. Assumes nothing.
use mathlib.Core.Path.{◌≡◌, refl, sym, ap, ◌∙◌, subst}
use mathlib.Core.Bool.{true}
use mathlib.Core.Logic.{◌⊎◌, inl, inr}
use mathlib.Core.List.{List, [], ◌∷◌, map, Memᴰ}
use Prim.Native.Nat.{ℕ, zero, suc, ◌+◌, ◌*◌, ◌≤◌, ◌<◌, max}
use native.Mathlib.Omega.{arith}
use native.Mathlib.Nat.{max_comm}
use native.Mathlib.Decide.{dec_le, dec_lt}
use lib.ListN.{length, get_or, set}
use lib.Seq.{ext_get_or}
use borrow.Author.Tests.{le-leb}
use Rattle.rules.specs.Bag.{sum, All}
use Rattle.rules.specs.Box.{Way, along, across}
use Rattle.rules.specs.Made.{one, beside, above}
use Rattle.rules.specs.Job.{Job, Outline, Fits, Build, building, AtMost, plus, pieces, types, alone}
use Rattle.rules.proofs.Bools.{both_and}
use Rattle.rules.proofs.Bags.{index, all_at, from_map}
use Rattle.rules.proofs.Tally.{Typed, length_plus, sum_plus, sum_unit}
use Rattle.rules.proofs.Bridge.{join, join_counts, made_join}
use Rattle.rules.proofs.Outlines.{at_most, counts_length}

-- one piece more of type t, counted from 0
abbrev pub one_more : ℕ → List ℕ → List ℕ
one_more t [] = []
one_more zero (c ∷ cs) = suc c ∷ cs
one_more (suc t) (c ∷ cs) = c ∷ one_more t cs

-- there are none of the types after t
abbrev pub NoneAfter : ℕ → List ℕ → Type 0
NoneAfter t c = (u : ℕ) → t < u → get_or c u 0 ≡ 0

plus_more_left : (t : ℕ) (a b : List ℕ) → plus (one_more t a) b ≡ one_more t (plus a b)
plus_more_left zero [] b = refl
plus_more_left (suc t) [] b = refl
plus_more_left zero (x ∷ a) [] = refl
plus_more_left (suc t) (x ∷ a) [] = refl
plus_more_left zero (x ∷ a) (y ∷ b) = let e : suc x + y ≡ suc (x + y) = omega arith in λ i. e i ∷ plus a b
plus_more_left (suc t) (x ∷ a) (y ∷ b) = λ i. (x + y) ∷ plus_more_left t a b i

plus_more_right : (t : ℕ) (a b : List ℕ) → plus a (one_more t b) ≡ one_more t (plus a b)
plus_more_right zero [] b = refl
plus_more_right (suc t) [] b = refl
plus_more_right zero (x ∷ a) [] = refl
plus_more_right (suc t) (x ∷ a) [] = refl
plus_more_right zero (x ∷ a) (y ∷ b) = let e : x + suc y ≡ suc (x + y) = omega arith in λ i. e i ∷ plus a b
plus_more_right (suc t) (x ∷ a) (y ∷ b) = λ i. (x + y) ∷ plus_more_right t a b i

pub sum_more : (t : ℕ) (c : List ℕ) → t < length c → sum (one_more t c) ≡ suc (sum c)
sum_more t [] h = absurd (omega arith)
sum_more zero (c ∷ cs) h = omega arith
sum_more (suc t) (c ∷ cs) h = omega (arith, sum_more t cs (omega arith))

pub length_more : (t : ℕ) (c : List ℕ) → length (one_more t c) ≡ length c
length_more zero [] = refl
length_more (suc t) [] = refl
length_more zero (c ∷ cs) = refl
length_more (suc t) (c ∷ cs) = ap suc (length_more t cs)

pub more_set : (t : ℕ) (c : List ℕ) → one_more t c ≡ set c t (suc (get_or c t 0))
more_set zero [] = refl
more_set (suc t) [] = refl
more_set zero (c ∷ cs) = refl
more_set (suc t) (c ∷ cs) = λ i. c ∷ more_set t cs i

at_most_less : (t : ℕ) (c d : List ℕ) → AtMost (one_more t c) d → AtMost c d
at_most_less t [] d h = tt
at_most_less zero (c ∷ cs) [] h = absurd h
at_most_less (suc t) (c ∷ cs) [] h = absurd h
at_most_less zero (c ∷ cs) (d ∷ ds) h = (omega (arith, h.0), h.1)
at_most_less (suc t) (c ∷ cs) (d ∷ ds) h = (h.0, at_most_less t cs ds h.1)

plus_zeros : (c b : List ℕ) → length c ≡ length b → sum c ≡ 0 → plus c b ≡ b
plus_zeros [] [] e z = refl
plus_zeros [] (y ∷ b) e z = absurd (omega arith)
plus_zeros (x ∷ c) [] e z = absurd (omega arith)
plus_zeros (x ∷ c) (y ∷ b) e z = let p : x + y ≡ y = omega arith in λ i. p i ∷ plus_zeros c b (omega arith) (omega arith) i

-- counts of a single piece
unit_plus : (t : ℕ) (c b : List ℕ) → length c ≡ length b → 0 < get_or c t 0 → sum c ≡ 1 → plus c b ≡ one_more t b
unit_plus t [] b e h z = absurd (omega arith)
unit_plus t (x ∷ c) [] e h z = absurd (omega arith)
unit_plus zero (x ∷ c) (y ∷ b) e h z = let p : x + y ≡ suc y = omega arith in λ i. p i ∷ plus_zeros c b (omega arith) (omega arith) i
unit_plus (suc t) (x ∷ c) (y ∷ b) e h z =
    let s : 0 < sum c = in_sum t c h in
    let p : x + y ≡ y = omega arith in λ i. p i ∷ unit_plus t c b (omega arith) h (omega arith) i
  where
    in_sum : (t : ℕ) (c : List ℕ) → 0 < get_or c t 0 → 0 < sum c
    in_sum t [] h = absurd (omega arith)
    in_sum zero (x ∷ c) h = omega arith
    in_sum (suc t) (x ∷ c) h = omega (arith, in_sum t c h)

get_or_plus : (t : ℕ) (a b : List ℕ) → length a ≡ length b → get_or (plus a b) t 0 ≡ get_or a t 0 + get_or b t 0
get_or_plus t [] [] e = refl
get_or_plus t [] (y ∷ b) e = absurd (omega arith)
get_or_plus t (x ∷ a) [] e = absurd (omega arith)
get_or_plus zero (x ∷ a) (y ∷ b) e = refl
get_or_plus (suc t) (x ∷ a) (y ∷ b) e = get_or_plus t a b (omega arith)

plus_comm : (a b : List ℕ) → plus a b ≡ plus b a
plus_comm [] [] = refl
plus_comm [] (y ∷ b) = refl
plus_comm (x ∷ a) [] = refl
plus_comm (x ∷ a) (y ∷ b) = let e : x + y ≡ y + x = omega arith in λ i. e i ∷ plus_comm a b i

-- counts of a part are at most those of the whole, and leave one rest
pub at_most_plus : (a b : List ℕ) → length a ≡ length b → at_most a (plus a b) ≡ true
at_most_plus [] b e = refl
at_most_plus (x ∷ a) [] e = absurd (omega arith)
at_most_plus (x ∷ a) (y ∷ b) e = both_and (le-leb x (x + y) (omega arith)) (at_most_plus a b (omega arith))

pub plus_cancel : (a b c : List ℕ) → length a ≡ length b → length a ≡ length c → plus a b ≡ plus a c → b ≡ c
plus_cancel a b c e f p = ext_get_or 0 b c (sym e ∙ f) (λ k h. omega (arith, get_or_plus k a b e, get_or_plus k a c f, ap (λ l. get_or l k 0) p))

join_comm : (w : Way) (a b : Outline) → join w a b ≡ join w b a
join_comm along a b = let e : a.long + b.long ≡ b.long + a.long = omega arith in λ i. record { long = e i; wide = max_comm a.wide b.wide i; counts = plus_comm a.counts b.counts i }
join_comm across a b = let e : a.wide + b.wide ≡ b.wide + a.wide = omega arith in λ i. record { long = max_comm a.long b.long i; wide = e i; counts = plus_comm a.counts b.counts i }

-- the last type of which there is a piece
pub record LastType (c : List ℕ) : Type 0 where
  pub type : ℕ
  pub among : type < length c
  pub has : 0 < get_or c type 0
  pub last : NoneAfter type c

zeros_at : (c : List ℕ) → sum c ≡ 0 → (u : ℕ) → get_or c u 0 ≡ 0
zeros_at [] z u = refl
zeros_at (x ∷ c) z zero = omega arith
zeros_at (x ∷ c) z (suc u) = zeros_at c (omega arith) u

pub last_type : (c : List ℕ) → 0 < sum c → LastType c
last_type [] h = absurd (omega arith)
last_type (x ∷ c) h = go (dec_lt 0 (sum c)) (last_type c)
  where
    go : Dec (0 < sum c) → (0 < sum c → LastType c) → LastType (x ∷ c)
    go (yes p) f = let r = f p in record { type = suc r.type; among = omega (arith, r.among); has = r.has; last = λ u l. later r.type r.last u l }
      where
        later : (t : ℕ) → NoneAfter t c → NoneAfter (suc t) (x ∷ c)
        later t n zero l = absurd (omega arith)
        later t n (suc u) l = n u (omega arith)
    go (no p) f = record { type = 0; among = omega arith; has = omega arith; last = λ u l. later u l }
      where
        later : NoneAfter 0 (x ∷ c)
        later zero l = absurd (omega arith)
        later (suc u) l = zeros_at c (omega arith) u

none_after_less : (t : ℕ) (c : List ℕ) → NoneAfter t (one_more t c) → NoneAfter t c
none_after_less t [] n u l = refl
none_after_less t (x ∷ c) n zero l = absurd (omega arith)
none_after_less zero (x ∷ c) n (suc u) l = n (suc u) l
none_after_less (suc t) (x ∷ c) n (suc u) l = none_after_less t c (λ v k. n (suc v) (omega arith)) u (omega arith)

-- what is left of a build when a piece of type t is taken away, no larger than it
pub record Less (j : Job) (t : ℕ) (o : Outline) : Type 0 where
  pub outline : Outline
  pub build : Build j outline
  pub counts : one_more t outline.counts ≡ o.counts
  pub long : outline.long ≤ o.long
  pub wide : outline.wide ≤ o.wide

module _ {j : Job} (typed : All (λ p. Typed j p.type) j.singles) where
  same_types : {a b : Outline} → Build j a → Build j b → length a.counts ≡ length b.counts
  same_types p q = counts_length p ∙ sym (counts_length q)

  pub single_pieces : {o : Outline} → Memᴰ o (map (alone j) j.singles) → pieces o ≡ 1
  single_pieces {o} m =
      let t = from_map (alone j) j.singles m in
      let k = all_at typed t.1 in
      ap (λ (u : Outline). sum u.counts) t.2 ∙ sum_unit (types j) t.0.type k.low k.high

  pub join_pieces : (w : Way) {a b : Outline} → Build j a → Build j b → pieces (join w a b) ≡ pieces a + pieces b
  join_pieces w {a} {b} p q = ap sum (join_counts w a b) ∙ sum_plus a.counts b.counts (same_types p q)

  pub some_pieces : {o : Outline} → Build j o → 1 ≤ pieces o
  some_pieces (one m k) = omega (arith, single_pieces m)
  some_pieces (beside p q k) = omega (arith, join_pieces along p q, some_pieces p)
  some_pieces (above p q k) = omega (arith, join_pieces across p q, some_pieces p)

  smaller_fits : (t : ℕ) (a o : Outline) → Fits j o → one_more t a.counts ≡ o.counts → a.long ≤ o.long → a.wide ≤ o.wide → Fits j a
  smaller_fits t a o f e l w = record {
    long = omega (arith, f.long);
    wide = omega (arith, f.wide);
    counts = at_most_less t a.counts j.demands (subst (λ c. AtMost c j.demands) (sym e) f.counts);
  }

  module _ (w : Way) {a b : Outline} (p : Build j a) (q : Build j b) (k : Fits j (join w a b)) (t : ℕ) where
    -- a piece is taken from the first half, of which something is left
    less_first : Less j t a → Less j t (join w a b)
    less_first r =
        let c : one_more t (join w r.outline b).counts ≡ (join w a b).counts =
        ap (one_more t) (join_counts w r.outline b) ∙ sym (plus_more_left t r.outline.counts b.counts) ∙ ap (λ x. plus x b.counts) r.counts ∙ sym (join_counts w a b) in
        let l = long_first w r.outline r.long r.wide in
        record { outline = join w r.outline b; build = made_join w r.build q (smaller_fits t _ (join w a b) k c l.0 l.1); counts = c; long = l.0; wide = l.1 }
      where
        long_first : (w : Way) (u : Outline) → u.long ≤ a.long → u.wide ≤ a.wide → ((join w u b).long ≤ (join w a b).long) × ((join w u b).wide ≤ (join w a b).wide)
        long_first along u x y = (omega arith, omega arith)
        long_first across u x y = (omega arith, omega arith)

    -- the first half is that piece
    less_whole : pieces a ≡ 1 → 0 < get_or a.counts t 0 → Less j t (join w a b)
    less_whole e h =
        let l = second_in w in
        record { outline = b; build = q; counts = sym (unit_plus t a.counts b.counts (same_types p q) h e) ∙ sym (join_counts w a b); long = l.0; wide = l.1 }
      where
        second_in : (w : Way) → (b.long ≤ (join w a b).long) × (b.wide ≤ (join w a b).wide)
        second_in along = (omega arith, omega arith)
        second_in across = (omega arith, omega arith)

    from_first : 0 < get_or a.counts t 0 → (2 ≤ pieces a → Less j t a) → Less j t (join w a b)
    from_first h f = go (dec_le 2 (pieces a))
      where
        go : Dec (2 ≤ pieces a) → Less j t (join w a b)
        go (yes x) = less_first (f x)
        go (no x) = less_whole (omega (arith, some_pieces p)) h

  less_join : (w : Way) {a b : Outline} (p : Build j a) (q : Build j b) (k : Fits j (join w a b)) (t : ℕ) → 0 < get_or (join w a b).counts t 0 → (0 < get_or a.counts t 0 → 2 ≤ pieces a → Less j t a) → (0 < get_or b.counts t 0 → 2 ≤ pieces b → Less j t b) → Less j t (join w a b)
  less_join w {a} {b} p q k t h f g = go (dec_lt 0 (get_or a.counts t 0))
    where
      go : Dec (0 < get_or a.counts t 0) → Less j t (join w a b)
      go (yes x) = from_first w p q k t x (f x)
      go (no x) =
          let y : 0 < get_or b.counts t 0 = omega (arith, h, ap (λ c. get_or c t 0) (join_counts w a b), get_or_plus t a.counts b.counts (same_types p q)) in
          let e = join_comm w b a in
          subst (Less j t) e (from_first w q p (subst (Fits j) (sym e) k) t y (g y))

  -- a build less a piece of a type that it has, unless it is that piece
  pub one_less : {o : Outline} → Build j o → (t : ℕ) → 0 < get_or o.counts t 0 → 2 ≤ pieces o → Less j t o
  one_less (one m k) t h s = absurd (omega (arith, single_pieces m))
  one_less (beside p q k) t h s = less_join along p q k t h (λ x y. one_less p t x y) (λ x y. one_less q t x y)
  one_less (above p q k) t h s = less_join across p q k t h (λ x y. one_less p t x y) (λ x y. one_less q t x y)

-- P stands for what is wanted of every build
module _ (j : Job) (P : Outline → Type 0) where
  -- of every piece that fits alone
  abbrev pub Starts : Type 0
  Starts = (o : Outline) → (building j).Start o → Fits j o → P o

  -- of every build with these counts
  abbrev pub Class : List ℕ → Type 0
  Class c = (o : Outline) → Build j o → o.counts ≡ c → P o

  -- of the classes that are reached from an outline: one piece more of a type, its last or a later one
  abbrev pub Next : Outline → Type 0
  Next a = (t : ℕ) → t < types j → NoneAfter t a.counts → Class (one_more t a.counts)

  -- of every build with fewer than s pieces
  abbrev pub Below : ℕ → Type 0
  Below s = (o : Outline) → Build j o → pieces o < s → P o

-- outlines in order of their pieces; d stands for what lies past the end of a list
abbrev pub Rising : Outline → List Outline → Type 0
Rising d l = (p q : ℕ) → p < q → q < length l → pieces (get_or l p d) ≤ pieces (get_or l q d)

module _ {j : Job} (typed : All (λ p. Typed j p.type) j.singles) (P : Outline → Type 0) where
  next_step : (n : ℕ) → ((a : Outline) → P a → pieces a < suc n → Next j P a) → ((a : Outline) → Build j a → pieces a ≤ n → P a) → (o : Outline) → Build j o → 2 ≤ pieces o → pieces o ≤ suc n → P o
  next_step n next f o d two h =
      let t = last_type o.counts (omega arith) in
      let r = one_less typed d t.type t.has two in
      let c = r.counts in
      let e : length r.outline.counts ≡ length o.counts = same_types typed r.build d in
      let s : pieces o ≡ suc (pieces r.outline) = sym (ap sum c) ∙ sum_more t.type r.outline.counts (omega (arith, t.among)) in
      let m = f r.outline r.build (omega arith) in
      next r.outline m (omega arith) t.type (omega (arith, t.among, counts_length d)) (none_after_less t.type r.outline.counts (subst (NoneAfter t.type) (sym c) t.last)) o d (sym c)

  -- builds are reached one piece after the other
  reached : Starts j P → (n : ℕ) → ((a : Outline) → P a → pieces a < n → Next j P a) → (o : Outline) → Build j o → pieces o ≤ n → P o
  reached st zero next o d h = absurd (omega (arith, some_pieces typed d))
  reached st (suc n) next o (one m k) h = st o m k
  reached st (suc n) next o (beside p q k) h = next_step n next (reached st n (λ a m x. next a m (omega arith))) o (beside p q k) (omega (arith, join_pieces typed along p q, some_pieces typed p, some_pieces typed q)) h
  reached st (suc n) next o (above p q k) h = next_step n next (reached st n (λ a m x. next a m (omega arith))) o (above p q k) (omega (arith, join_pieces typed across p q, some_pieces typed p, some_pieces typed q)) h

  -- a list that holds what has P
  module _ (d : Outline) (l : List Outline) (here : (o : Outline) → P o → Memᴰ o l) (st : Starts j P) where
    -- it is walked in order of pieces: every build has P that has no more pieces than the outline at which the walk has come
    pub below_in : Rising d l → (p : ℕ) → ((q : ℕ) → q < p → Next j P (get_or l q d)) → Below j P (suc (pieces (get_or l p d)))
    below_in rise p next o b h = reached st (pieces (get_or l p d)) (λ a m x. go a x (index d (here a m))) o b (omega arith)
      where
        before : (q : ℕ) → q < length l → pieces (get_or l q d) < pieces (get_or l p d) → Dec (q < p) → q < p
        before q k x (yes y) = y
        before q k x (no y) = absurd (after (dec_lt p q))
          where
            after : Dec (p < q) → ⊥
            after (yes z) = omega (arith, rise p q z k)
            after (no z) = let e : p ≡ q = omega arith in omega (arith, ap (λ i. pieces (get_or l i d)) e)

        go : (a : Outline) → pieces a < pieces (get_or l p d) → (i : ℕ) × (i < length l) × (get_or l i d ≡ a) → Next j P a
        go a x r = subst (Next j P) r.2 (next r.0 (before r.0 r.1 (omega (arith, ap pieces r.2)) (dec_lt r.0 p)))

    -- walked to its end, every build has P
    pub all_in : ((q : ℕ) → q < length l → Next j P (get_or l q d)) → (o : Outline) → Build j o → P o
    all_in next o b = reached st (pieces o) (λ a m x. let r = index d (here a m) in subst (Next j P) r.2 (next r.0 r.1)) o b (omega arith)

-- joins in one way associate, so that the first half of one may be kept to builds with another last step
abbrev pub turned : Way → Way
turned along = across
turned across = along

-- a piece alone, or a build whose last step is a join in this way
pub data Ends (j : Job) (w : Way) : Outline → Type 0 where
  ends_alone : {o : Outline} → (building j).Start o → Fits j o → Ends j w o
  ends_join : {a b : Outline} → Build j a → Build j b → Fits j (join w a b) → Ends j w (join w a b)

pub ends_build : {j : Job} {w : Way} {o : Outline} → Ends j w o → Build j o
ends_build (ends_alone m k) = one m k
ends_build {w = w} (ends_join p q k) = made_join w p q k

plus_assoc : (a b c : List ℕ) → plus (plus a b) c ≡ plus a (plus b c)
plus_assoc [] b c = refl
plus_assoc (x ∷ a) [] c = refl
plus_assoc (x ∷ a) (y ∷ b) [] = refl
plus_assoc (x ∷ a) (y ∷ b) (z ∷ c) = let e : x + y + z ≡ x + (y + z) = omega arith in λ i. e i ∷ plus_assoc a b c i

join_assoc : (w : Way) (a b c : Outline) → join w (join w a b) c ≡ join w a (join w b c)
join_assoc along a b c =
    let l : a.long + b.long + c.long ≡ a.long + (b.long + c.long) = omega arith in
    let m : max (max a.wide b.wide) c.wide ≡ max a.wide (max b.wide c.wide) = omega arith in
    λ i. record { long = l i; wide = m i; counts = plus_assoc a.counts b.counts c.counts i }
join_assoc across a b c =
    let l : a.wide + b.wide + c.wide ≡ a.wide + (b.wide + c.wide) = omega arith in
    let m : max (max a.long b.long) c.long ≡ max a.long (max b.long c.long) = omega arith in
    λ i. record { long = m i; wide = l i; counts = plus_assoc a.counts b.counts c.counts i }

at_most_second : (a b d : List ℕ) → length a ≡ length b → AtMost (plus a b) d → AtMost b d
at_most_second [] [] d e h = tt
at_most_second [] (y ∷ b) d e h = absurd (omega arith)
at_most_second (x ∷ a) [] d e h = absurd (omega arith)
at_most_second (x ∷ a) (y ∷ b) [] e h = absurd h
at_most_second (x ∷ a) (y ∷ b) (z ∷ d) e h = (omega (arith, h.0), at_most_second a b d (omega arith) h.1)

fits_second : {j : Job} (w : Way) (a b : Outline) → length a.counts ≡ length b.counts → Fits j (join w a b) → Fits j b
fits_second {j} along a b e f = record { long = omega (arith, f.long); wide = omega (arith, f.wide); counts = at_most_second a.counts b.counts j.demands e f.counts }
fits_second {j} across a b e f = record { long = omega (arith, f.long); wide = omega (arith, f.wide); counts = at_most_second a.counts b.counts j.demands e f.counts }

length_join : (w : Way) (a b : Outline) → length a.counts ≡ length b.counts → length (join w a b).counts ≡ length a.counts
length_join w a b e = ap length (join_counts w a b) ∙ length_plus a.counts b.counts e

-- a join in a way, its first half of another last step
pub record Split (j : Job) (w : Way) (o : Outline) : Type 0 where
  pub first : Outline
  pub rest : Outline
  pub ends : Ends j (turned w) first
  pub build : Build j rest
  pub whole : join w first rest ≡ o

module _ {j : Job} (typed : All (λ p. Typed j p.type) j.singles) where
  -- the second and the third of three go together
  later_two : (w : Way) {a b c : Outline} → Build j a → Build j b → Build j c → Fits j (join w (join w a b) c) → Fits j (join w b c)
  later_two w {a} {b} {c} p q r f =
      fits_second w a (join w b c) (same_types typed p q ∙ sym (length_join w b c (same_types typed q r))) (subst (Fits j) (join_assoc w a b c) f)

  split : (w : Way) {a b : Outline} → Build j a → Build j b → Fits j (join w a b) → Split j w (join w a b)
  split w {a} {b} (one m k) q f = record { first = a; rest = b; ends = ends_alone m k; build = q; whole = refl }
  split along {b = b} (beside {a = x} {b = y} p r k) q f =
      let g = later_two along p r q f in
      let e = join_assoc along x y b in
      subst (Split j along) (sym e) (split along p (beside r q g) (subst (Fits j) e f))
  split along {a} {b} (above p r k) q f = record { first = a; rest = b; ends = ends_join p r k; build = q; whole = refl }
  split across {a} {b} (beside p r k) q f = record { first = a; rest = b; ends = ends_join p r k; build = q; whole = refl }
  split across {b = b} (above {a = x} {b = y} p r k) q f =
      let g = later_two across p r q f in
      let e = join_assoc across x y b in
      subst (Split j across) (sym e) (split across p (above r q g) (subst (Fits j) e f))

  -- the rest of a split, split in turn, or with that other last step itself
  again : (w : Way) {o : Outline} → Build j o → Ends j (turned w) o ⊎ Split j w o
  again w (one m k) = inl (ends_alone m k)
  again along (beside p q k) = inr (split along p q k)
  again along (above p q k) = inl (ends_join p q k)
  again across (beside p q k) = inl (ends_join p q k)
  again across (above p q k) = inr (split across p q k)

  pub record Halved (w : Way) (o : Outline) : Type 0 where
    pub parts : Split j w o
    pub half : 2 * pieces parts.first ≤ pieces o

  -- and one with at most half the pieces can be taken for the first half
  pub halved : (w : Way) {a b : Outline} → Build j a → Build j b → Fits j (join w a b) → Halved w (join w a b)
  halved w {a} {b} p q f = go (split w p q f) (dec_le (2 * pieces (split w p q f).first) (pieces (join w a b)))
    where
      swapped : (s : Split j w (join w a b)) → pieces (join w a b) < 2 * pieces s.first → Ends j (turned w) s.rest ⊎ Split j w s.rest → Halved w (join w a b)
      swapped s h (inl e) = record {
        parts = record { first = s.rest; rest = s.first; ends = e; build = ends_build s.ends; whole = join_comm w s.rest s.first ∙ s.whole };
        half = omega (arith, join_pieces typed w (ends_build s.ends) s.build, ap pieces s.whole);
      }
      swapped s h (inr r) =
          let x = ends_build s.ends in
          let y = ends_build r.ends in
          let e : join w r.first (join w s.first r.rest) ≡ join w a b =
          sym (join_assoc w r.first s.first r.rest) ∙ ap (λ u. join w u r.rest) (join_comm w r.first s.first) ∙ join_assoc w s.first r.first r.rest ∙ ap (join w s.first) r.whole ∙ s.whole in
          let k = fits_second w r.first (join w s.first r.rest) (same_types typed y x ∙ sym (length_join w s.first r.rest (same_types typed x r.build))) (subst (Fits j) (sym e) f) in
          record {
            parts = record { first = r.first; rest = join w s.first r.rest; ends = r.ends; build = made_join w x r.build k; whole = e };
            half = omega (arith, join_pieces typed w x s.build, ap pieces s.whole, join_pieces typed w y r.build, ap pieces r.whole);
          }

      go : (s : Split j w (join w a b)) → Dec (2 * pieces s.first ≤ pieces (join w a b)) → Halved w (join w a b)
      go s (yes h) = record { parts = s; half = h }
      go s (no h) = swapped s (omega arith) (again w s.build)

-- a list of outlines with marks: M w o if o is marked as a build that ends in way w
pub record Marked (j : Job) (l : List Outline) (M : Way → Outline → Type 0) (o : Outline) : Type 0 where
  pub here : Memᴰ o l
  pub marks : (w : Way) → Ends j w o → M w o

module _ {j : Job} (typed : All (λ p. Typed j p.type) j.singles) (l : List Outline) (M : Way → Outline → Type 0) (c : List ℕ) where
  module _ (below : Below j (Marked j l M) (sum c))
      (pairs : (w : Way) (a b : Outline) → M (turned w) a → Memᴰ b l → plus a.counts b.counts ≡ c → 2 * pieces a ≤ sum c → Fits j (join w a b) → Memᴰ (join w a b) l × M w (join w a b)) where
    join_in : (w : Way) {a b : Outline} → Build j a → Build j b → Fits j (join w a b) → (join w a b).counts ≡ c → Memᴰ (join w a b) l × M w (join w a b)
    join_in w {a} {b} p q k e =
        let s = halved typed w p q k in
        let t = s.parts in
        let x = ends_build t.ends in
        let v = t.whole in
        let z : pieces t.first + pieces t.rest ≡ sum c = sym (join_pieces typed w x t.build) ∙ ap pieces v ∙ ap sum e in
        let f = (below t.first x (omega (arith, some_pieces typed t.build))).marks (turned w) t.ends in
        let g = (below t.rest t.build (omega (arith, some_pieces typed x))).here in
        subst (λ u. Memᴰ u l × M w u) v (pairs w t.first t.rest f g (sym (join_counts w t.first t.rest) ∙ ap (λ (u : Outline). u.counts) v ∙ e) (omega (arith, s.half, ap sum e)) (subst (Fits j) (sym v) k))

    marks_in : 2 ≤ sum c → (o : Outline) → o.counts ≡ c → (w : Way) → Ends j w o → M w o
    marks_in two o e w (ends_alone m k) = absurd (omega (arith, single_pieces typed m, ap sum e))
    marks_in two o e w (ends_join p q k) = (join_in w p q k e).1

    -- a class is complete when the joins of all pairs that add up to its counts are in the list, and marked:
    -- the first half with at most half of the pieces, and marked as one that ends in the other way
    pub class_in : 2 ≤ sum c → Class j (Marked j l M) c
    class_in two o (one m k) e = absurd (omega (arith, single_pieces typed m, ap sum e))
    class_in two o (beside p q k) e = record { here = (join_in along p q k e).0; marks = marks_in two o e }
    class_in two o (above p q k) e = record { here = (join_in across p q k e).0; marks = marks_in two o e }
