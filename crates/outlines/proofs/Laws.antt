-- What each step of listing does to the records of the arena. Assumes nothing.
use mathlib.Core.Path.{◌≡◌, refl, sym, ap, ap₂, ◌∙◌, subst}
use mathlib.Core.Bool.{true, false, true≢false}
use mathlib.Core.List.Memᴰ
use mathlib.Core.List.{List, [], ◌∷◌, ◌++◌, append-nil, append_assoc, Memᴰ}
use Prim.Native.Nat.{ℕ, zero, suc, ◌+◌, ◌≤◌, ◌<◌}
use native.Mathlib.Omega.{arith}
use native.Mathlib.Numerals.{add-one}
use borrow.Author.Count.{below_more}
use lib.ListN.{length, get_or, length-append, length-map, get_or-append, get_or-map}
use Rattle.rules.specs.Bag.{nil}
use Rattle.rules.specs.Made.{no_one, one}
use Rattle.rules.specs.Job as rules
use Rattle.rules.specs.Numbers.{PieceType, no_type, grown, singles_from}
use Rattle.rules.specs.Planner.{room_of}
use Rattle.rules.proofs.Bags.{index, all_at, mem_map, from_map, map-append}
use Rattle.rules.proofs.Bridge.{join, made_join}
use Rattle.rules.proofs.Listing.{made_kept}
use Rattle.rules.proofs.Outlines.{fits, fits_true, true_fits, same_outline, same_eq, eq_same}
use Rattle.rules.proofs.Unfold.{Rec, no_rec, at, MadeBy}
use Rattle.shapes.specs.declared.Job.{Job}
use Rattle.shapes.specs.Handed.{numbers_of, JobInRange}
use Rattle.outline.specs.declared.Outline.{Outline}
use Rattle.outline.specs.declared.Way as code
use Rattle.outline.specs.Stands.{job_for, piece_at, outline_of, way_of, Few, Joins, Alone, Sized, two_bytes}
use Rattle.outline.proofs.Laws.{count_types, fits_few, single_at}
use Rattle.arena.specs.declared.How.TheVariants.{Piece, Joined}
use Rattle.arena.specs.declared.Record.{Record}
use Rattle.outline.specs.declared.Way.TheVariants.{Beside, Above}
use Rattle.arena.specs.Bytes.{link_of}
use Rattle.arena.specs.Records.{record_at, maker_of, rec_of, recs, Storable, Stored, Loaded}
use Rattle.arena.proofs.Laws.{length_recs, recs_at, recs_more}
use Rattle.outlines.specs.Listing.{recs_in, outlines_of, outlines_in, no_outline, Building, Sound, Held, Holds, Ready, Addable, Joinable, OutlineIn, SingleIn, JoinIn, StartsIn, Grown, TooMany}
use Rattle.outlines.proofs.Lists.{mem_at, sound_more, too_many_with}

-- the outlines of records
pub length_outlines : (job : Job) (s : List ℕ) (n : ℕ) → length (outlines_in job s n) ≡ n
length_outlines job s n = length-map (recs_in job s n) (λ (x : Rec). x.outline) ∙ length_recs job.count n s

pub outline_at_lem : (k : ℕ) (s : List ℕ) (n i : ℕ) → i < n → get_or (outlines_of (recs k n s)) i no_outline ≡ outline_of k (record_at s i).outline
outline_at_lem k s n i h = get_or-map (λ (x : Rec). x.outline) (recs k n s) i no_rec ∙ ap (λ (x : Rec). x.outline) (recs_at k n s i h)

-- looking for an outline
module _ (k : ℕ) (s : List ℕ) (n : ℕ) (o : rules.Outline) where
  pub found_at : (i : ℕ) → i < n → same_outline o (outline_of k (record_at s i).outline) ≡ true → Holds k s n o
  found_at i h e =
      let l = length-map (recs k n s) (λ (x : Rec). x.outline) ∙ length_recs k n s in
      Memᴰ.cast (same_eq _ _ e ∙ sym (outline_at_lem k s n i h)) (mem_at no_outline (outlines_of (recs k n s)) i (omega arith))

  pub not_found : ((i : ℕ) → i < n → same_outline o (outline_of k (record_at s i).outline) ≡ false) → Holds k s n o → ⊥
  not_found f m =
      let r = index no_outline m in
      let l = length-map (recs k n s) (λ (x : Rec). x.outline) ∙ length_recs k n s in
      let h : r.0 < n = omega (arith, r.1) in
      true≢false (sym (eq_same o) ∙ ap (same_outline o) (sym r.2 ∙ outline_at_lem k s n r.0 h) ∙ f r.0 h)

-- growing
module _ (job : Job) where
  pub grown_self : {P : List rules.Outline → Type 0} (s : List ℕ) (n : ℕ) → Held job s n → P (outlines_in job s n) → Grown job P s n s n
  grown_self s n h p = record { held = h; behind = []; stay = sym (append-nil (recs_in job s n)); has = p }

  pub outlines_stay : {P : List rules.Outline → Type 0} {s t : List ℕ} {n m : ℕ} (g : Grown job P s n t m) → outlines_in job t m ≡ outlines_in job s n ++ outlines_of g.behind
  outlines_stay {s = s} {n = n} g = ap outlines_of g.stay ∙ map-append (λ (x : Rec). x.outline) (recs_in job s n) g.behind

  pub grown_le : {P : List rules.Outline → Type 0} {s t : List ℕ} {n m : ℕ} → Grown job P s n t m → n ≤ m
  grown_le {s = s} {t = t} {n = n} {m = m} g =
      omega (arith, ap length g.stay, length-append (recs_in job s n) g.behind, length_recs job.count n s, length_recs job.count m t)

  -- one step behind another: what held before still holds where others come behind
  pub grown_then : {P Q R : List rules.Outline → Type 0} {s t u : List ℕ} {n m k : ℕ} → ((l b : List rules.Outline) → length l ≡ m → P l → Q (l ++ b) → R (l ++ b)) → Grown job P s n t m → Grown job Q t m u k → Grown job R s n u k
  grown_then {Q = Q} {R = R} {s = s} {t = t} {n = n} {m = m} f g h =
      let e = outlines_stay h in
      record {
        held = h.held;
        behind = g.behind ++ h.behind;
        stay = h.stay ∙ ap (λ l. l ++ h.behind) g.stay ∙ append_assoc (recs_in job s n) g.behind h.behind;
        has = subst R (sym e) (f (outlines_in job t m) (outlines_of h.behind) (length_outlines job t m) g.has (subst Q e h.has));
      }

  pub too_many_then : (s t : List ℕ) → length t ≡ length s → TooMany job t → TooMany job s
  too_many_then s t e m = (m.0, m.1, m.2, m.3 ∙ ap (λ n. suc (room_of n)) e)

-- adding a record
module _ (job : Job) (s : List ℕ) (n : ℕ) (r : Record) (a : Addable job s n r) where
  pub build_sized : Sized r.outline
  build_sized =
      let f = made_kept a.build in
      let z = a.ready.range.numbers in
      record { long = omega (arith, f.long, z.long.high); wide = omega (arith, f.wide, z.wide.high) }

  pub storable : (n ≡ room_of (length s) → ⊥) → Storable s n r
  storable h =
      record {
        room = omega (arith, a.ready.held.room);
        sized = build_sized;
        first = a.first;
        second = a.second;
      }

  made_there : MadeBy (job_for job) (recs_in job s n) (length (recs_in job s n)) (outline_of job.count r.outline) (maker_of r.outline r.how)
  made_there = subst (λ i. MadeBy (job_for job) (recs_in job s n) i (outline_of job.count r.outline) (maker_of r.outline r.how)) (sym (length_recs job.count n s)) a.made

  pub added : (t : List ℕ) → (n ≡ room_of (length s) → ⊥) → (Holds job.count s n (outline_of job.count r.outline) → ⊥) → Stored n r s t → Grown job (OutlineIn job r) s n t (n + 1)
  added t full new w =
      let e = recs_more job.count n r s t w in
      record {
        held = record {
          room = omega (arith, a.ready.held.room, ap room_of w.same_length);
          sound = subst (Sound (job_for job)) (sym e) (sound_more (recs_in job s n) (rec_of job.count r) a.ready.held.sound a.build new made_there);
        };
        behind = rec_of job.count r ∷ [];
        stay = e;
        has = subst (λ l. Memᴰ (outline_of job.count r.outline) (outlines_of l)) (sym e) (Memᴰ.cast refl (subst (Memᴰ (outline_of job.count r.outline)) (sym (map-append (λ (x : Rec). x.outline) (recs_in job s n) (rec_of job.count r ∷ []))) (Memᴰ.append_right (outlines_in job s n) (Memᴰ.head refl))));
      }

  pub full_with : n ≡ room_of (length s) → (Holds job.count s n (outline_of job.count r.outline) → ⊥) → TooMany job s
  full_with e new =
      let m = too_many_with (recs_in job s n) (rec_of job.count r) a.ready.held.sound a.build new in
      (m.0, m.1, m.2, m.3 ∙ ap suc (length_recs job.count n s ∙ e))

-- a piece alone
single_mem : (k t : ℕ) (ps : List PieceType) (i : ℕ) → i < length ps → Memᴰ (grown k (t + i) (get_or ps i no_type)) (singles_from k t ps)
single_mem k t [] i h = absurd (omega arith)
single_mem k t (p ∷ ps) zero h = Memᴰ.head (let z : t + 0 ≡ t = omega arith in λ j. grown k (z j) p)
single_mem k t (p ∷ ps) (suc i) h = Memᴰ.tail (Memᴰ.cast (let z : t + suc i ≡ suc t + i = omega arith in λ j. grown k (z j) (get_or ps i no_type)) (single_mem k (suc t) ps i (omega arith)))

module _ (job : Job) (range : JobInRange job) where
  pub piece_mem : (t : ℕ) → t < job.count → Memᴰ (piece_at job t) (job_for job).singles
  piece_mem t h = Memᴰ.cast (let z : suc t ≡ 1 + t = omega arith in λ j. grown job.kerf (z j) (get_or (numbers_of job).types t no_type)) (single_mem job.kerf 1 (numbers_of job).types t (omega (arith, count_types job range)))

  -- all pieces that fit alone, from each of them
  pub all_starts : (l : List rules.Outline) → ((t : ℕ) → t < job.count → SingleIn job t l) → StartsIn job l
  all_starts l f o st k =
      let a = from_map (rules.alone (job_for job)) (job_for job).singles st in
      let q = single_at job range a.1 in
      let e : o ≡ rules.alone (job_for job) (piece_at job q.0) = a.2 ∙ ap (rules.alone (job_for job)) q.2 in
      Memᴰ.cast e (f q.0 q.1 (subst (rules.Fits (job_for job)) e k))

  pub single_addable : (s : List ℕ) (n t : ℕ) (o : Outline) → Ready job s n → t < job.count → Alone job t o → fits (job_for job) (outline_of job.count o) ≡ true → Addable job s n (record { outline = o; how = Piece (t + 1) })
  single_addable s n t o r h al f =
      let e : record { type = t + 1; long = o.length.0; wide = o.width.0 } ≡ piece_at job t = λ i. record { type = add-one t i; long = (al.alone i).long; wide = (al.alone i).wide } in
      record {
        ready = r;
        build = subst (Building job) (sym al.alone) (one (mem_map (rules.alone (job_for job)) (piece_mem t h)) (subst (rules.Fits (job_for job)) al.alone (fits_true _ _ f)));
        made = (Memᴰ.cast e (piece_mem t h), al.alone ∙ ap (rules.alone (job_for job)) (sym e));
        first = omega (arith, range.count);
        second = omega arith;
      }

pub single_in : (job : Job) (t : ℕ) (o : Outline) → Alone job t o → (l : List rules.Outline) → Memᴰ (outline_of job.count o) l → SingleIn job t l
single_in job t o al l m f = Memᴰ.cast (sym al.alone) m

pub single_not : (job : Job) (t : ℕ) (o : Outline) → Alone job t o → fits (job_for job) (outline_of job.count o) ≡ false → (l : List rules.Outline) → SingleIn job t l
single_not job t o al e l f = absurd (true≢false (sym (true_fits _ _ (subst (rules.Fits (job_for job)) (sym al.alone) f)) ∙ e))

-- a join of two records
module _ (job : Job) (s : List ℕ) (n i q : ℕ) (k : Joinable job s n i q) (w : code.Way) (a b : Record) (la : Loaded (record_at s i) a) (lb : Loaded (record_at s q) b) (o : Outline) (jo : Joins (join (way_of w)) a.outline b.outline o) where
  abbrev here : List rules.Outline
  here = outlines_in job s n

  at_one : get_or here i no_outline ≡ outline_of job.count a.outline
  at_one = outline_at_lem job.count s n i k.one ∙ ap (λ (x : Record). outline_of job.count x.outline) (sym la.is)

  at_other : get_or here q no_outline ≡ outline_of job.count b.outline
  at_other = outline_at_lem job.count s n q k.other ∙ ap (λ (x : Record). outline_of job.count x.outline) (sym lb.is)

  build_at : (p : ℕ) → p < n → Building job (get_or here p no_outline)
  build_at p h = all_at k.ready.held.sound.only (mem_at no_outline here p (omega (arith, length_outlines job s n)))

  few_at : (p : ℕ) → p < n → (x : Outline) → get_or here p no_outline ≡ outline_of job.count x → Few job.count x.counts
  few_at p h x e = fits_few job k.ready.range _ (subst (λ (u : rules.Outline). rules.AtMost u.counts (job_for job).demands) e (made_kept (build_at p h)).counts)

  pub is_join : outline_of job.count o ≡ join (way_of w) (get_or here i no_outline) (get_or here q no_outline)
  is_join = jo.joined job.count (few_at i k.one a.outline at_one) (few_at q k.other b.outline at_other) ∙ ap₂ (join (way_of w)) (sym at_one) (sym at_other)

  pub join_addable : fits (job_for job) (outline_of job.count o) ≡ true → Addable job s n (record { outline = o; how = Joined w i q })
  join_addable f =
      let m : (p : ℕ) → get_or here p no_outline ≡ (at (recs_in job s n) p).outline = λ p. get_or-map (λ (x : Rec). x.outline) (recs_in job s n) p no_rec in
      record {
        ready = k.ready;
        build = subst (Building job) (sym is_join) (made_join (way_of w) (build_at i k.one) (build_at q k.other) (subst (rules.Fits (job_for job)) is_join (fits_true _ _ f)));
        made = (k.one, k.other, is_join ∙ ap₂ (join (way_of w)) (m i) (m q));
        first = first w;
        second = second w;
      }
    where
      first : (w : code.Way) → (link_of (Joined w i q)).first < two_bytes
      first Beside = omega (arith, k.one, k.ready.held.room)
      first Above = omega (arith, k.one, k.ready.held.room)

      second : (w : code.Way) → (link_of (Joined w i q)).second < two_bytes
      second Beside = omega (arith, k.other, k.ready.held.room)
      second Above = omega (arith, k.other, k.ready.held.room)

  pub join_not : fits (job_for job) (outline_of job.count o) ≡ false → JoinIn job (way_of w) i q here
  join_not e f = absurd (true≢false (sym (true_fits _ _ (subst (rules.Fits (job_for job)) (sym is_join) f)) ∙ e))

  -- it stands in the list where the records are others'
  pub join_in : (l b : List rules.Outline) → l ≡ here → Memᴰ (outline_of job.count o) (l ++ b) → JoinIn job (way_of w) i q (l ++ b)
  join_in l b e m f =
      let h : (p : ℕ) → p < n → get_or (l ++ b) p no_outline ≡ get_or here p no_outline = λ p hp. get_or-append l b no_outline p (omega (arith, ap length e, length_outlines job s n)) ∙ ap (λ u. get_or u p no_outline) e in
      Memᴰ.cast (ap₂ (join (way_of w)) (h i k.one) (h q k.other) ∙ sym is_join) m

-- before any outline is listed
pub none_held : (job : Job) (s : List ℕ) → Held job s 0
unfolding recs
none_held job s = record { room = omega arith; sound = record { once = no_one; only = nil; valid = λ i h. absurd (omega arith) } }

-- the pieces before t that fit alone stand in the list
abbrev pub SinglesIn : Job → ℕ → List rules.Outline → Type 0
SinglesIn job t l = (u : ℕ) → u < t → SingleIn job u l

pub singles_more : (job : Job) (t m : ℕ) → (l b : List rules.Outline) → length l ≡ m → SinglesIn job t l → SingleIn job t (l ++ b) → SinglesIn job (t + 1) (l ++ b)
singles_more job t m l b e f g = below_more (λ u. SingleIn job u (l ++ b)) t (λ u h k. Memᴰ.append_left b (f u h k)) g

-- the listing of an arena is that of any arena of its length
