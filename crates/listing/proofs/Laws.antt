-- The queue of classes: a class comes behind, the classes that follow one, and the end of the queue. Assumes nothing.
use Rattle.std.specs.Prelude.{Result}
use mathlib.Core.Path.{◌≡◌, refl, sym, ap, ap₂, ◌∙◌, subst}
use mathlib.Core.List.Memᴰ
use mathlib.Core.List.{List, ◌++◌, Memᴰ}
use Prim.Native.Nat.{ℕ, suc, ◌+◌, ◌-◌, ◌*◌, ◌≤◌, ◌<◌}
use native.Mathlib.Omega.{arith}
use native.Mathlib.Decide.{ℕ_discrete, dec_lt}
use lib.ListN.{length, get_or, set, take}
use lib.Seq.{get_or-take, get_or-set_same, set-set, set-get_or}
use Rattle.rules.specs.Bag.{sum}
use Rattle.rules.specs.Box.{Way, along, across}
use Rattle.rules.specs.Job as rules
use Rattle.rules.specs.Planner.{room_of}
use Rattle.rules.proofs.Accept.{job_typed}
use Rattle.rules.proofs.Bags.{index}
use Rattle.rules.proofs.Bridge.{join}
use Rattle.rules.proofs.Classes.{NoneAfter, one_more, more_set, turned, sum_more, some_pieces, one_less, Rising, Next, below_in, all_in}
use Rattle.rules.proofs.Halves.{In, Able, whole_in, whole_over, more_at}
use Rattle.rules.proofs.Outlines.{counts_length}
use Rattle.rules.proofs.Tally.{sum_plus}
use Rattle.shapes.specs.declared.Job.{Job}
use Rattle.shapes.specs.Handed.{numbers_of}
use Rattle.outline.specs.declared.Least.{Least}
use Rattle.outline.specs.Stands.{job_for, outline_of, LeastOf, least_by}
use Rattle.outline.proofs.Laws.{types_count, demand_at, least_of, no_piece}
use Rattle.arena.specs.Records.{record_at, link_at}
use Rattle.arena.proofs.Laws.{recs_same}
use Rattle.classes.specs.Directory.{end_link, Begins, Turn, Class, less_of, Lacking, Entered, counts_at, Enterable}
use Rattle.classes.proofs.Laws.{class_at, next_begins, directory_kept}
use Rattle.sorting.specs.Merging.{BothOrders}
use Rattle.outlines.specs.declared.ArenaFull.{ArenaFull}
use Rattle.outlines.specs.Listing.{recs_in, outlines_in, outlines_of, no_outline, Sound, Held, Ready, AllListed}
use Rattle.outlines.proofs.Laws.{length_outlines, outline_at_lem, grown_self, grown_le, grown_then, outlines_stay}
use Rattle.growing.specs.Growing.{Came, Growing}
use Rattle.growing.proofs.Laws.{nothing_grows}
use Rattle.pairing.specs.Pairs.{outline_at, key_at, AbleAt, IdleAt, Idle, Standing}
use Rattle.halving.specs.Halves.{Sought, PairsBefore}
use Rattle.pairing.proofs.Laws.{build_at, key_length}
use Rattle.listing.specs.declared.Halves.{Halves}
use Rattle.listing.specs.Queue.{pieces_at, WholeIn, BelowIn, NextIn, Classed, Queued, HalfAt, HalvesAt, Passing, Passed, Followed, Follows, Target, Source}

-- what holds of a list holds where others come behind
whole_more : (job : Job) {c : List ℕ} (l b : List rules.Outline) → WholeIn job c l → WholeIn job c (l ++ b)
whole_more job l b f o d e = Memᴰ.append_left b (f o d e)

-- the pieces of a record
some_at : {job : Job} {s : List ℕ} {n : ℕ} → Ready job s n → (i : ℕ) → i < n → 1 ≤ pieces_at job s i
some_at {job} r i h = some_pieces (job_typed (numbers_of job)) (build_at r i h)

-- one piece less than one piece more
less_more : (t : ℕ) (a c : List ℕ) → one_more t a ≡ c → t < length a → a ≡ less_of c t
less_more t a c e l =
    let f = sym e ∙ more_set t a in
    let g : get_or c t 0 - 1 ≡ get_or a t 0 = omega (arith, ap (λ v. get_or v t 0) f, get_or-set_same a t (suc (get_or a t 0)) 0 l) in
    sym (ap (λ v. set c t v) g ∙ ap (λ v. set v t (get_or a t 0)) f ∙ set-set a t (suc (get_or a t 0)) (get_or a t 0) ∙ set-get_or a t 0)

-- the same records, so that the list is the same
module _ (job : Job) (s t : List ℕ) (n : ℕ) (len : length t ≡ length s) (same : (i : ℕ) → i < n → record_at t i ≡ record_at s i) where
  pub recs_stay : recs_in job t n ≡ recs_in job s n
  recs_stay = recs_same job.count n t s same

  pub held_stays : Held job s n → Held job t n
  held_stays h = record { room = omega (arith, h.room, ap room_of len); sound = subst (Sound (job_for job)) (sym recs_stay) h.sound }

  pub key_same : (i : ℕ) → i < n → key_at job t i ≡ key_at job s i
  key_same i h = ap (λ u. take job.count u.outline.counts) (same i h)

-- the class with counts c has grown, and is closed
module _ {job : Job} {least : Least} {s : List ℕ} {start half : ℕ} {c : List ℕ} (h : Target job least s start half c) {t u : List ℕ} {n : ℕ} (g : Came job start c (PairsBefore job least s start c half) s start t n) (k : Entered job.count n t u) where
  abbrev list : List rules.Outline
  list = outlines_in job t n

  abbrev before : List rules.Outline
  before = outlines_in job s start

  grows : list ≡ before ++ outlines_of g.grown.behind
  grows = outlines_stay job g.grown

  ready : Ready job t n
  ready = record { range = h.classed.ready.range; held = g.grown.held }

  old_key : (i : ℕ) → i < start → key_at job t i ≡ key_at job s i
  old_key i x = ap (λ r. take job.count r.outline.counts) (g.kept.records i x)

  -- a part of the counts is of a class before
  part_old : (i : ℕ) → i < n → pieces_at job t i < sum c → i < start
  part_old i x y = go (dec_lt i start)
    where
      go : Dec (i < start) → i < start
      go (yes z) = z
      go (no z) = absurd (omega (arith, y, ap sum (g.growing.counts i (omega arith) x)))

  joins : (w : Way) (a b : rules.Outline) → Memᴰ a list → Able (λ v. least_by v least) (turned w) a → Memᴰ b list → rules.plus a.counts b.counts ≡ c → 2 * rules.pieces a ≤ sum c → rules.Fits (job_for job) (join w a b) → Memᴰ (join w a b) list
  joins w a b ma able mb e two fit = go (index no_outline ma) (index no_outline mb)
    where
      -- it stands before half, or need not be tried
      tried : (i q : ℕ) → i < start → q < start → 2 * pieces_at job s i ≤ sum c → AbleAt job least s i w → rules.Fits (job_for job) (join w (outline_at job s i) (outline_at job s q)) → (i < half → Memᴰ (join w a b) list) → Dec (i < half) → Memᴰ (join w a b) list
      tried i q si sq few able-i f r (yes x) = r x
      tried i q si sq few able-i f r (no x) = absurd (h.half_at.beyond i (omega arith) si few w able-i (outline_at job s q) (build_at h.classed.ready q sq) f)

      go : (i : ℕ) × (i < length list) × (get_or list i no_outline ≡ a) → (q : ℕ) × (q < length list) × (get_or list q no_outline ≡ b) → Memᴰ (join w a b) list
      go (i, li, ei) (q, lq, eq) =
          let hi : i < n = omega (arith, length_outlines job t n) in
          let hq : q < n = omega (arith, length_outlines job t n) in
          let oi : outline_at job t i ≡ a = sym (outline_at_lem job.count t n i hi) ∙ ei in
          let oq : outline_at job t q ≡ b = sym (outline_at_lem job.count t n q hq) ∙ eq in
          let ki = ap (λ (o : rules.Outline). o.counts) oi in
          let kq = ap (λ (o : rules.Outline). o.counts) oq in
          let p : pieces_at job t i + pieces_at job t q ≡ sum c =
          sym (sum_plus (key_at job t i) (key_at job t q) (key_length ready i hi ∙ sym (key_length ready q hq))) ∙ ap sum (ap₂ rules.plus ki kq ∙ e) in
          let si : i < start = part_old i hi (omega (arith, p, some_at ready q hq)) in
          let sq : q < start = part_old q hq (omega (arith, p, some_at ready i hi)) in
          let few : 2 * pieces_at job s i ≤ sum c = omega (arith, two, ap sum ki, ap sum (old_key i si)) in
          let able-i = subst (Able (λ v. least_by v least) (turned w)) (sym oi ∙ ap (λ r. outline_of job.count r.outline) (g.kept.records i si)) able in
          let pair = ap₂ rules.plus (sym (old_key i si) ∙ ki) (sym (old_key q sq) ∙ kq) ∙ e in
          let j = ap₂ (join w) ei eq in
          let old : (k : ℕ) → k < start → outline_at job t k ≡ outline_at job s k = λ k x. ap (λ r. outline_of job.count r.outline) (g.kept.records k x) in
          tried i q si sq few able-i (subst (rules.Fits (job_for job)) (ap₂ (join w) (sym oi ∙ old i si) (sym oq ∙ old q sq)) fit) (λ x. Memᴰ.cast (sym j) (g.grown.has i x w q sq pair able-i (subst (rules.Fits (job_for job)) (sym j) fit))) (dec_lt i half)

  whole_list : WholeIn job c list
  whole_list = whole_in (job_typed (numbers_of job)) (λ v. least_by v least) (λ w. least_of job h.classed.ready.range w least h.least_of) list g.grown.held.sound.only c h.two
      (λ o d x. subst (Memᴰ o) (sym grows) (Memᴰ.append_left (outlines_of g.grown.behind) (h.below o d x))) joins

  same : recs_in job u n ≡ recs_in job t n
  same = recs_stay job t u n k.same_length (λ i _. k.records i)

  list_is : outlines_in job u n ≡ before ++ outlines_of g.grown.behind
  list_is = ap outlines_of same ∙ grows

  whole_now : WholeIn job c (outlines_in job u n)
  whole_now = subst (WholeIn job c) (ap outlines_of (sym same)) whole_list

  key_now : (i : ℕ) → key_at job u i ≡ key_at job t i
  key_now i = ap (λ r. take job.count r.outline.counts) (k.records i)

  new_key : (q : ℕ) → start ≤ q → q < n → key_at job u q ≡ c
  new_key q x y = key_now q ∙ g.growing.counts q x y

  kept_key : (q : ℕ) → q < start → key_at job u q ≡ key_at job s q
  kept_key q x = key_now q ∙ old_key q x

  pub target_done : Followed job (WholeIn job c) (sum c) s start u n
  target_done = record {
    grown = record { held = held; behind = g.grown.behind; stay = same ∙ g.grown.stay; has = whole_now };
    classed = record {
      ready = record { range = h.classed.ready.range; held = held };
      directory = k.directory;
      starts = λ o st f. subst (Memᴰ o) (sym list_is) (Memᴰ.append_left (outlines_of g.grown.behind) (h.classed.starts o st f));
      whole = λ q x. each q x (dec_lt q start);
      rising = λ p q x y. order p q x y (dec_lt p start) (dec_lt q start);
    };
    same_length = k.same_length ∙ g.kept.same_length;
    records = λ i x. k.records i ∙ g.kept.records i x;
    new = λ q x y. ap sum (new_key q x y);
    turn = λ x q y e. g.growing.before q y (sym (key_now q) ∙ e ∙ new_key start (omega arith) x);
  }
    where
      held : Held job u n
      held = held_stays job t u n k.same_length (λ i _. k.records i) g.grown.held

      each : (q : ℕ) → q < n → Dec (q < start) → WholeIn job (key_at job u q) (outlines_in job u n)
      each q x (yes y) = subst (λ v. WholeIn job v (outlines_in job u n)) (sym (kept_key q y)) (subst (WholeIn job (key_at job s q)) (sym list_is) (whole_more job before (outlines_of g.grown.behind) (h.classed.whole q y)))
      each q x (no y) = subst (λ v. WholeIn job v (outlines_in job u n)) (sym (new_key q (omega arith) x)) whole_now

      order : (p q : ℕ) → p < q → q < n → Dec (p < start) → Dec (q < start) → pieces_at job u p ≤ pieces_at job u q
      order p q x y (yes a) (yes b) = omega (arith, h.classed.rising p q x b, ap sum (kept_key p a), ap sum (kept_key q b))
      order p q x y (yes a) (no b) = omega (arith, h.top p a, ap sum (kept_key p a), ap sum (new_key q (omega arith) y))
      order p q x y (no a) (yes b) = absurd (omega arith)
      order p q x y (no a) (no b) = omega (arith, ap sum (new_key p (omega arith) (omega arith)), ap sum (new_key q (omega arith) y))

-- nothing comes
pub followed_self : {job : Job} {P : List rules.Outline → Type 0} {k : ℕ} {s : List ℕ} {n : ℕ} → Classed job s n → P (outlines_in job s n) → Followed job P k s n s n
followed_self {job} {s = s} {n = n} c p = record { grown = grown_self job s n c.ready.held p; classed = c; same_length = refl; records = λ i h. refl; new = λ q x y. absurd (omega arith); turn = λ x. absurd (omega arith) }

-- the same step ends with another fact
pub followed_with : {job : Job} {P R : List rules.Outline → Type 0} {k : ℕ} {s t : List ℕ} {n m : ℕ} → Followed job P k s n t m → R (outlines_in job t m) → Followed job R k s n t m
followed_with g r = record { grown = record { held = g.grown.held; behind = g.grown.behind; stay = g.grown.stay; has = r }; classed = g.classed; same_length = g.same_length; records = g.records; new = g.new; turn = g.turn }

-- one step behind another
pub followed_then : {job : Job} {P Q R : List rules.Outline → Type 0} {k : ℕ} {s t u : List ℕ} {n m r : ℕ} → ((l b : List rules.Outline) → length l ≡ m → P l → Q (l ++ b) → R (l ++ b)) → Followed job P k s n t m → Followed job Q k t m u r → Followed job R k s n u r
followed_then {job} {k = k} {t = t} {u = u} {n = n} {m = m} {r = r} f g h =
    let le = grown_le job g.grown in
    record {
      grown = grown_then job f g.grown h.grown;
      classed = h.classed;
      same_length = h.same_length ∙ g.same_length;
      records = λ i x. h.records i (omega arith) ∙ g.records i x;
      new = λ q x y. each q x y (dec_lt q m);
      turn = λ x. first x (dec_lt n m);
    }
  where
    key_in : (q : ℕ) → q < m → key_at job u q ≡ key_at job t q
    key_in q x = ap (λ v. take job.count v.outline.counts) (h.records q x)

    first : n < r → Dec (n < m) → Begins job.count u n
    first x (yes y) = λ q z e. g.turn y q z (sym (key_in q (omega arith)) ∙ e ∙ key_in n y)
    first x (no y) = let e : m ≡ n = omega (arith, grown_le job g.grown) in subst (Begins job.count u) e (h.turn (omega arith))

    each : (q : ℕ) → n ≤ q → q < r → Dec (q < m) → pieces_at job u q ≡ k
    each q x y (yes z) = ap (λ v. sum (take job.count v.outline.counts)) (h.records q z) ∙ g.new q x z
    each q x y (no z) = h.new q (omega arith) y

-- counts that no record has: a class of them can grow behind
pub sought : {job : Job} {least : Least} {s : List ℕ} {n half : ℕ} {c : List ℕ} → Target job least s n half c → ((q : ℕ) → q < n → key_at job s q ≡ c → ⊥) → Sought job least s n half c
sought h f = record {
  least_of = h.least_of;
  ready = h.classed.ready;
  growing = nothing_grows h.classed.directory f;
  turn = h.half_at.turn;
  few = h.half_at.few;
}

-- a build less a piece is a build, with fewer pieces, and so it is listed: where its class is not there, no build has the counts
pub target_none : {job : Job} {least : Least} {s : List ℕ} {n half : ℕ} {c : List ℕ} → Target job least s n half c → Lacking job.count s n c → Followed job (WholeIn job c) (sum c) s n s n
target_none {job} {s = s} {n = n} {c = c} h k = followed_self h.classed (λ o b e. absurd (none o b e))
  where
    none : (o : rules.Outline) → rules.Build (job_for job) o → o.counts ≡ c → ⊥
    none o b e =
        let two = h.two in
        let r = one_less (job_typed (numbers_of job)) b k.type (omega (arith, k.has, ap (λ l. get_or l k.type 0) e)) (omega (arith, ap sum e)) in
        let d = r.counts ∙ e in
        let l = counts_length r.build ∙ types_count job h.classed.ready.range in
        let z : sum c ≡ suc (rules.pieces r.outline) = ap sum (sym d) ∙ sum_more k.type r.outline.counts (omega (arith, k.among)) in
        here r.outline d l (index no_outline (h.below r.outline r.build (omega arith)))
      where
        here : (a : rules.Outline) → one_more k.type a.counts ≡ c → length a.counts ≡ job.count → (i : ℕ) × (i < length (outlines_in job s n)) × (get_or (outlines_in job s n) i no_outline ≡ a) → ⊥
        here a d l (i, li, ei) =
            let x : i < n = omega (arith, length_outlines job s n) in
            let f = ap (λ (u : rules.Outline). u.counts) (sym (outline_at_lem job.count s n i x) ∙ ei) in
            k.none i x (f ∙ less_more k.type a.counts c d (omega (arith, k.among)))

-- a class that is there is whole
-- one piece more than class p
module _ {job : Job} {least : Least} {s : List ℕ} {n half p : ℕ} (h : Source job least s n half p) (t : ℕ) (among : t < job.count) where
  long : length (key_at job s p) ≡ job.count
  long = key_length h.classed.ready p h.here

  pub more_sum : sum (one_more t (key_at job s p)) ≡ suc (pieces_at job s p)
  more_sum = sum_more t (key_at job s p) (omega (arith, long))

  pub count_in : (x : ℕ) → x ≡ get_or (record_at s p).outline.counts t 0 → x ≡ get_or (key_at job s p) t 0
  count_in x e = e ∙ sym (get_or-take job.count (record_at s p).outline.counts t 0 among)

  -- there are as many already as are in demand
  pub none_more : (d x : ℕ) → d ≡ (get_or job.types t no_piece).demand → x ≡ get_or (record_at s p).outline.counts t 0 → d ≤ x → (l : List rules.Outline) → WholeIn job (one_more t (key_at job s p)) l
  none_more d x ed ex le l = whole_over l (one_more t (key_at job s p)) t
      (omega (arith, ed, count_in x ex, le, demand_at job h.classed.ready.range t among, more_at t (key_at job s p) (omega (arith, long))))

  pub source_target : Target job least s n half (one_more t (key_at job s p))
  source_target = record {
    least_of = h.least_of;
    classed = h.classed;
    two = omega (arith, more_sum, some_at h.classed.ready p h.here);
    below = subst (λ k. BelowIn job k (outlines_in job s n)) (sym more_sum) h.below;
    top = λ q x. omega (arith, more_sum, h.top q x);
    half_at = subst (λ k. HalfAt job least s n k half) (sym more_sum) h.half_at;
  }

  pub more_follows : (c : List ℕ) → c ≡ one_more t (key_at job s p) → (u : List ℕ) (r : Result ℕ ArenaFull) → Follows job (WholeIn job c) (sum c) s n u r → Follows job (WholeIn job (one_more t (key_at job s p))) (suc (pieces_at job s p)) s n u r
  more_follows c e u r f = subst (λ k. Follows job (WholeIn job (one_more t (key_at job s p))) k s n u r) more_sum (subst (λ k. Follows job (WholeIn job k) (sum k) s n u r) e f)

-- classes have come behind: what was half is half
module _ {job : Job} {P : List rules.Outline → Type 0} {k : ℕ} {s t : List ℕ} {n m : ℕ} (g : Followed job P k s n t m) where
  grows_by : n ≤ m
  grows_by = grown_le job g.grown

  key_follows : (q : ℕ) → q < n → key_at job t q ≡ key_at job s q
  key_follows q x = ap (λ v. take job.count v.outline.counts) (g.records q x)

  pub in_follows : (o : rules.Outline) → Memᴰ o (outlines_in job s n) → Memᴰ o (outlines_in job t m)
  in_follows o x = subst (Memᴰ o) (sym (outlines_stay job g.grown)) (Memᴰ.append_left (outlines_of g.grown.behind) x)

  pub turn_follows : (p : ℕ) → Turn job.count s n p → Turn job.count t m p
  turn_follows p h = record { upto = omega (arith, h.upto, grows_by); begins = λ x. go (dec_lt p n) x }
    where
      go : Dec (p < n) → p < m → Begins job.count t p
      go (yes x) y = λ q z e. h.begins x q z (sym (key_follows q (omega arith)) ∙ e ∙ key_follows p x)
      go (no x) y = let e : n ≡ p = omega (arith, h.upto) in subst (Begins job.count t) e (g.turn (omega arith))

  -- a record that need not be tried need not be
  idle_follows : (least : Least) (q : ℕ) → q < n → (w : Way) → IdleAt job least s q w → IdleAt job least t q w
  idle_follows least q x w f =
      let e = ap (λ r. outline_of job.count r.outline) (g.records q x) in
      λ able b build fit. f (subst (Able (λ v. least_by v least) (turned w)) e able) b build (subst (λ o. rules.Fits (job_for job) (join w o b)) e fit)

  pub half_follows : {least : Least} {half : ℕ} → 1 ≤ k → HalfAt job least s n k half → HalfAt job least t m k half
  half_follows {least} {half} one h = record {
    turn = turn_follows half h.turn;
    few = λ q x. omega (arith, h.few q x, ap sum (key_follows q (omega (arith, h.turn.upto))));
    beyond = λ q x y z. go q x y z (dec_lt q n);
  }
    where
      go : (q : ℕ) → half ≤ q → q < m → 2 * pieces_at job t q ≤ k → Dec (q < n) → (w : Way) → IdleAt job least t q w
      go q x y z (yes v) w = idle_follows least q v w (h.beyond q x v (omega (arith, z, ap sum (key_follows q v))) w)
      go q x y z (no v) w = absurd (omega (arith, z, g.new q (omega arith) y))

  pub halves_follow : {least : Least} {most more : ℕ} {h : Halves} → most ≤ more → HalvesAt job least s n most h → HalvesAt job least t m more h
  halves_follow {least} l h = record {
    turn = turn_follows _ h.turn;
    tried_turn = turn_follows _ h.tried_turn;
    upto = h.upto;
    few = λ q x. omega (arith, h.few q x, ap sum (key_follows q (omega (arith, h.turn.upto))));
    idle = λ q x y w. idle_follows least q (omega (arith, h.turn.upto)) w (h.idle q x y w);
  }

-- the types from `after` on have been followed, and class p has none of them
pub record Following (job : Job) (least : Least) (s : List ℕ) (n half p : ℕ) (t : List ℕ) (m after : ℕ) : Type 0 where
  pub upto : after ≤ job.count
  pub none : (u : ℕ) → after ≤ u → get_or (key_at job s p) u 0 ≡ 0
  pub followed : Followed job (λ l. (u : ℕ) → after ≤ u → u < job.count → NoneAfter u (key_at job s p) → WholeIn job (one_more u (key_at job s p)) l) (suc (pieces_at job s p)) s n t m

module _ {job : Job} {least : Least} {s : List ℕ} {n half p : ℕ} (h : Source job least s n half p) where
  module _ {t : List ℕ} {m after : ℕ} (g : Following job least s n half p t m after) where
    here_now : key_at job t p ≡ key_at job s p
    here_now = key_follows g.followed p h.here

    pub following_source : Source job least t m half p
    following_source =
        let e = ap sum here_now in
        let k : suc (pieces_at job s p) ≡ suc (pieces_at job t p) = ap suc (sym e) in
        record {
          least_of = h.least_of;
          classed = g.followed.classed;
          here = omega (arith, h.here, grows_by g.followed);
          below = λ o b x. in_follows g.followed o (h.below o b (omega arith));
          top = λ q x. top q x (dec_lt q n);
          half_at = subst (λ v. HalfAt job least t m v half) k (half_follows g.followed (omega arith) h.half_at);
        }
      where
        top : (q : ℕ) → q < m → Dec (q < n) → pieces_at job t q ≤ suc (pieces_at job t p)
        top q x (yes y) = omega (arith, h.top q y, ap sum (key_follows g.followed q y), ap sum here_now)
        top q x (no y) = omega (arith, g.followed.new q (omega arith) x, ap sum here_now)

    module _ (at : ℕ) (is : after ≡ suc at) where
      -- type `at` has been followed too
      pub following_more : (u : List ℕ) (r : ℕ) → Followed job (WholeIn job (one_more at (key_at job t p))) (suc (pieces_at job t p)) t m u r → Followed job (λ l. (v : ℕ) → at ≤ v → v < job.count → NoneAfter v (key_at job s p) → WholeIn job (one_more v (key_at job s p)) l) (suc (pieces_at job s p)) s n u r
      following_more u r f = followed_then (λ l b e x y v. each l b x y v (ℕ_discrete v at)) g.followed
          (subst (λ c. Followed job (WholeIn job (one_more at c)) (suc (sum c)) t m u r) here_now f)
        where
          each : (l b : List rules.Outline) → ((v : ℕ) → after ≤ v → v < job.count → NoneAfter v (key_at job s p) → WholeIn job (one_more v (key_at job s p)) l) → WholeIn job (one_more at (key_at job s p)) (l ++ b) → (v : ℕ) → Dec (v ≡ at) → at ≤ v → v < job.count → NoneAfter v (key_at job s p) → WholeIn job (one_more v (key_at job s p)) (l ++ b)
          each l b x y v (yes e) lo hi no_one = subst (λ w. WholeIn job (one_more w (key_at job s p)) (l ++ b)) (sym e) y
          each l b x y v (no e) lo hi no_one = whole_more job l b (x v (omega arith) hi no_one)

      -- class p has pieces of this type: no earlier one is its last
      pub following_stop : {u : List ℕ} {r : ℕ} → Followed job (λ l. (v : ℕ) → at ≤ v → v < job.count → NoneAfter v (key_at job s p) → WholeIn job (one_more v (key_at job s p)) l) (suc (pieces_at job s p)) s n u r → 0 < get_or (key_at job s p) at 0 → Followed job (NextIn job (key_at job s p)) (suc (pieces_at job s p)) s n u r
      following_stop {u} {r} f some = followed_with f (λ v hi no_one. each v hi no_one (dec_lt v at))
        where
          each : (v : ℕ) → v < job.count → NoneAfter v (key_at job s p) → Dec (v < at) → WholeIn job (one_more v (key_at job s p)) (outlines_in job u r)
          each v hi no_one (yes x) = absurd (omega (arith, some, no_one at x))
          each v hi no_one (no x) = f.grown.has v (omega arith) hi no_one

      pub following_next : {u : List ℕ} {r : ℕ} → Followed job (λ l. (v : ℕ) → at ≤ v → v < job.count → NoneAfter v (key_at job s p) → WholeIn job (one_more v (key_at job s p)) l) (suc (pieces_at job s p)) s n u r → get_or (key_at job s p) at 0 ≡ 0 → Following job least s n half p u r at
      following_next f zero_at = record { upto = omega (arith, g.upto); none = λ v x. each v x (ℕ_discrete v at); followed = f }
        where
          each : (v : ℕ) → at ≤ v → Dec (v ≡ at) → get_or (key_at job s p) v 0 ≡ 0
          each v x (yes e) = ap (λ w. get_or (key_at job s p) w 0) e ∙ zero_at
          each v x (no e) = g.none v (omega arith)

-- nothing is passed
-- a class with at most half of the pieces is passed
module _ {job : Job} {least : Least} {s : List ℕ} {n most : ℕ} {from : Halves} (g : Passing job least s n most from) {h : Halves} (k : HalvesAt job least s n most h) (some : h.passed < n) where
  pub passed_class : Class job.count s n h.passed
  passed_class = class_at g.directory some (k.turn.begins some)

  pub passed_standing : Standing job least s h.passed
  passed_standing = record { least_of = g.least_of; range = g.range; upto = n; room = g.directory.room; class = passed_class }

  module _ (half : 2 * pieces_at job s h.passed ≤ most) where
    next_few : (q : ℕ) → q < link_at s h.passed end_link → Dec (q < h.passed) → 2 * pieces_at job s q ≤ most
    next_few q x (yes y) = k.few q y
    next_few q x (no y) = omega (arith, ap sum (passed_class.same q (omega arith) x))

    next_turn : Turn job.count s n (link_at s h.passed end_link)
    next_turn = record { upto = passed_class.ends; begins = next_begins g.directory passed_class }

    -- it joins
    pub halves_join : HalvesAt job least s n most (record { passed = link_at s h.passed end_link; tried = link_at s h.passed end_link })
    halves_join = record { turn = next_turn; tried_turn = next_turn; upto = omega arith; few = λ q x. next_few q x (dec_lt q h.passed); idle = λ q x y. absurd (omega arith) }

    -- it does not
    pub halves_idle : Idle job least s h.passed along × Idle job least s h.passed across → HalvesAt job least s n most (record { passed = link_at s h.passed end_link; tried = h.tried })
    halves_idle f = record {
      turn = next_turn;
      tried_turn = k.tried_turn;
      upto = omega (arith, k.upto, passed_class.some);
      few = λ q x. next_few q x (dec_lt q h.passed);
      idle = λ q x y. go q x y (dec_lt q h.passed);
    }
      where
        go : (q : ℕ) → h.tried ≤ q → q < link_at s h.passed end_link → Dec (q < h.passed) → (w : Way) → IdleAt job least s q w
        go q x y (yes z) w = k.idle q x z w
        go q x y (no z) along = f.0 q (omega arith) y
        go q x y (no z) across = f.1 q (omega arith) y

-- where all classes with at most half of the pieces have been passed, those that join stand before `tried`
half_at : {job : Job} {least : Least} {s : List ℕ} {n most : ℕ} {halves : Halves} → Classed job s n → Passed job least s n most halves → HalfAt job least s n most halves.tried
half_at {job} {least} {s} {n} {most} {halves} c f = record {
  turn = f.halves.tried_turn;
  few = λ q x. f.halves.few q (omega (arith, f.halves.upto));
  beyond = λ q x y z. go q x y z (dec_lt q halves.passed);
}
  where
    go : (q : ℕ) → halves.tried ≤ q → q < n → 2 * pieces_at job s q ≤ most → Dec (q < halves.passed) → (w : Way) → IdleAt job least s q w
    go q x y z (yes v) w = f.halves.idle q x v w
    go q x y z (no v) w = absurd (late (ℕ_discrete halves.passed q))
      where
        late : Dec (halves.passed ≡ q) → ⊥
        late (yes e) = omega (arith, f.beyond (omega arith), z, ap (pieces_at job s) e)
        late (no e) = omega (arith, f.beyond (omega arith), z, c.rising halves.passed q (omega arith) y)

-- the queue
module _ {job : Job} {s : List ℕ} {n p : ℕ} (h : Queued job s n p) where
  outline_in : (q : ℕ) → q < n → get_or (outlines_in job s n) q no_outline ≡ outline_at job s q
  outline_in q x = outline_at_lem job.count s n q x

  in_order : Rising no_outline (outlines_in job s n)
  in_order i q x y =
      let hq : q < n = omega (arith, length_outlines job s n) in
      omega (arith, h.classed.rising i q x hq, ap rules.pieces (outline_in i (omega arith)), ap rules.pieces (outline_in q hq))

  next_in : (q : ℕ) → q < n → q < p → Next (job_for job) (In (outlines_in job s n)) (get_or (outlines_in job s n) q no_outline)
  next_in q x y t l no_one =
      let e = ap (λ (o : rules.Outline). o.counts) (outline_in q x) in
      subst (λ c. WholeIn job (one_more t c) (outlines_in job s n)) (sym e) (h.next q y t (omega (arith, types_count job h.classed.ready.range)) (subst (NoneAfter t) e no_one))

  -- class p comes next: all builds with no more pieces are listed
  pub queue_source : {least : Least} {halves : Halves} {k : ℕ} → LeastOf job least → p < n → k ≡ pieces_at job s p → Passed job least s n (k + 1) halves → Source job least s n halves.tried p
  queue_source {least} {halves} {k} l x e f =
      let m : k + 1 ≡ suc (pieces_at job s p) = omega arith in
      record {
        least_of = l;
        classed = h.classed;
        here = x;
        below = subst (λ v. BelowIn job (suc v) (outlines_in job s n)) (ap rules.pieces (outline_in p x))
            (below_in (job_typed (numbers_of job)) (In (outlines_in job s n)) no_outline (outlines_in job s n) (λ o y. y) h.classed.starts in_order p (λ q y. next_in q (omega arith) y));
        top = h.top x;
        half_at = subst (λ v. HalfAt job least s n v halves.tried) m (half_at h.classed f);
      }

  -- and is followed
  pub queue_next : {t : List ℕ} {m : ℕ} → p < n → Followed job (NextIn job (key_at job s p)) (suc (pieces_at job s p)) s n t m → Queued job t m (link_at s p end_link)
  queue_next {t} {m} x g =
      let k = class_at h.classed.directory x (h.turn.begins x) in
      record {
        classed = g.classed;
        turn = turn_follows g (link_at s p end_link) (record { upto = k.ends; begins = next_begins h.classed.directory k });
        top = λ y q z. top k y q z (dec_lt q n);
        next = λ q y. each k q y (dec_lt q p);
      }
    where
      same_p : pieces_at job t p ≡ pieces_at job s p
      same_p = ap sum (key_follows g p x)

      top : Class job.count s n p → link_at s p end_link < m → (q : ℕ) → q < m → Dec (q < n) → pieces_at job t q ≤ suc (pieces_at job t (link_at s p end_link))
      top k y q z (yes w) = omega (arith, h.top x q w, ap sum (key_follows g q w), same_p, g.classed.rising p (link_at s p end_link) k.some y)
      top k y q z (no w) = omega (arith, g.new q (omega arith) z, same_p, g.classed.rising p (link_at s p end_link) k.some y)

      each : Class job.count s n p → (q : ℕ) → q < link_at s p end_link → Dec (q < p) → NextIn job (key_at job t q) (outlines_in job t m)
      each k q y (yes w) = λ u lo no_one o b e.
          let f = key_follows g q (omega arith) in
          in_follows g o (h.next q w u lo (subst (NoneAfter u) f no_one) o b (e ∙ ap (one_more u) f))
      each k q y (no w) =
          let f = key_follows g q (omega (arith, k.ends)) ∙ k.same q (omega arith) y in
          subst (λ c. NextIn job c (outlines_in job t m)) (sym f) g.grown.has

  -- what has been passed is passed for the class that comes next
  pub queue_halves : {least : Least} {halves : Halves} {k : ℕ} {t : List ℕ} {m : ℕ} → p < n → k ≡ pieces_at job s p → HalvesAt job least s n (k + 1) halves → Followed job (NextIn job (key_at job s p)) (suc (pieces_at job s p)) s n t m → link_at s p end_link < m → HalvesAt job least t m (suc (pieces_at job t (link_at s p end_link))) halves
  queue_halves x e f g y =
      let k = class_at h.classed.directory x (h.turn.begins x) in
      halves_follow g (omega (arith, g.classed.rising p (link_at s p end_link) k.some y, ap sum (key_follows g p x))) f

  -- the queue is at its end
  pub queue_end : (entry : List ℕ) → length s ≡ length entry → n ≤ p → AllListed job entry s n
  queue_end entry len x = record {
    room = omega (arith, h.classed.ready.held.room, ap room_of len);
    all = record {
      once = h.classed.ready.held.sound.once;
      only = h.classed.ready.held.sound.only;
      each = all_in (job_typed (numbers_of job)) (In (outlines_in job s n)) no_outline (outlines_in job s n) (λ o y. y) h.classed.starts
          (λ q y. let hq : q < n = omega (arith, length_outlines job s n) in next_in q hq (omega arith));
    };
    valid = h.classed.ready.held.sound.valid;
  }

-- a class that grew is put in order, and entered
module _ {types : ℕ} {s t : List ℕ} {start n : ℕ} {c : List ℕ} (g : Growing types s start n c) (room : n ≤ room_of (length s)) (some : start < n) (b : BothOrders start n s t) where
  counts_ordered : (q : ℕ) → counts_at types t q ≡ counts_at types s q
  counts_ordered q = ap (λ u. take types u.outline.counts) (b.records q)

  pub enterable : Enterable types t start n c
  enterable = record {
    directory = directory_kept g.directory g.begins b.kept;
    room = omega (arith, ap room_of b.kept.same_length);
    some = some;
    before = λ q h e. g.before q h (sym (counts_ordered q) ∙ e);
    counts = λ q x y. counts_ordered q ∙ g.counts q x y;
    orders = b.orders;
  }
