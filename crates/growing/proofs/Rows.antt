-- Joins of whole classes into a class that grows. Assumes nothing.
use mathlib.Core.Path.{◌≡◌, refl, sym, ap, ap₂, ◌∙◌, subst}
use mathlib.Core.List.Memᴰ
use mathlib.Core.List.{List, ◌++◌}
use Prim.Native.Nat.{ℕ, ◌+◌, ◌≤◌, ◌<◌}
use native.Mathlib.Omega.{arith}
use native.Mathlib.Decide.{dec_lt}
use borrow.Author.Count.{below_more}
use lib.ListN.{length, get_or-append}
use Rattle.rules.specs.Box.{Way}
use Rattle.rules.specs.Job as rules
use Rattle.rules.specs.Planner.{room_of}
use Rattle.rules.proofs.Bridge.{join}
use Rattle.shapes.specs.declared.Job.{Job}
use Rattle.outline.specs.declared.Way as code
use Rattle.outline.specs.declared.Way.TheVariants.{Beside, Above}
use Rattle.outline.specs.Stands.{job_for, way_of, number_of, side_of}
use Rattle.arena.specs.Records.{record_at, size_of, link_at}
use Rattle.classes.specs.Orders.{size_in, named_in}
use Rattle.classes.specs.Directory.{counts_at, end_link, Class, Directory, Kept}
use Rattle.classes.proofs.Laws.{counts_stay, class_kept, row_stops, row_whole, first_least}
use Rattle.outlines.specs.Listing.{outlines_in, no_outline, JoinIn}
use Rattle.outlines.proofs.Laws.{outline_at_lem}
use Rattle.growing.specs.Growing.{Growing, Came, pair_of, Pairable}
use Rattle.growing.specs.Rows.{OfClass, RowWith, RowsWith, Rowable, Rowsable, Facing, TooLarge}
use Rattle.growing.proofs.Laws.{came_with, came_then, fits_side}

-- a way's number, as the code holds it
pub two_ways : (way : code.Way) {w : ℕ} → w ≡ number_of way → w < 2
two_ways Beside e = omega arith
two_ways Above e = omega arith

-- a join still stands where others come behind
pub join_stays : (job : Job) (w : Way) (i q : ℕ) (l b : List rules.Outline) → i < length l → q < length l → JoinIn job w i q l → JoinIn job w i q (l ++ b)
join_stays job w i q l b hi hq f k =
    let p = ap₂ (join w) (get_or-append l b no_outline i hi) (get_or-append l b no_outline q hq) in
    Memᴰ.cast p (Memᴰ.append_left b (f (subst (rules.Fits (job_for job)) p k)))

-- what stays of the records before start
module _ {start n : ℕ} {s t : List ℕ} (begins : start ≤ n) (k : Kept start n s t) where
  size_stays : (w q : ℕ) → q < start → size_in t w q ≡ size_in s w q
  size_stays w q h = ap (λ u. size_of w u.outline) (k.records q (omega arith))

  pair_stays : (job : Job) → Directory job.count s start → (i q : ℕ) → i < start → q < start → pair_of job t i q ≡ pair_of job s i q
  pair_stays job d i q x y = ap₂ rules.plus (counts_stay d begins k i x) (counts_stay d begins k q y)

-- no join fits that is larger in its way than the sheet
module _ (job : Job) {start : ℕ} {c : List ℕ} {P : List rules.Outline → Type 0} {s t : List ℕ} {n m : ℕ} (g : Came job start c P s n t m) (begins : start ≤ n) where
  join_large : (way : code.Way) (w i q : ℕ) → w ≡ number_of way → i < start → q < start → side_of job way < size_in s w i + size_in s w q → JoinIn job (way_of way) i q (outlines_in job t m)
  join_large way w i q e hi hq h f =
      let x = outline_at_lem job.count t m i (omega (arith, g.growing.begins)) in
      let y = outline_at_lem job.count t m q (omega (arith, g.growing.begins)) in
      let z = fits_side job way job.count (record_at t i).outline (record_at t q).outline (subst (rules.Fits (job_for job)) (ap₂ (join (way_of way)) x y) f) in
      let at : (j : ℕ) → j < start → size_in t (number_of way) j ≡ size_in s w j = λ j l. ap (λ v. size_in t v j) (sym e) ∙ size_stays begins g.kept w j l in
      absurd (omega (arith, h, z, at i hi, at q hq))

-- as far as class p has been gone through in the order of a way: Q holds of those named before place k
pub record Gone (job : Job) (start : ℕ) (c : List ℕ) (Q : ℕ → List rules.Outline → Type 0) (w p end : ℕ) (s : List ℕ) (n : ℕ) (t : List ℕ) (m k : ℕ) : Type 0 where
  pub class : Class job.count s start p
  pub two : w < 2
  pub ends : end ≡ link_at s p end_link
  pub low : p ≤ k
  pub high : k ≤ end
  pub came : Came job start c (λ l. (j : ℕ) → j < k → p ≤ j → Q (named_in s w j) l) s n t m

-- q is what place k of the class's order names
pub record Among (s : List ℕ) (w p end start : ℕ) (t : List ℕ) (k q : ℕ) : Type 0 where
  pub is : q ≡ named_in s w k
  pub low : p ≤ q
  pub high : q < end
  pub before : q < start
  pub room : q < room_of (length t)

module _ {job : Job} {start : ℕ} {c : List ℕ} {Q : ℕ → List rules.Outline → Type 0} {w p end : ℕ} {s : List ℕ} {n : ℕ} {t : List ℕ} {m k : ℕ} (g : Gone job start c Q w p end s n t m k) where
  -- place k is in the arena
  pub gone_among : (q : ℕ) → k < end → q ≡ named_in t w k → Among s w p end start t k q
  gone_among q h e =
      let y = g.ends in
      let z = g.class.ends in
      let f = g.came.kept.links k w (omega arith) (omega (arith, g.two)) in
      let r = (g.class.orders w g.two).within k g.low (omega arith) in
      record { is = e ∙ f; low = omega (arith, r.0); high = omega (arith, r.1); before = omega (arith, r.1); room = omega (arith, r.1, g.came.growing.directory.room) }

  gone_next : {u : List ℕ} {x : ℕ} → ((q : ℕ) → q < start → (l b : List rules.Outline) → start ≤ length l → Q q l → Q q (l ++ b)) → (q : ℕ) → k < end → q ≡ named_in s w k → Came job start c (Q q) t m u x → Gone job start c Q w p end s n u x (k + 1)
  gone_next stays q h e y =
      let z = g.class.ends in
      let x = g.ends in
      let b = g.came.growing.begins in
      let in_front : (j : ℕ) → j < k → p ≤ j → named_in s w j < start = λ j a b. omega (arith, ((g.class.orders w g.two).within j b (omega arith)).1) in
      record {
        class = g.class;
        two = g.two;
        ends = g.ends;
        low = omega (arith, g.low);
        high = omega arith;
        came = came_then job
            (λ l d r f v. below_more (λ j. p ≤ j → Q (named_in s w j) (l ++ d)) k (λ j a o. stays (named_in s w j) (in_front j a o) l d (omega arith) (f j a o)) (λ _. subst (λ i. Q i (l ++ d)) e v))
            g.came y;
      }

  -- behind the first that is too large all are
  gone_stop : (x most : ℕ) → most < x + size_in s w (named_in s w k) → OfClass s p (λ q. most < x + size_in s w q → Q q (outlines_in job t m)) → Came job start c (λ l. OfClass s p (λ q. Q q l)) s n t m
  gone_stop x most h f = came_with job g.came (row_whole (g.class.orders w g.two) (λ q. Q q (outlines_in job t m)) (λ j a b. each j a b (dec_lt j k)))
    where
      each : (j : ℕ) → p ≤ j → j < link_at s p end_link → Dec (j < k) → Q (named_in s w j) (outlines_in job t m)
      each j a b (yes y) = g.came.grown.has j y a
      each j a b (no y) =
          let r = (g.class.orders w g.two).within j a b in
          f (named_in s w j) r.0 r.1 (row_stops (g.class.orders w g.two) k x most g.low h j (omega arith) b)

  gone_end : end ≤ k → Came job start c (λ l. OfClass s p (λ q. Q q l)) s n t m
  gone_end h = came_with job g.came (row_whole (g.class.orders w g.two) (λ q. Q q (outlines_in job t m)) (λ j a b. g.came.grown.has j (omega (arith, g.ends)) a))

-- record i is joined with those of class b before place k
pub record RowGone (job : Job) (start : ℕ) (way : code.Way) (w side end size i b : ℕ) (s : List ℕ) (n : ℕ) (t : List ℕ) (m k : ℕ) : Type 0 where
  pub asked : Rowable job s start n i b
  pub number : w ≡ number_of way
  pub sheet : side ≡ side_of job way
  pub one : size ≡ size_in s w i
  pub gone : Gone job start (pair_of job s i b) (λ q l. JoinIn job (way_of way) i q l) w b end s n t m k

module _ {job : Job} {start : ℕ} {way : code.Way} {w side end size i b : ℕ} {s : List ℕ} {n : ℕ} {t : List ℕ} {m k : ℕ} (g : RowGone job start way w side end size i b s n t m k) where
  pub row_end : end ≤ k → Came job start (pair_of job s i b) (RowWith job (way_of way) s i b) s n t m
  row_end h = gone_end g.gone h

  module _ (q : ℕ) (more : k < end) (e : q ≡ named_in t w k) where
    row_pair : pair_of job t i q ≡ pair_of job s i b
    row_pair =
        let y = gone_among g.gone q more e in
        pair_stays g.asked.growing.begins g.gone.came.kept job g.asked.growing.directory i q g.asked.one y.before ∙ ap (rules.plus (counts_at job.count s i)) (g.asked.class.same q y.low (omega (arith, y.high, g.gone.ends)))

    pub row_pairable : Pairable job t start m i q
    row_pairable =
        let y = g.gone.came.growing.begins in
        record {
          joinable = record {
            ready = record { range = g.asked.ready.range; held = g.gone.came.grown.held };
            one = omega (arith, g.asked.one);
            other = omega (arith, (gone_among g.gone q more e).before);
          };
          growing = subst (Growing job.count t start m) (sym row_pair) g.gone.came.growing;
        }

    pub row_next : {u : List ℕ} {v : ℕ} → Came job start (pair_of job t i q) (JoinIn job (way_of way) i q) t m u v → RowGone job start way w side end size i b s n u v (k + 1)
    row_next {u} {v} h = record {
      asked = g.asked;
      number = g.number;
      sheet = g.sheet;
      one = g.one;
      gone = gone_next g.gone (λ r y l d z. join_stays job (way_of way) i r l d (omega (arith, g.asked.one)) (omega arith)) q more (gone_among g.gone q more e).is
          (subst (λ c. Came job start c (JoinIn job (way_of way) i q) t m u v) row_pair h);
    }

    pub row_stop : side < size + size_in t w q → Came job start (pair_of job s i b) (RowWith job (way_of way) s i b) s n t m
    row_stop h =
        let y = gone_among g.gone q more e in
        let z = g.asked.growing.begins in
        gone_stop g.gone size side (omega (arith, h, size_stays z g.gone.came.kept w q y.before, ap (size_in s w) y.is))
        (λ r lo hi l. join_large job g.gone.came z way w i r g.number g.asked.one (omega (arith, hi, g.asked.class.ends)) (omega (arith, g.sheet, g.one, l)))

-- those of class a before place k are joined with each of class b
pub record RowsGone (job : Job) (start : ℕ) (way : code.Way) (w side end least a b : ℕ) (s : List ℕ) (n : ℕ) (t : List ℕ) (m k : ℕ) : Type 0 where
  pub asked : Rowsable job s start n a b
  pub number : w ≡ number_of way
  pub sheet : side ≡ side_of job way
  pub smallest : least ≡ size_in s w (named_in s w b)
  pub gone : Gone job start (pair_of job s a b) (λ i l. RowWith job (way_of way) s i b l) w a end s n t m k

-- the smallest of class b is in the arena
pub rows_smallest : {job : Job} {start a b : ℕ} {s : List ℕ} {n : ℕ} → Rowsable job s start n a b → (w : ℕ) → w < 2 → named_in s w b < room_of (length s)
rows_smallest {b = b} z w two = omega (arith, ((z.class.orders w two).within b (omega arith) z.class.some).1, z.class.ends, z.growing.directory.room)

module _ {job : Job} {start : ℕ} {way : code.Way} {w side end least a b : ℕ} {s : List ℕ} {n : ℕ} {t : List ℕ} {m k : ℕ} (g : RowsGone job start way w side end least a b s n t m k) where
  pub rows_end : end ≤ k → Came job start (pair_of job s a b) (RowsWith job (way_of way) s a b) s n t m
  rows_end h = gone_end g.gone h

  b_before : b < start
  b_before = omega (arith, g.asked.class.some, g.asked.class.ends)

  module _ (i : ℕ) (more : k < end) (e : i ≡ named_in t w k) where
    rows_pair : pair_of job t i b ≡ pair_of job s a b
    rows_pair =
        let y = gone_among g.gone i more e in
        pair_stays g.asked.growing.begins g.gone.came.kept job g.asked.growing.directory i b y.before b_before ∙ ap (λ v. rules.plus v (counts_at job.count s b)) (g.asked.first.same i y.low (omega (arith, y.high, g.gone.ends)))

    pub rows_rowable : Rowable job t start m i b
    rows_rowable = record {
      ready = record { range = g.asked.ready.range; held = g.gone.came.grown.held };
      one = (gone_among g.gone i more e).before;
      class = class_kept g.asked.growing.directory g.asked.growing.begins g.gone.came.kept b g.asked.class;
      growing = subst (Growing job.count t start m) (sym rows_pair) g.gone.came.growing;
    }

    pub rows_next : {u : List ℕ} {v : ℕ} → Came job start (pair_of job t i b) (RowWith job (way_of way) t i b) t m u v → RowsGone job start way w side end least a b s n u v (k + 1)
    rows_next {u} {v} h =
        let z = g.gone.came.kept.links b end_link b_before (omega arith) in
        let x = g.asked.class.ends in
        record {
          asked = g.asked;
          number = g.number;
          sheet = g.sheet;
          smallest = g.smallest;
          gone = gone_next g.gone (λ r y l d o f q lo hi. join_stays job (way_of way) r q l d (omega arith) (omega arith) (f q lo hi)) i more (gone_among g.gone i more e).is
              (came_with job (subst (λ c. Came job start c (RowWith job (way_of way) t i b) t m u v) rows_pair h) (λ q lo hi. h.grown.has q lo (omega arith)));
        }

    -- with the least of class b this record is too large: so are all behind it, with each of class b
    pub rows_stop : side < least + size_in t w i → Came job start (pair_of job s a b) (RowsWith job (way_of way) s a b) s n t m
    rows_stop h =
        let y = gone_among g.gone i more e in
        let z = g.asked.growing.begins in
        let o = g.asked.class.orders w g.gone.two in
        gone_stop g.gone least side (omega (arith, h, size_stays z g.gone.came.kept w i y.before, ap (size_in s w) y.is))
        (λ j lo hi l q x v. join_large job g.gone.came z way w j q g.number (omega (arith, hi, g.asked.first.ends)) (omega (arith, v, g.asked.class.ends))
        (row_whole o (λ p. side_of job way < size_in s w j + size_in s w p) (row_stops o b (size_in s w j) (side_of job way) (omega arith) (omega (arith, g.sheet, g.smallest, l))) q x v))

-- the smallest of two classes are together too large for the sheet: so are all
module _ {job : Job} {s : List ℕ} {a b : ℕ} (z : Facing job s a b) (way : code.Way) where
  pub too_large : (w i q : ℕ) → w ≡ number_of way → i ≡ named_in s w a → q ≡ named_in s w b → (side x y : ℕ) → side ≡ side_of job way → x ≡ size_in s w i → y ≡ size_in s w q → side < x + y → TooLarge job way s a b
  too_large w i q ew ei eq side x y es ex ey h j lo hi k klo khi =
      let f : (n p : ℕ) → n ≡ named_in s w p → size_in s w n ≡ size_in s (number_of way) (named_in s (number_of way) p) = λ n p e. ap (size_in s w) e ∙ ap (λ v. size_in s v (named_in s v p)) ew in
      omega (arith, h, es, ex, ey, f i a ei, f q b eq, first_least (z.first.orders (number_of way) (two_ways way refl)) j lo hi, first_least (z.class.orders (number_of way) (two_ways way refl)) k klo khi)
