-- A build comes into a class that grows. Assumes nothing.
use Rattle.std.specs.Prelude.{Result, Ok, Err}
use mathlib.Core.Path.{◌≡◌, refl, sym, ap, ap₂, ◌∙◌, subst}
use mathlib.Core.Bool.{Bool, true, false}
use mathlib.Core.List.Memᴰ
use mathlib.Core.List.{List, ◌++◌}
use Prim.Native.Nat.{ℕ, ◌+◌, ◌≤◌, ◌<◌}
use native.Mathlib.Omega.{arith}
use native.Mathlib.Numerals.{add-one}
use native.Mathlib.Decide.{ℕ_discrete, dec_lt}
use lib.ListN.{length, take}
use Rattle.rules.specs.Box as box
use Rattle.rules.specs.Job as rules
use Rattle.rules.specs.Planner.{room_of}
use Rattle.rules.proofs.Bridge.{join, join_counts}
use Rattle.rules.proofs.Outlines.{fits, same_outline, same_eq, eq_same}
use Rattle.shapes.specs.declared.Job.{Job}
use Rattle.outline.specs.declared.Outline.{Outline}
use Rattle.outline.specs.declared.Way as code
use Rattle.outline.specs.Stands.{job_for, outline_of, way_of, number_of, side_of, Joins}
use Rattle.arena.specs.declared.Record.{Record}
use Rattle.arena.specs.declared.How.TheVariants.{Joined}
use Rattle.outline.specs.declared.Way.TheVariants.{Beside, Above}
use Rattle.arena.specs.Records.{record_at, size_of, Loaded}
use Rattle.classes.specs.Directory.{counts_at, Directory}
use Rattle.seeking.specs.Opened.{Findable, SizedAs, Appendable, Appended}
use Rattle.classes.proofs.Laws.{directory_kept, kept_self, kept_then}
use Rattle.seeking.proofs.Opened.{appended_stored, none_findable}
use Rattle.outlines.specs.declared.ArenaFull.{ArenaFull}
use Rattle.outlines.specs.Listing.{outlines_in, no_outline, Held, Holds, OutlineIn, JoinIn}
use Rattle.outlines.proofs.Laws.{length_outlines, outline_at_lem, found_at, not_found, build_sized, grown_self, grown_le, grown_then, too_many_then, storable, added, is_join, join_addable, join_in, join_not}
use Rattle.outlines.proofs.Lists.{mem_at}
use Rattle.growing.specs.Growing.{Absent, Growing, Came, Comes, class_of, Growable, pair_of, Pairable, Pairing, bare_join, JoinSized}

not_true : (b : Bool) → (b ≡ true → ⊥) → b ≡ false
not_true true h = absurd (h refl)
not_true false h = refl

-- an outline with other counts is another
pub absent_before : {types : ℕ} {s : List ℕ} {start n : ℕ} {o : Outline} → Absent types s start n o → (k : ℕ) → k < start → same_outline (outline_of types o) (outline_of types (record_at s k).outline) ≡ false
absent_before {types} {s} {o = o} a k h = not_true _ (λ e. a.before k h (sym (ap (λ (u : rules.Outline). u.counts) (same_eq (outline_of types o) (outline_of types (record_at s k).outline) e))))

-- looking for an outline by its sizes
module _ {types : ℕ} {s : List ℕ} {start n : ℕ} {o : Outline} (a : Absent types s start n o) where
  pub sized_holds : (q : ℕ) → SizedAs s start n o.length.0 o.width.0 q → Holds types s n (outline_of types o)
  sized_holds q w =
      let e : outline_of types (record_at s q).outline ≡ outline_of types o = λ i. record { long = w.same_long i; wide = w.same_wide i; counts = a.counts q w.low w.high i } in
      found_at types s n (outline_of types o) q w.high (ap (same_outline (outline_of types o)) e ∙ eq_same (outline_of types o))

  pub sized_none : ((q : ℕ) → SizedAs s start n o.length.0 o.width.0 q → ⊥) → Holds types s n (outline_of types o) → ⊥
  sized_none f = not_found types s n (outline_of types o) (λ k h. each k h (dec_lt k start))
    where
      each : (k : ℕ) → k < n → Dec (k < start) → same_outline (outline_of types o) (outline_of types (record_at s k).outline) ≡ false
      each k h (yes l) = absent_before a k l
      each k h (no l) = not_true _ (λ e.
          let z = same_eq (outline_of types o) (outline_of types (record_at s k).outline) e in
          f k (record { low = omega arith; high = h; same_long = sym (ap (λ (u : rules.Outline). u.long) z); same_wide = sym (ap (λ (u : rules.Outline). u.wide) z) }))

-- a class with nothing in it yet
pub nothing_grows : {types : ℕ} {s : List ℕ} {n : ℕ} {c : List ℕ} → Directory types s n → ((q : ℕ) → q < n → counts_at types s q ≡ c → ⊥) → Growing types s n n c
nothing_grows d f = record {
  begins = omega arith;
  directory = d;
  before = f;
  counts = λ q x y. absurd (omega arith);
  table = none_findable _ _;
}

-- one step behind another, as `grown_then`
module _ (job : Job) {start : ℕ} {c : List ℕ} where
  pub came_self : {P : List rules.Outline → Type 0} {s : List ℕ} {n : ℕ} → Held job s n → Growing job.count s start n c → P (outlines_in job s n) → Came job start c P s n s n
  came_self {s = s} {n = n} h g p = record { grown = grown_self job s n h p; kept = kept_self start n s; growing = g }

  -- the same step ends with another fact
  pub came_with : {P R : List rules.Outline → Type 0} {s t : List ℕ} {n m : ℕ} → Came job start c P s n t m → R (outlines_in job t m) → Came job start c R s n t m
  came_with g h = record { grown = record { held = g.grown.held; behind = g.grown.behind; stay = g.grown.stay; has = h }; kept = g.kept; growing = g.growing }

  pub came_then : {P Q R : List rules.Outline → Type 0} {s t u : List ℕ} {n m k : ℕ} → ((l b : List rules.Outline) → length l ≡ m → P l → Q (l ++ b) → R (l ++ b)) → Came job start c P s n t m → Came job start c Q t m u k → Came job start c R s n u k
  came_then f g h = record { grown = grown_then job f g.grown h.grown; kept = kept_then (grown_le job g.grown) g.kept h.kept; growing = h.growing }

  pub comes_then : {P : List rules.Outline → Type 0} (Q R : List rules.Outline → Type 0) {s t : List ℕ} (u : List ℕ) {n m : ℕ} → ((l b : List rules.Outline) → length l ≡ m → P l → Q (l ++ b) → R (l ++ b)) → Came job start c P s n t m → (r : Result ℕ ArenaFull) → Comes job start c Q t m u r → Comes job start c R s n u r
  comes_then Q R u f g (Ok k) h = came_then f g h
  comes_then Q R {s = s} {t = t} u f g (Err full) h = too_many_then job s t g.kept.same_length h

  -- the same step, said of another fact
  pub comes_map : (Q R : List rules.Outline → Type 0) {s : List ℕ} (u : List ℕ) {n : ℕ} → ((l b : List rules.Outline) → l ≡ outlines_in job s n → Q (l ++ b) → R (l ++ b)) → Held job s n → Growing job.count s start n c → (r : Result ℕ ArenaFull) → Comes job start c Q s n u r → Comes job start c R s n u r
  comes_map Q R {s = s} u {n = n} f h g r k = comes_then {P = λ l. l ≡ outlines_in job s n} Q R u (λ l b _ e q. f l b e q) (came_self h g refl) r k

module _ (job : Job) (s : List ℕ) (start n : ℕ) (r : Record) (g : Growable job s start n r) where
  pub absent : Absent job.count s start n r.outline
  absent = record { room = g.addable.ready.held.room; types_most_lem = g.addable.ready.range.count; begins = g.growing.begins; before = g.growing.before; counts = g.growing.counts; sized = build_sized job s n r g.addable; table = g.growing.table }

  pub there : Holds job.count s n (outline_of job.count r.outline) → Came job start (class_of job r) (OutlineIn job r) s n s n
  there h = came_self job g.addable.ready.held g.growing h

  pub appendable : (n ≡ room_of (length s) → ⊥) → Appendable s start n r
  appendable f = record { storable = storable job s n r g.addable f; begins = g.growing.begins; table = g.growing.table }

  pub comes : (t : List ℕ) → (n ≡ room_of (length s) → ⊥) → (Holds job.count s n (outline_of job.count r.outline) → ⊥) → Appended start n r s t → Came job start (class_of job r) (OutlineIn job r) s n t (n + 1)
  comes t f new a =
      let b = g.growing.begins in
      record {
        grown = added job s n r g.addable t f new (appended_stored a);
        kept = a.kept;
        growing = record {
          begins = omega arith;
          directory = directory_kept g.growing.directory b a.kept;
          before = λ q h e. g.growing.before q h (sym (same q (omega arith)) ∙ e);
          counts = λ q x y. all q x (ℕ_discrete q n) y;
          table = subst (Findable t start) (sym (add-one n)) a.table;
        };
      }
    where
      same : (q : ℕ) → q < n → counts_at job.count t q ≡ counts_at job.count s q
      same q h = ap (λ u. take job.count u.outline.counts) (a.kept.records q h)

      all : (q : ℕ) → start ≤ q → Dec (q ≡ n) → q < n + 1 → counts_at job.count t q ≡ class_of job r
      all q x (yes e) y = ap (counts_at job.count t) e ∙ ap (λ u. take job.count u.outline.counts) a.here
      all q x (no e) y = same q (omega arith) ∙ g.growing.counts q x (omega arith)

-- a join of two records
module _ (job : Job) (s : List ℕ) (start n i q : ℕ) (k : Pairable job s start n i q) (w : code.Way) (a b : Record) (la : Loaded (record_at s i) a) (lb : Loaded (record_at s q) b) (o : Outline) (jo : Joins (join (way_of w)) a.outline b.outline o) where
  abbrev joined_record : Record
  joined_record = record { outline = o; how = Joined w i q }

  pair_counts : pair_of job s i q ≡ class_of job joined_record
  pair_counts =
      let e = is_join job s n i q k.joinable w a b la lb o jo in
      let x = outline_at_lem job.count s n i k.joinable.one in
      let y = outline_at_lem job.count s n q k.joinable.other in
      sym (ap (λ (u : rules.Outline). u.counts) e ∙ join_counts (way_of w) _ _ ∙ ap₂ rules.plus (ap (λ (u : rules.Outline). u.counts) x) (ap (λ (u : rules.Outline). u.counts) y))

  pub pair_growable : fits (job_for job) (outline_of job.count o) ≡ true → Growable job s start n joined_record
  pair_growable f = record { growing = subst (Growing job.count s start n) pair_counts k.growing; addable = join_addable job s n i q k.joinable w a b la lb o jo f }

  pub pair_comes : (t : List ℕ) (r : Result ℕ ArenaFull) → Comes job start (class_of job joined_record) (OutlineIn job joined_record) s n t r → Comes job start (pair_of job s i q) (JoinIn job (way_of w) i q) s n t r
  pair_comes t r g = comes_map job (OutlineIn job joined_record) (JoinIn job (way_of w) i q) t (join_in job s n i q k.joinable w a b la lb o jo) k.joinable.ready.held k.growing r (subst (λ c. Comes job start c (OutlineIn job joined_record) s n t r) (sym pair_counts) g)

  pub pair_not : fits (job_for job) (outline_of job.count o) ≡ false → Came job start (pair_of job s i q) (JoinIn job (way_of w) i q) s n s n
  pair_not f = came_self job k.joinable.ready.held k.growing (join_not job s n i q k.joinable w a b la lb o jo f)

-- a record of the class has the sizes of a join whose counts are the class's: the join is there
module _ (job : Job) (s : List ℕ) (start n i q : ℕ) (k : Pairable job s start n i q) (w : box.Way) where
  abbrev the_join : rules.Outline
  the_join = join w (outline_of job.count (record_at s i).outline) (outline_of job.count (record_at s q).outline)

  pub pairing : Pairing s start n i q
  pairing = record { one = omega (arith, k.joinable.one, k.joinable.ready.held.room); other = omega (arith, k.joinable.other, k.joinable.ready.held.room); begins = k.growing.begins; room = k.joinable.ready.held.room; table = k.growing.table }

  same_join : (p : ℕ) → SizedAs s start n (bare_join w s i q).long (bare_join w s i q).wide p → outline_of job.count (record_at s p).outline ≡ the_join
  same_join p z = go w z
    where
      go : (w : box.Way) → SizedAs s start n (bare_join w s i q).long (bare_join w s i q).wide p → outline_of job.count (record_at s p).outline ≡ join w (outline_of job.count (record_at s i).outline) (outline_of job.count (record_at s q).outline)
      go box.along z = λ t. record { long = z.same_long t; wide = z.same_wide t; counts = k.growing.counts p z.low z.high t }
      go box.across z = λ t. record { long = z.same_long t; wide = z.same_wide t; counts = k.growing.counts p z.low z.high t }

  pub join_there : JoinSized s start n w i q → Came job start (pair_of job s i q) (JoinIn job w i q) s n s n
  join_there r =
      let h = k.joinable in
      let e = ap₂ (join w) (outline_at_lem job.count s n i h.one) (outline_at_lem job.count s n q h.other) in
      let d = same_join r.0 r.1 in
      let m = mem_at no_outline (outlines_in job s n) r.0 (omega (arith, r.1.high, length_outlines job s n)) in
      came_self job h.ready.held k.growing (λ f. Memᴰ.cast (e ∙ sym d ∙ sym (outline_at_lem job.count s n r.0 r.1.high)) m)

-- a join that fits is no larger in its way than the sheet
pub fits_side : (job : Job) (w : code.Way) (n : ℕ) (a b : Outline) → rules.Fits (job_for job) (join (way_of w) (outline_of n a) (outline_of n b)) → size_of (number_of w) a + size_of (number_of w) b ≤ side_of job w
fits_side job Beside n a b f = f.long
fits_side job Above n a b f = f.wide
