-- Two classes are joined in the ways in which they need be: which first halves need not be tried is told by sizes. Assumes nothing.
use Rattle.std.specs.Prelude.{Result}
use mathlib.Core.Path.{◌≡◌, refl, sym, ap, ap₂, ◌∙◌, subst}
use mathlib.Core.Logic.{inl, inr}
use mathlib.Core.List.{List, ◌++◌}
use Prim.Native.Nat.{ℕ, suc, ◌+◌, ◌*◌, ◌≤◌, ◌<◌}
use native.Mathlib.Omega.{arith}
use lib.ListN.{length, take}
use Rattle.rules.specs.Bag.{sum}
use Rattle.rules.specs.Box.{Way, along, across}
use Rattle.rules.specs.Job as rules
use Rattle.rules.proofs.Bags.{all_at}
use Rattle.rules.proofs.Bridge.{join}
use Rattle.rules.proofs.Classes.{turned}
use Rattle.rules.proofs.Halves.{Able}
use Rattle.rules.proofs.Least.{size_by, side_by, no_room}
use Rattle.rules.proofs.Outlines.{counts_length}
use Rattle.shapes.specs.declared.Job.{Job}
use Rattle.outline.specs.declared.Least.{Least}
use Rattle.outline.specs.declared.Way as code
use Rattle.outline.specs.declared.Way.TheVariants.{Beside, Above}
use Rattle.outline.specs.Stands.{job_for, outline_of, way_of, number_of, side_of, least_by}
use Rattle.outline.proofs.Laws.{types_count, least_of}
use Rattle.arena.specs.declared.Record.{Record}
use Rattle.arena.specs.Records.{record_at, link_at}
use Rattle.classes.specs.Orders.{size_in, named_in}
use Rattle.classes.specs.Directory.{end_link}
use Rattle.classes.proofs.Laws.{class_kept, first_least, last_most}
use Rattle.outlines.specs.Listing.{outlines_in, no_outline, Building, Ready}
use Rattle.outlines.proofs.Lists.{mem_at}
use Rattle.outlines.proofs.Laws.{length_outlines, outline_at_lem}
use Rattle.outlines.specs.declared.ArenaFull.{ArenaFull}
use Rattle.growing.specs.Growing.{Growing, Came, Comes, pair_of}
use Rattle.growing.specs.Rows.{TooLarge}
use Rattle.growing.proofs.Laws.{fits_side, came_self, comes_then}
use Rattle.growing.proofs.Rows.{join_stays, two_ways}
use Rattle.pairing.specs.Pairs.{outline_at, key_at, Unable, Idle, Apart, Standing, TwoClasses, PairReady, WayIn, PairIn}

-- sizes and sides by way, as the code numbers them
size_way : (job : Job) (s : List ℕ) (i : ℕ) (w : code.Way) → size_by (way_of w) (outline_at job s i) ≡ size_in s (number_of w) i
size_way job s i Beside = refl
size_way job s i Above = refl

side_way : (job : Job) (w : code.Way) → side_by (way_of w) (job_for job) ≡ side_of job w
side_way job Beside = refl
side_way job Above = refl

module _ {job : Job} {least : Least} {s : List ℕ} {a : ℕ} (st : Standing job least s a) (way : code.Way) where
  -- behind the smallest of the class there is no room for a piece
  pub idle_small : (y x : ℕ) → y ≡ named_in s (number_of way) a → x ≡ size_in s (number_of way) y → side_of job way < x + least_by (way_of way) least → Idle job least s a (way_of way)
  idle_small y x ey ex h i lo hi able b build fits =
      let o = st.class.orders (number_of way) (two_ways way refl) in
      no_room (least_of job st.range (way_of way) least st.least_of) (outline_at job s i) build
      (omega (arith, h, side_way job way, size_way job s i way, first_least o i lo hi, ex, ap (size_in s (number_of way)) ey)) fits

  -- the largest of the class in the other way is smaller than two pieces
  pub unable_thin : (v : code.Way) → way_of v ≡ turned (way_of way) → (p last y x : ℕ) → p ≡ sum (key_at job s a) → (p ≡ 1 → ⊥) → suc last ≡ link_at s a end_link → y ≡ named_in s (number_of v) last → x ≡ size_in s (number_of v) y → x < 2 * least_by (way_of v) least → Unable job least s a (way_of way)
  unable_thin v ev p last y x ep np el ey ex h i lo hi able = go (subst (λ w. Able (λ v. least_by v least) w (outline_at job s i)) (sym ev) able)
    where
      go : Able (λ v. least_by v least) (way_of v) (outline_at job s i) → ⊥
      go (inl e) = np (ep ∙ ap sum (sym (st.class.same i lo hi)) ∙ e)
      go (inr e) =
          let o = st.class.orders (number_of v) (two_ways v refl) in
          omega (arith, h, e, size_way job s i v, last_most o last el i lo hi, ex, ap (size_in s (number_of v)) ey)

-- counts of builds
module _ {job : Job} {s : List ℕ} {n : ℕ} (r : Ready job s n) where
  pub build_at : (i : ℕ) → i < n → Building job (outline_at job s i)
  build_at i h = subst (Building job) (outline_at_lem job.count s n i h) (all_at r.held.sound.only (mem_at no_outline (outlines_in job s n) i (omega (arith, length_outlines job s n))))

  pub key_length : (i : ℕ) → i < n → length (key_at job s i) ≡ job.count
  key_length i h = counts_length (build_at i h) ∙ types_count job r.range

-- two classes of which no records need be tried in a way
module _ {job : Job} {least : Least} {s : List ℕ} {a b : ℕ} (k : TwoClasses job least s a b) where
  pub apart_large : (way : code.Way) → TooLarge job way s a b → Apart job least s a b (way_of way)
  apart_large way z i lo hi q qlo qhi able x = omega (arith, z i lo hi q qlo qhi, fits_side job way job.count (record_at s i).outline (record_at s q).outline x)

-- the joins of two classes still stand where others come behind
way_stays : (job : Job) (least : Least) (w : Way) (s : List ℕ) (a b : ℕ) (l d : List rules.Outline) → link_at s a end_link ≤ length l → link_at s b end_link ≤ length l → WayIn job least s a b w l → WayIn job least s a b w (l ++ d)
way_stays job least w s a b l d x y f i lo hi q qlo qhi able = join_stays job w i q l d (omega arith) (omega arith) (f i lo hi q qlo qhi able)

-- two classes whose joins belong to the class that grows
module _ {job : Job} {least : Least} {s : List ℕ} {start n a b : ℕ} (h : PairReady job least s start n a b) where
  before_a : a < start
  before_a = omega (arith, h.rows.first.some, h.rows.first.ends)

  before_b : b < start
  before_b = omega (arith, h.rows.class.some, h.rows.class.ends)

  -- in one way: none need be tried, or all are
  pub way_none : (w : Way) → Apart job least s a b w → Came job start (pair_of job s a b) (WayIn job least s a b w) s n s n
  way_none w f = came_self job h.rows.ready.held h.rows.growing (λ i lo hi q qlo qhi able k.
      let be = h.rows.growing.begins in
      let ei = outline_at_lem job.count s n i (omega (arith, h.rows.first.ends)) in
      let eq = outline_at_lem job.count s n q (omega (arith, h.rows.class.ends)) in
      absurd (f i lo hi q qlo qhi able (subst (rules.Fits (job_for job)) (ap₂ (join w) ei eq) k)))

  -- and then in the other
  module _ {P : List rules.Outline → Type 0} {t : List ℕ} {m : ℕ} (g : Came job start (pair_of job s a b) P s n t m) where
    same_record : (i : ℕ) → i < start → record_at t i ≡ record_at s i
    same_record i x = g.kept.records i (omega (arith, h.rows.growing.begins))

    same_pair : pair_of job t a b ≡ pair_of job s a b
    same_pair = ap₂ (λ (u v : Record). rules.plus (take job.count u.outline.counts) (take job.count v.outline.counts)) (same_record a before_a) (same_record b before_b)

    pub second_way : PairReady job least t start m a b
    second_way = record {
      least_of = h.least_of;
      rows = record {
        ready = record { range = h.rows.ready.range; held = g.grown.held };
        first = class_kept h.rows.growing.directory h.rows.growing.begins g.kept a h.rows.first;
        class = class_kept h.rows.growing.directory h.rows.growing.begins g.kept b h.rows.class;
        growing = subst (Growing job.count t start m) (sym same_pair) g.growing;
      };
    }

  pub both_ways : {t : List ℕ} {m : ℕ} (u : List ℕ) (r : Result ℕ ArenaFull) → Came job start (pair_of job s a b) (WayIn job least s a b along) s n t m → Comes job start (pair_of job t a b) (WayIn job least t a b across) t m u r → Comes job start (pair_of job s a b) (PairIn job least s a b) s n u r
  both_ways {t} {m} u r g k =
      comes_then job (WayIn job least t a b across) (PairIn job least s a b) u (λ l d e f x w. in_way l d e f x w) g r
      (subst (λ c. Comes job start c (WayIn job least t a b across) t m u r) (same_pair g) k)
    where
      in_way : (l d : List rules.Outline) → length l ≡ m → WayIn job least s a b along l → WayIn job least t a b across (l ++ d) → (w : Way) → WayIn job least s a b w (l ++ d)
      in_way l d e f x along =
          let be = g.growing.begins in
          way_stays job least along s a b l d (omega (arith, h.rows.first.ends)) (omega (arith, h.rows.class.ends)) f
      in_way l d e f x across = λ i lo hi q qlo qhi able.
          let ea = g.kept.links a end_link before_a (omega arith) in
          let eb = g.kept.links b end_link before_b (omega arith) in
          x i lo (omega arith) q qlo (omega arith)
          (subst (λ (v : Record). Able (λ v. least_by v least) (turned across) (outline_of job.count v.outline)) (sym (same_record g i (omega (arith, h.rows.first.ends)))) able)
