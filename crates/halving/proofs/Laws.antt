-- A class is made of pairs: class a with the class of the rest, and the walk over the classes before half. Assumes nothing.
use Rattle.std.specs.Prelude.{Result}
use mathlib.Core.Path.{◌≡◌, sym, ap, ap₂, ◌∙◌, subst}
use mathlib.Core.Bool.{true, false, true≢false}
use mathlib.Core.List.{List, ◌++◌}
use Prim.Native.Nat.{ℕ, ◌≤◌, ◌<◌}
use native.Mathlib.Omega.{arith}
use native.Mathlib.Decide.{dec_lt}
use lib.ListN.{length, take}
use Rattle.rules.specs.Job as rules
use Rattle.rules.proofs.Classes.{turned, at_most_plus, plus_cancel}
use Rattle.rules.proofs.Halves.{Able}
use Rattle.rules.proofs.Outlines.{at_most}
use Rattle.shapes.specs.declared.Job.{Job}
use Rattle.outline.specs.declared.Least.{Least}
use Rattle.outline.specs.Stands.{outline_of, least_by}
use Rattle.arena.specs.Records.{record_at, link_at}
use Rattle.classes.specs.Directory.{end_link, Begins, Class}
use Rattle.classes.proofs.Laws.{class_at, class_kept, next_begins}
use Rattle.outlines.specs.Listing.{outlines_in}
use Rattle.outlines.specs.declared.ArenaFull.{ArenaFull}
use Rattle.growing.specs.Growing.{Came, Comes, pair_of}
use Rattle.growing.proofs.Laws.{came_self, came_then, came_with, comes_map}
use Rattle.growing.proofs.Rows.{join_stays}
use Rattle.pairing.specs.Pairs.{key_at, PairIn}
use Rattle.pairing.proofs.Laws.{key_length}
use Rattle.halving.specs.Halves.{PairsOf, ClassPairs, Halving, Within, Sought, PairsBefore}

-- class a, and a rest that it adds up to the counts of the class that grows with
module _ {job : Job} {least : Least} {s : List ℕ} {start n a : ℕ} {c : List ℕ} (h : Halving job least s start n a c) (rest : List ℕ) (e : length rest ≡ job.count) (p : rules.plus (key_at job s a) rest ≡ c) where
  in_front : a < start
  in_front = omega (arith, h.class.some, h.class.ends)

  -- what record i of class a adds up to the counts with has the rest
  rest_of : (i q : ℕ) → a ≤ i → i < link_at s a end_link → q < start → pair_of job s i q ≡ c → key_at job s q ≡ rest
  rest_of i q lo hi x y =
      let be = h.growing.begins in
      let la = key_length h.ready a (omega (arith, in_front)) in
      plus_cancel (key_at job s a) (key_at job s q) rest (la ∙ sym (key_length h.ready q (omega arith))) (la ∙ sym e)
      (ap (λ k. rules.plus k (key_at job s q)) (sym (h.class.same i lo hi)) ∙ y ∙ sym p)

  -- there is no second half
  pub none_rests : ((q : ℕ) → q < start → key_at job s q ≡ rest → ⊥) → Came job start c (ClassPairs job least s start c a) s n s n
  none_rests f = came_self job h.ready.held h.growing (λ i lo hi w q x y able. absurd (f q x (rest_of i q lo hi x y)))

  module _ (b : ℕ) (k : Class job.count s start b) (is : key_at job s b ≡ rest) where
    whole_pair : pair_of job s a b ≡ c
    whole_pair = ap (rules.plus (key_at job s a)) is ∙ p

    -- what adds up to the counts with a record of class a is of class b
    second : (i q : ℕ) → a ≤ i → i < link_at s a end_link → q < start → pair_of job s i q ≡ c → (b ≤ q) × (q < link_at s b end_link)
    second i q lo hi x y = k.whole q x (rest_of i q lo hi x y ∙ sym is)

    pub rest_comes : (t : List ℕ) (r : Result ℕ ArenaFull) → Comes job start (pair_of job s a b) (PairIn job least s a b) s n t r → Comes job start c (ClassPairs job least s start c a) s n t r
    rest_comes t r g =
        comes_map job (PairIn job least s a b) (ClassPairs job least s start c a) t (λ l d _ f i lo hi w q x y able. let z = second i q lo hi x y in f w i lo hi q z.0 z.1 able) h.ready.held h.growing r
        (subst (λ d. Comes job start d (PairIn job least s a b) s n t r) whole_pair g)

-- the walk over first halves: those before p have been joined
pub record Walking (job : Job) (least : Least) (s : List ℕ) (start : ℕ) (c : List ℕ) (t : List ℕ) (n p : ℕ) : Type 0 where
  pub came : Came job start c (PairsBefore job least s start c p) s start t n
  pub begins : p < start → Begins job.count s p

module _ {job : Job} {least : Least} {s : List ℕ} {start half : ℕ} {c : List ℕ} (h : Sought job least s start half c) where
  pub walk_start : Walking job least s start c s start 0
  walk_start = record { came = came_self job h.ready.held h.growing (λ i x. absurd (omega arith)); begins = λ x q y. absurd (omega arith) }

  module _ {t : List ℕ} {n a : ℕ} (w : Walking job least s start c t n a) (x : a < half) where
    here : a < start
    here = omega (arith, h.turn.upto)

    class : Class job.count s start a
    class = class_at h.growing.directory here (w.begins here)

    pub walk_class : Class job.count t start a
    walk_class = class_kept h.growing.directory (omega arith) w.came.kept a class

    same_end : link_at t a end_link ≡ link_at s a end_link
    same_end = w.came.kept.links a end_link here (omega arith)

    record_stays : (i : ℕ) → i < start → record_at t i ≡ record_at s i
    record_stays i y = w.came.kept.records i y

    key_kept : (i : ℕ) → i < start → key_at job t i ≡ key_at job s i
    key_kept i y = ap (λ u. take job.count u.outline.counts) (record_stays i y)

    next_turn : link_at t a end_link < start → Begins job.count s (link_at t a end_link)
    next_turn y = subst (Begins job.count s) (sym same_end) (next_begins h.growing.directory class (omega (arith, same_end)))

    -- its counts are not within: no pair adds up
    pub walk_past : at_most (key_at job t a) c ≡ false → Walking job least s start c t n (link_at t a end_link)
    walk_past f = record { came = came_with job w.came (λ i y. by i y (dec_lt i a)); begins = next_turn }
      where
        by : (i : ℕ) → i < link_at t a end_link → Dec (i < a) → PairsOf job least s start c i (outlines_in job t n)
        by i y (yes z) = w.came.grown.has i z
        by i y (no z) = λ v q u e able.
            let k = class.same i (omega arith) (omega (arith, same_end)) in
            let la = key_length h.ready a here in
            let o = at_most_plus (key_at job s a) (key_at job s q) (la ∙ sym (key_length h.ready q u)) in
            absurd (true≢false (sym o ∙ ap (at_most (key_at job s a)) (ap (λ m. rules.plus m (key_at job s q)) (sym k) ∙ e) ∙ ap (λ m. at_most m c) (sym (key_kept a here)) ∙ f))

    pub walk_within : at_most (key_at job t a) c ≡ true → Within job least t start n a c
    walk_within f = record {
      halving = record { least_of = h.least_of; ready = record { range = h.ready.range; held = w.came.grown.held }; class = walk_class; growing = w.came.growing };
      within = f;
    }

    pub walk_next : {u : List ℕ} {m : ℕ} → Came job start c (ClassPairs job least t start c a) t n u m → Walking job least s start c u m (link_at t a end_link)
    walk_next g = record {
      came = came_then job (λ l d e f k i y. by l d e f k i y (dec_lt i a)) w.came g;
      begins = next_turn;
    }
      where
        by : (l d : List rules.Outline) → length l ≡ n → PairsBefore job least s start c a l → ClassPairs job least t start c a (l ++ d) → (i : ℕ) → i < link_at t a end_link → Dec (i < a) → PairsOf job least s start c i (l ++ d)
        by l d e f k i y (yes z) = λ v q u p able.
            let be = w.came.growing.begins in
            join_stays job v i q l d (omega (arith, here)) (omega arith) (f i z v q u p able)
        by l d e f k i y (no z) = λ v q u p able.
            let i-in : i < start = omega (arith, same_end, class.ends) in
            k i (omega arith) y v q u (ap₂ rules.plus (key_kept i i-in) (key_kept q u) ∙ p) (subst (Able (λ v. least_by v least) (turned v)) (ap (λ r. outline_of job.count r.outline) (sym (record_stays i i-in))) able)
