-- The parts of counts are tried one after the other: each class that may be a first half has one of them as its counts. Assumes nothing.
use mathlib.Core.Path.{◌≡◌, refl, sym, ap, ap₂, ◌∙◌, subst}
use mathlib.Core.Logic.{◌⊎◌, inl, inr}
use mathlib.Core.List.{List, [], ◌∷◌, ◌++◌}
use Prim.Native.Nat.{ℕ, zero, suc, ◌+◌, ◌-◌, ◌≤◌, ◌<◌}
use native.Mathlib.Omega.{arith}
use lib.ListN.{length, take}
use lib.Seq.{ext_get_or, get_or-take, length-take-le}
use Rattle.rules.specs.Limits.{types_most}
use Rattle.rules.specs.Box.{Way}
use Rattle.rules.specs.Job as rules
use Rattle.rules.proofs.Classes.{turned}
use Rattle.rules.proofs.Halves.{Able}
use Rattle.rules.proofs.Tally.{length_plus}
use Rattle.shapes.specs.declared.Job.{Job}
use Rattle.outline.specs.declared.Least.{Least}
use Rattle.outline.specs.Stands.{outline_of, least_by}
use Rattle.weighing.specs.Weights.{weighed}
use Rattle.weighing.proofs.Laws.{weighed_plus}
use Rattle.classes.specs.Directory.{Class}
use Rattle.parts.specs.Parts.{digit, Portion, PortionOf, Part, Stuck, Behind, Earlier}
use Rattle.parts.proofs.Parts.{Same, earlier_step, earlier_end, earlier_none}
use Rattle.growing.specs.Growing.{Growing, Came, pair_of}
use Rattle.growing.proofs.Laws.{came_self, came_with, came_then}
use Rattle.growing.proofs.Rows.{join_stays}
use Rattle.outlines.specs.Listing.{JoinIn}
use Rattle.pairing.specs.Pairs.{key_at, AbleAt}
use Rattle.pairing.proofs.Laws.{key_length}
use Rattle.halving.specs.Halves.{PairsOf, Halving, PartWeighs, Trying, PartPairs, Sought, PairsBefore}

-- counts of two together
digit_plus : (k : ℕ) (a b : List ℕ) → length a ≡ length b → digit (rules.plus a b) k ≡ digit a k + digit b k
digit_plus k [] [] e = refl
digit_plus k [] (y ∷ b) e = absurd (omega arith)
digit_plus k (x ∷ a) [] e = absurd (omega arith)
digit_plus zero (x ∷ a) (y ∷ b) e = refl
digit_plus (suc k) (x ∷ a) (y ∷ b) e = digit_plus k a b (omega arith)

-- a part and its rest are the counts
pub portion_whole : {types : ℕ} {counts : List ℕ} {p : Portion} → PortionOf types counts p → types ≤ types_most → length counts ≡ types_most → rules.plus (take types p.part) (take types p.rest) ≡ take types counts
portion_whole {types} {counts} {p} h few e =
    let lp = length-take-le types p.part (omega (arith, h.long)) in
    let lr = length-take-le types p.rest (omega (arith, h.long_rest)) in
    let lc = length-take-le types counts (omega arith) in
    let ls = lp ∙ sym lr in
    let lw = length_plus (take types p.part) (take types p.rest) ls in
    ext_get_or 0 (rules.plus (take types p.part) (take types p.rest)) (take types counts) (lw ∙ lp ∙ sym lc)
    (λ k l. let m : k < types = omega arith in
    omega (arith, digit_plus k (take types p.part) (take types p.rest) ls, get_or-take types p.part k 0 m, get_or-take types p.rest k 0 m, get_or-take types counts k 0 m, h.adds k m))

-- what the rest weighs
pub rest_weighs : {job : Job} {part rest : List ℕ} {share weight : ℕ} → PartWeighs job part rest share weight → job.count ≤ types_most → (share ≤ weight) × (weight - share ≡ weighed 0 (take job.count rest))
rest_weighs {job} {part} {rest} h few =
    let lp = length-take-le job.count part (omega (arith, h.long)) in
    let lr = length-take-le job.count rest (omega (arith, h.long_rest)) in
    let s = weighed_plus 0 (take job.count part) (take job.count rest) (lp ∙ sym lr) in
    (omega (arith, h.part_weighs, h.whole_weighs), omega (arith, h.part_weighs, h.whole_weighs))

-- a part is tried
module _ {job : Job} {least : Least} {s : List ℕ} {start n half : ℕ} {c : List ℕ} (h : Trying job least s start n half c) (part : List ℕ) where
  module _ (a : ℕ) (k : Class job.count s start a) (is : key_at job s a ≡ part) where
    pub part_halving : {d : List ℕ} → c ≡ d → Halving job least s start n a d
    part_halving e = record { least_of = h.least_of; ready = h.ready; class = k; growing = subst (Growing job.count s start n) e h.growing }

-- as far as the odometer has come: what comes before the part has been tried
pub record InParts (job : Job) (least : Least) (s : List ℕ) (start half : ℕ) (counts : List ℕ) (t : List ℕ) (n : ℕ) (p : Portion) : Type 0 where
  pub of : PortionOf job.count counts p
  pub came : Came job start (take job.count counts) (λ l. (i : ℕ) → i < half → Earlier job.count (key_at job s i) p.part → PairsOf job least s start (take job.count counts) i l) s start t n

module _ {job : Job} {least : Least} {s : List ℕ} {start half : ℕ} (counts : List ℕ) (h : Sought job least s start half (take job.count counts)) where
  pub parts_start : (p : Portion) → PortionOf job.count counts p → ((k : ℕ) → digit p.part k ≡ 0) → InParts job least s start half counts s start p
  parts_start p o f = record { of = o; came = came_self job h.ready.held h.growing (λ i x e. absurd (earlier_none f e)) }

  module _ {t : List ℕ} {n : ℕ} {p : Portion} (w : InParts job least s start half counts t n p) where
    pub parts_trying : {c : List ℕ} → take job.count counts ≡ c → Trying job least t start n half c
    parts_trying e = record { least_of = h.least_of; ready = record { range = h.ready.range; held = w.came.grown.held }; upto = h.turn.upto; growing = subst (Growing job.count t start n) e w.came.growing }

    old_key : (i : ℕ) → i < start → key_at job t i ≡ key_at job s i
    old_key i x = ap (λ u. take job.count u.outline.counts) (w.came.kept.records i x)

    -- the counts of a first half are a part with at most half of the pieces
    a_part : (i q : ℕ) → i < half → q < start → pair_of job s i q ≡ take job.count counts → Part job.count counts (key_at job s i)
    a_part i q x y p =
        let z : i < start = omega (arith, h.turn.upto) in
        let li = key_length h.ready i z in
        record {
          long = li;
          within = λ k l. omega (arith, digit_plus k (key_at job s i) (key_at job s q) (li ∙ sym (key_length h.ready q y)), ap (λ u. digit u k) p, get_or-take job.count counts k 0 l);
          few = omega (arith, h.few i x);
        }

    is_part : (i : ℕ) → i < start → Same job.count (key_at job s i) p.part → key_at job s i ≡ take job.count p.part
    is_part i x f =
        let e = key_length h.ready i x in
        ext_get_or 0 (key_at job s i) (take job.count p.part) (e ∙ sym (length-take-le _ p.part (omega (arith, w.of.long, h.ready.range.count)))) (λ k l. f k (omega arith) ∙ sym (get_or-take job.count p.part k 0 (omega arith)))

    module _ {u : List ℕ} {m : ℕ} (g : Came job start (take job.count counts) (PartPairs job least t start half (take job.count counts) (take job.count p.part)) t n u m) where
      -- what comes before this part or is it has been tried now
      tried : (Q : List ℕ → Type 0) → ((x : List ℕ) → Part job.count counts x → Q x → Earlier job.count x p.part ⊎ Same job.count x p.part) → Came job start (take job.count counts) (λ l. (i : ℕ) → i < half → Q (key_at job s i) → PairsOf job least s start (take job.count counts) i l) s start u m
      tried Q f = came_then job (λ l d e old new i x r v q y z able. by l d e old new i x v q y z able (f (key_at job s i) (a_part i q x y z) r)) w.came g
        where
          by : (l d : List rules.Outline) → length l ≡ n → ((i : ℕ) → i < half → Earlier job.count (key_at job s i) p.part → PairsOf job least s start (take job.count counts) i l) → PartPairs job least t start half (take job.count counts) (take job.count p.part) (l ++ d) → (i : ℕ) → i < half → (v : Way) (q : ℕ) → q < start → pair_of job s i q ≡ take job.count counts → AbleAt job least s i v → Earlier job.count (key_at job s i) p.part ⊎ Same job.count (key_at job s i) p.part → JoinIn job v i q (l ++ d)
          by l d e old new i x v q y z able (inl r) =
              let b = w.came.growing.begins in
              join_stays job v i q l d (omega (arith, h.turn.upto)) (omega arith) (old i x r v q y z able)
          by l d e old new i x v q y z able (inr r) =
              let a : i < start = omega (arith, h.turn.upto) in
              new i x (old_key i a ∙ is_part i a r) v q y (ap₂ rules.plus (old_key i a) (old_key q y) ∙ z) (subst (Able (λ b. least_by b least) (turned v)) (ap (λ o. outline_of job.count o.outline) (sym (w.came.kept.records i a))) able)

      pub parts_next : {q : Portion} → PortionOf job.count counts q → Behind job.count counts p.part q.part → InParts job least s start half counts u m q
      parts_next {q} o b = record { of = o; came = tried (λ x. Earlier job.count x q.part) (λ x z r. earlier_step b z r) }

      pub parts_end : ((k : ℕ) → k < job.count → Stuck job.count counts p.part k) → Came job start (take job.count counts) (PairsBefore job least s start (take job.count counts) half) s start u m
      parts_end b = let z = tried (λ x. Unit {0}) (λ x z _. earlier_end b z) in came_with job z (λ i x. z.grown.has i x tt)
