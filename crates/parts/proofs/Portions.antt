-- A part of counts goes up in one count, or begins again there; and so it comes to the part behind it. Assumes nothing.
use mathlib.Core.Path.{◌≡◌, refl, sym, ap, ◌∙◌, subst}
use mathlib.Core.Logic.{◌⊎◌, inl, inr}
use mathlib.Core.List.{List, [], ◌∷◌}
use Prim.Native.Nat.{ℕ, zero, suc, ◌+◌, ◌*◌, ◌-◌, ◌/◌, ◌≤◌, ◌<◌}
use native.Mathlib.Omega.{arith}
use native.Mathlib.Decide.{ℕ_discrete}
use lib.ListN.{length, get_or, set, take, replicate, length-set}
use lib.Seq.{get_or-take, length-take-le, take-set-lt, get_or-set_same, get_or-set_other}
use Rattle.rules.specs.Bag.{sum}
use Rattle.rules.specs.Limits.{types_most}
use Rattle.tally.specs.Bounds.{counts_most}
use Rattle.weighing.specs.Weights.{weight_most, weight_of, weighed}
use Rattle.weighing.proofs.Laws.{weighed_set, weighed_most}
use Rattle.std.specs.Prelude.{Some, None}
use Rattle.parts.specs.declared.Step.{Step}
use Rattle.parts.specs.Parts.{digit, Portion, PortionOf, Risen, Stuck, Stepped}
use Rattle.parts.proofs.Parts.{stuck_full, stuck_spare}

sum-set : (l : List ℕ) (i v : ℕ) → i < length l → sum (set l i v) + get_or l i 0 ≡ sum l + v
sum-set [] i v h = absurd (omega arith)
sum-set (x ∷ l) zero v h = omega arith
sum-set (x ∷ l) (suc i) v h = omega (arith, sum-set l i v (omega arith))

-- the part of nothing
pub zero_digit : (n k : ℕ) → digit (replicate {A = ℕ} n 0) k ≡ 0
zero_digit zero k = refl
zero_digit (suc n) zero = refl
zero_digit (suc n) (suc k) = zero_digit n k

nothing_weighs : (t : ℕ) (l : List ℕ) → ((k : ℕ) → digit l k ≡ 0) → (weighed t l ≡ 0) × (sum l ≡ 0)
unfolding weighed
nothing_weighs t [] f = (refl, refl)
nothing_weighs t (x ∷ l) f =
    let r = nothing_weighs (suc t) l (λ k. f (suc k)) in
    let e : x * weight_of t ≡ 0 = ap (λ z. z * weight_of t) (f 0) ∙ omega arith in
    (omega (arith, r.0), omega (arith, f 0, r.1))

take_zeros : (n : ℕ) (l : List ℕ) → ((k : ℕ) → digit l k ≡ 0) → (k : ℕ) → digit (take n l) k ≡ 0
take_zeros zero l f k = refl
take_zeros (suc n) [] f k = refl
take_zeros (suc n) (x ∷ l) f zero = f 0
take_zeros (suc n) (x ∷ l) f (suc k) = take_zeros n l (λ j. f (suc j)) k

pub portion_start : {types : ℕ} {c : List ℕ} (part : List ℕ) → length c ≡ types_most → length part ≡ types_most → ((k : ℕ) → digit part k ≡ 0) → (n : ℕ) → n ≡ sum (take types c) → n ≤ counts_most → PortionOf types c (record { part = part; rest = c; weight = 0; spare = n / 2 })
portion_start {types} {c} part lc lp z n e m =
    let w = nothing_weighs 0 (take types part) (take_zeros types part z) in
    record {
      long = lp;
      long_rest = lc;
      adds = λ k l. omega (arith, z k);
      weighs = sym w.0;
      spares = omega (arith, w.1, ap (λ k. k / 2) e);
      small = omega arith;
    }

module _ {types : ℕ} {c : List ℕ} {p : Portion} (h : PortionOf types c p) (few : types ≤ types_most) where
  part_long : length (take types p.part) ≡ types
  part_long = length-take-le types p.part (omega (arith, h.long))

  -- a part is not heavy
  pub light : p.weight ≤ counts_most * weight_most
  light =
      let m = weighed_most 0 (take types p.part) in
      omega (arith, h.weighs, h.spares, h.small)

  module _ (t : ℕ) (among : t < types) where
    part_at : digit (take types p.part) t ≡ digit p.part t
    part_at = get_or-take types p.part t 0 among

    -- one count is exchanged
    weight_set : (v : ℕ) → weighed 0 (take types (set p.part t v)) + digit p.part t * weight_of t ≡ p.weight + v * weight_of t
    weight_set v =
        let e = weighed_set 0 (take types p.part) t v (omega (arith, part_long)) t (omega arith) in
        omega (arith, h.weighs, ap (weighed 0) (take-set-lt types p.part t v among), ap (λ z. z * weight_of t) part_at)

    pieces_set : (v : ℕ) → sum (take types (set p.part t v)) + digit p.part t ≡ sum (take types p.part) + v
    pieces_set v = omega (arith, sum-set (take types p.part) t v (omega (arith, part_long)), ap sum (take-set-lt types p.part t v among), part_at)

    adds_set : (v w : ℕ) → v + w ≡ digit c t → (k : ℕ) → k < types → digit (set p.part t v) k + digit (set p.rest t w) k ≡ digit c k
    adds_set v w e k l = go (ℕ_discrete k t)
      where
        go : Dec (k ≡ t) → digit (set p.part t v) k + digit (set p.rest t w) k ≡ digit c k
        go (yes z) =
            omega (arith, ap (digit (set p.part t v)) z, ap (digit (set p.rest t w)) z, ap (digit c) z, get_or-set_same p.part t v 0 (omega (arith, h.long)), get_or-set_same p.rest t w 0 (omega (arith, h.long_rest)))
        go (no z) = omega (arith, h.adds k l, get_or-set_other p.part t k v 0 z, get_or-set_other p.rest t k w 0 z)

    -- what the count weighs is part of the weight
    pub count_weighs : digit p.part t * weight_of t ≤ p.weight
    count_weighs = omega (arith, weight_set 0)

    -- the count begins again
    pub began : (n m w v : ℕ) → n ≡ digit p.part t → m ≡ digit p.part t → w ≡ weight_of t → v ≡ digit c t → PortionOf types c (record { part = set p.part t 0; rest = set p.rest t v; weight = p.weight - n * w; spare = p.spare + m })
    began n m w v en em ew ev =
        let z : n * w ≡ digit p.part t * weight_of t = λ i. en i * ew i in
        record {
          long = simp length-set h.long;
          long_rest = simp length-set h.long_rest;
          adds = adds_set 0 v (omega arith);
          weighs = omega (arith, weight_set 0, count_weighs);
          spares = omega (arith, pieces_set 0, h.spares);
          small = h.small;
        }

    -- it goes up
    pub risen : (w : ℕ) → w ≡ weight_of t → 0 < p.spare → 0 < digit p.rest t → PortionOf types c (record { part = set p.part t (suc (digit p.part t)); rest = set p.rest t (digit p.rest t - 1); weight = p.weight + w; spare = p.spare - 1 })
    risen w ew s l =
        let a = h.adds t among in
        let v = suc (digit p.part t) in
        let z : v * weight_of t ≡ digit p.part t * weight_of t + w = omega arith in
        record {
          long = simp length-set h.long;
          long_rest = simp length-set h.long_rest;
          adds = adds_set v (digit p.rest t - 1) (omega arith);
          weighs = omega (arith, weight_set v);
          spares = omega (arith, pieces_set v, h.spares);
          small = h.small;
        }

-- as far as the odometer has turned: the counts before i could not go up, and have begun again
pub record Turning (types : ℕ) (c d : List ℕ) (q : Portion) (i : ℕ) : Type 0 where
  pub upto : i ≤ types
  pub of : PortionOf types c q
  pub stuck : (k : ℕ) → k < i → Stuck types c d k
  pub again : (k : ℕ) → k < i → digit q.part k ≡ 0
  pub same : (k : ℕ) → i ≤ k → digit q.part k ≡ digit d k

pub turning_start : {types : ℕ} {c : List ℕ} {p : Portion} → PortionOf types c p → Turning types c p.part p 0
turning_start h = record { upto = omega arith; of = h; stuck = λ k l. absurd (omega arith); again = λ k l. absurd (omega arith); same = λ k l. refl }

module _ {types : ℕ} {c d : List ℕ} {q : Portion} {i : ℕ} (t : Turning types c d q i) (few : types ≤ types_most) where
  module _ (more : i < types) where
    -- the count can go no further
    pub now_stuck : (q.spare ≡ 0) ⊎ (digit q.rest i ≡ 0) → Stuck types c d i
    now_stuck (inl z) =
        stuck_spare c d (take types q.part) more (part_long t.of few) (λ j l. get_or-take types q.part j 0 (omega arith) ∙ t.again j l)
        (λ j a b. get_or-take types q.part j 0 b ∙ t.same j a) (omega (arith, t.of.spares))
    now_stuck (inr z) = stuck_full c d more (omega (arith, t.of.adds i more, t.same i (omega arith)))

    turning_more : Stuck types c d i → (n m w v : ℕ) → n ≡ digit q.part i → m ≡ digit q.part i → w ≡ weight_of i → v ≡ digit c i → Turning types c d (record { part = set q.part i 0; rest = set q.rest i v; weight = q.weight - n * w; spare = q.spare + m }) (i + 1)
    turning_more z n m w v en em ew ev = record {
      upto = omega arith;
      of = began t.of few i more n m w v en em ew ev;
      stuck = λ k l. before k l (ℕ_discrete k i);
      again = λ k l. zeros k l (ℕ_discrete k i);
      same = λ k l. get_or-set_other q.part i k 0 0 (λ e. omega arith) ∙ t.same k (omega arith);
    }
      where
        before : (k : ℕ) → k < i + 1 → Dec (k ≡ i) → Stuck types c d k
        before k l (yes e) = subst (Stuck types c d) (sym e) z
        before k l (no e) = t.stuck k (omega arith)

        zeros : (k : ℕ) → k < i + 1 → Dec (k ≡ i) → digit (set q.part i 0) k ≡ 0
        zeros k l (yes e) = ap (digit (set q.part i 0)) e ∙ get_or-set_same q.part i 0 0 (omega (arith, t.of.long))
        zeros k l (no e) = get_or-set_other q.part i k 0 0 e ∙ t.again k (omega arith)

    -- the same, where it was written
    pub turning_again : Stuck types c d i → {part rest : List ℕ} (n m w v : ℕ) → n ≡ digit q.part i → m ≡ digit q.part i → w ≡ weight_of i → v ≡ digit c i → part ≡ set q.part i 0 → rest ≡ set q.rest i v → Turning types c d (record { part = part; rest = rest; weight = q.weight - n * w; spare = q.spare + m }) (i + 1)
    turning_again z {part} {rest} n m w v en em ew ev ep er =
        subst (λ x. Turning types c d (record { part = x; rest = rest; weight = q.weight - n * w; spare = q.spare + m }) (i + 1)) (sym ep)
        (subst (λ x. Turning types c d (record { part = set q.part i 0; rest = x; weight = q.weight - n * w; spare = q.spare + m }) (i + 1)) (sym er) (turning_more z n m w v en em ew ev))

    pub turning_up : {part rest : List ℕ} → Risen i q.part q.rest part rest → (r : Step) → 0 < q.spare → 0 < digit q.rest i → r.weight ≡ q.weight + weight_of i → r.spare ≡ q.spare - 1 → Stepped types c d part rest (Some r)
    turning_up {part} {rest} u r s l ew es =
        let o = risen t.of few i more (weight_of i) refl s l in
        let x : suc (digit q.part i) ≡ suc (digit d i) = ap suc (t.same i (omega arith)) in (
          record {
            long = ap length u.up ∙ o.long;
            long_rest = ap length u.down ∙ o.long_rest;
            adds = λ k m. omega (arith, ap (λ v. digit v k) u.up, ap (λ v. digit v k) u.down, o.adds k m);
            weighs = ew ∙ o.weighs ∙ ap (λ v. weighed 0 (take types v)) (sym u.up);
            spares = omega (arith, es, ap (λ v. sum (take types v)) u.up, o.spares);
            small = o.small;
          },
          record {
            at = i;
            among = more;
            byte = omega (arith, u.byte, t.same i (omega arith));
            up = ap (λ v. digit v i) u.up ∙ get_or-set_same q.part i (suc (digit q.part i)) 0 (omega (arith, t.of.long)) ∙ x;
            stuck = t.stuck;
            again = λ k m. ap (λ v. digit v k) u.up ∙ get_or-set_other q.part i k (suc (digit q.part i)) 0 (λ e. omega arith) ∙ t.again k m;
            stays = λ k m n. ap (λ v. digit v k) u.up ∙ get_or-set_other q.part i k (suc (digit q.part i)) 0 (λ e. omega arith) ∙ t.same k (omega arith);
          },
        )

  -- no count could go up
  pub turning_end : types ≤ i → Stepped types c d q.part q.rest None
  turning_end l = ((record { weight = q.weight; spare = q.spare }, t.of), λ k m. t.stuck k (omega arith))
