-- Sums over the types, place by place, and the order of outlines, test by test. Assumes nothing.
use mathlib.Core.Path.{◌≡◌, refl, sym, ap, ◌∙◌, subst}
use mathlib.Core.Bool.{Bool, true≢false}
use mathlib.Core.Logic.{inl, inr}
use mathlib.Core.List.{List, [], ◌∷◌}
use Prim.Native.Nat.{ℕ, zero, suc, ◌+◌, ◌*◌, ◌<◌}
use native.Mathlib.Omega.{arith}
use native.Mathlib.Numerals.{add-one}
use lib.ListN.{length, get_or, take}
use borrow.Author.Count.{below_more}
use Rattle.std.proofs.Common.{Ordering, Less, Equal, Greater}
use Rattle.std.specs.Prelude.{Option, Some}
use Rattle.std.specs.Cmp.Lexicographic.{slice_partial_cmp}
use Rattle.std.specs.Ordering.{MatchOrdering, is_le, is_some_and, nat_cmp, partial_ordering_then}
use Rattle.std.proofs.lemmas.Cmp.{ranked}
use Rattle.rules.specs.Job.{Outline as Build, dot, profit, tie_order, AtLeastAsGood}
use Rattle.rules.proofs.Order.{good_refl, good_trans}
use Rattle.shapes.specs.declared.Job.{Job}
use Rattle.outline.specs.declared.Outline.{Outline}
use Rattle.outline.specs.Stands.{job_for, outline_of}
use Rattle.arena.specs.declared.Record.{Record}
use Rattle.arena.specs.Records.{record_at, Loaded}
use Rattle.choice.specs.Best.{InTurn, Better}

-- one type more
dot_at : (c ps : List ℕ) (i : ℕ) → i < length c → i < length ps → dot (take (suc i) c) ps ≡ dot (take i c) ps + get_or c i 0 * get_or ps i 0
dot_at [] ps i h k = absurd (omega arith)
dot_at (c ∷ cs) [] i h k = absurd (omega arith)
dot_at (c ∷ cs) (p ∷ ps) zero h k = omega arith
dot_at (c ∷ cs) (p ∷ ps) (suc i) h k = omega (arith, dot_at cs ps i (omega arith) (omega arith))

pub dot_more : (c ps : List ℕ) (i : ℕ) → i < length c → i < length ps → dot (take (i + 1) c) ps ≡ dot (take i c) ps + get_or c i 0 * get_or ps i 0
dot_more c ps i h k = ap (λ n. dot (take n c) ps) (add-one i) ∙ dot_at c ps i h k

-- two lists of numbers in std's order: the first place where they differ decides
abbrev up_to : Option Ordering → Bool
up_to o = is_some_and is_le o

turn_same : (a b : ℕ) {l m : List ℕ} {r : Bool} → a ≡ b → InTurn l m r → InTurn (a ∷ l) (b ∷ m) r
turn_same a b p t = record { yes_if = λ e. inr (p, t.yes_if e); no_if = λ e. inr (sym p, t.no_if e) }

turn_then : (a b : ℕ) {l m : List ℕ} (o : Option Ordering) → InTurn l m (up_to o) → InTurn (a ∷ l) (b ∷ m) (up_to (partial_ordering_then (Some (nat_cmp a b)) o))
turn_then a b {l} {m} o t = go (nat_cmp a b) (ranked a b (nat_cmp a b) refl)
  where
    go : (r : Ordering) → MatchOrdering r (a < b) (a ≡ b) (b < a) → InTurn (a ∷ l) (b ∷ m) (up_to (partial_ordering_then (Some r) o))
    go Less h = record { yes_if = λ e. inl h; no_if = λ e. absurd (true≢false e) }
    go Equal h = turn_same a b h t
    go Greater h = record { yes_if = λ e. absurd (true≢false (sym e)); no_if = λ e. inl h }

in_turn : (l m : List ℕ) → length l ≡ length m → InTurn l m (up_to (slice_partial_cmp (λ x y. Some (nat_cmp x y)) l m))
in_turn [] [] h = record { yes_if = λ e. tt; no_if = λ e. absurd (true≢false e) }
in_turn [] (y ∷ m) h = absurd (omega arith)
in_turn (x ∷ l) [] h = absurd (omega arith)
in_turn (x ∷ l) (y ∷ m) h = turn_then x y _ (in_turn l m (omega arith))

-- two outlines: profit first, then length, width and counts
module _ (job : Job) (a b : Outline) where
  abbrev one : Build
  one = outline_of job.count a

  abbrev other : Build
  other = outline_of job.count b

  by_turn : {r : Bool} → profit (job_for job) one ≡ profit (job_for job) other → InTurn (tie_order one) (tie_order other) r → Better job a b r
  by_turn e t = record { yes_if = λ r. inr (sym e, t.yes_if r); no_if = λ r. inr (e, t.no_if r) }

  abbrev behind : Option Ordering
  behind = partial_ordering_then (Some (nat_cmp a.width.0 b.width.0)) (slice_partial_cmp (λ x y. Some (nat_cmp x y)) (take job.count a.counts) (take job.count b.counts))

  pub better : (p q : ℕ) → p ≡ profit (job_for job) one → q ≡ profit (job_for job) other → length (take job.count a.counts) ≡ length (take job.count b.counts)
      → Better job a b (up_to (partial_ordering_then (partial_ordering_then (partial_ordering_then (Some (nat_cmp q p)) (Some (nat_cmp a.length.0 b.length.0))) (Some (nat_cmp a.width.0 b.width.0))) (slice_partial_cmp (λ x y. Some (nat_cmp x y)) (take job.count a.counts) (take job.count b.counts))))
  better p q ep eq h = go (nat_cmp q p) (ranked q p (nat_cmp q p) refl) (nat_cmp a.length.0 b.length.0) ties
    where
      ties : InTurn (tie_order one) (tie_order other) (up_to (partial_ordering_then (Some (nat_cmp a.length.0 b.length.0)) behind))
      ties = turn_then _ _ _ (turn_then _ _ _ (in_turn _ _ h))

      go : (r : Ordering) → MatchOrdering r (q < p) (q ≡ p) (p < q) → (s : Ordering) → InTurn (tie_order one) (tie_order other) (up_to (partial_ordering_then (Some s) behind))
          → Better job a b (up_to (partial_ordering_then (partial_ordering_then (partial_ordering_then (Some r) (Some s)) (Some (nat_cmp a.width.0 b.width.0))) (slice_partial_cmp (λ x y. Some (nat_cmp x y)) (take job.count a.counts) (take job.count b.counts))))
      go Less k s t = record { yes_if = λ e. inl (omega arith); no_if = λ e. absurd (true≢false e) }
      go Greater k s t = record { yes_if = λ e. absurd (true≢false (sym e)); no_if = λ e. inl (omega arith) }
      go Equal k Less t = by_turn (omega arith) t
      go Equal k Equal t = by_turn (omega arith) t
      go Equal k Greater t = by_turn (omega arith) t

-- record `at`, whose outline is `top`, is at least as good as each before i
pub record Leads (job : Job) (s : List ℕ) (top : Outline) (at i : ℕ) : Type 0 where
  pub low : at < i
  pub is : top ≡ (record_at s at).outline
  pub over : (k : ℕ) → k < i → AtLeastAsGood (job_for job) (outline_of job.count top) (outline_of job.count (record_at s k).outline)

module _ (job : Job) (s : List ℕ) where
  abbrev seen : ℕ → Build
  seen k = outline_of job.count (record_at s k).outline

  pub leads_first : (r : Record) → Loaded (record_at s 0) r → Leads job s r.outline 0 1
  leads_first r l =
      let e = ap (λ (x : Record). x.outline) l.is in
      record {
        low = omega arith;
        is = e;
        over = λ k h. subst (λ n. AtLeastAsGood (job_for job) (outline_of job.count r.outline) (seen n)) (let z : 0 ≡ k = omega arith in z) (subst (λ o. AtLeastAsGood (job_for job) (outline_of job.count r.outline) (outline_of job.count o)) e (good_refl (job_for job) (outline_of job.count r.outline)));
      }

  module _ (top : Outline) (at i : ℕ) (g : Leads job s top at i) (r : Record) (l : Loaded (record_at s i) r) where
    pub leads_new : AtLeastAsGood (job_for job) (outline_of job.count r.outline) (outline_of job.count top) → Leads job s r.outline i (i + 1)
    leads_new b =
        let e = ap (λ (x : Record). x.outline) l.is in
        record {
          low = omega arith;
          is = e;
          over = below_more (λ k. AtLeastAsGood (job_for job) (outline_of job.count r.outline) (seen k)) i
              (λ k h. good_trans (job_for job) (outline_of job.count r.outline) (outline_of job.count top) (seen k) b (g.over k h))
              (subst (λ o. AtLeastAsGood (job_for job) (outline_of job.count r.outline) (outline_of job.count o)) e (good_refl (job_for job) (outline_of job.count r.outline)));
        }

    pub leads_old : AtLeastAsGood (job_for job) (outline_of job.count top) (outline_of job.count r.outline) → Leads job s top at (i + 1)
    leads_old b = record {
      low = omega (arith, g.low);
      is = g.is;
      over = below_more (λ k. AtLeastAsGood (job_for job) (outline_of job.count top) (seen k)) i g.over
          (subst (λ (x : Record). AtLeastAsGood (job_for job) (outline_of job.count top) (outline_of job.count x.outline)) l.is b);
    }
