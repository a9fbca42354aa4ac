-- Counts with one piece less: what they weigh, and as far as they have been looked for. Assumes nothing.
use mathlib.Core.Path.{◌≡◌, sym, ap, ◌∙◌, subst}
use mathlib.Core.List.{List}
use Prim.Native.Nat.{ℕ, ◌+◌, ◌-◌, ◌≤◌, ◌<◌}
use native.Mathlib.Omega.{arith}
use native.Mathlib.Decide.{ℕ_discrete}
use lib.ListN.{length, get_or, set, take}
use lib.Seq.{get_or-take, length-take-le, take-set-lt}
use Rattle.weighing.specs.Weights.{weight_of, weighed}
use Rattle.weighing.proofs.Laws.{weighed_less}
use Rattle.classes.specs.Directory.{counts_at, less_of}

module _ {types : ℕ} (counts : List ℕ) {t : ℕ} (among : t < types) where
  same_count : get_or (take types counts) t 0 ≡ get_or counts t 0
  same_count = get_or-take types counts t 0 among

  pub less_take : take types (less_of counts t) ≡ less_of (take types counts) t
  less_take = take-set-lt types counts t (get_or counts t 0 - 1) among ∙ ap (λ v. set (take types counts) t (v - 1)) (sym same_count)

  pub less_weighs : {weight w : ℕ} → types ≤ length counts → 0 < get_or counts t 0 → weight ≡ weighed 0 (take types counts) → w ≡ weight_of t → (w ≤ weight) × (weight - w ≡ weighed 0 (take types (less_of counts t)))
  less_weighs l h e f =
      let g = weighed_less (take types counts) t (omega (arith, length-take-le types counts l)) (omega (arith, same_count)) in
      (omega arith, omega (arith, ap (weighed 0) less_take))

-- as far as classes with one piece less have been found
pub record Finding (types : ℕ) (s : List ℕ) (n : ℕ) (c : List ℕ) (i : ℕ) : Type 0 where
  pub upto : i ≤ types
  pub found : (t : ℕ) → t < i → 0 < get_or c t 0 → (q : ℕ) × (q < n) × (counts_at types s q ≡ less_of c t)

pub finding_start : (types : ℕ) (s : List ℕ) (n : ℕ) (c : List ℕ) → Finding types s n c 0
finding_start types s n c = record { upto = omega arith; found = λ t l. absurd (omega arith) }

module _ {types : ℕ} {s : List ℕ} {n : ℕ} {c : List ℕ} {i : ℕ} (h : Finding types s n c i) where
  pub finding_more : i < types → (0 < get_or c i 0 → (q : ℕ) × (q < n) × (counts_at types s q ≡ less_of c i)) → Finding types s n c (i + 1)
  finding_more l f = record { upto = omega arith; found = λ t x. go t x (ℕ_discrete t i) }
    where
      go : (t : ℕ) → t < i + 1 → Dec (t ≡ i) → 0 < get_or c t 0 → (q : ℕ) × (q < n) × (counts_at types s q ≡ less_of c t)
      go t x (yes e) = subst (λ u. 0 < get_or c u 0 → (q : ℕ) × (q < n) × (counts_at types s q ≡ less_of c u)) (sym e) f
      go t x (no e) = h.found t (omega arith)
