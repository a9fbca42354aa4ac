-- An order that counts up from 0. Assumes nothing.
use mathlib.Core.Path.{◌≡◌, refl, ◌∙◌}
use mathlib.Core.List.{List}
use Prim.Native.Nat.{ℕ, ◌+◌, ◌≤◌, ◌<◌}
use native.Mathlib.Omega.{arith}
use native.Mathlib.Decide.{ℕ_discrete}
use lib.ListN.{length, get_or, set, length-set}
use lib.Seq.{get_or-set_same, get_or-set_other}
use Rattle.laying.specs.Laid.{Counted}

pub record Numbering (was l : List ℕ) (i : ℕ) : Type 0 where
  pub same_length : length l ≡ length was
  pub within : i ≤ length l
  pub up : (k : ℕ) → k < i → get_or l k 0 ≡ k

pub numbering_start : (l : List ℕ) → Numbering l l 0
numbering_start l = record { same_length = refl; within = omega arith; up = λ k h. absurd (omega arith) }

module _ {was l : List ℕ} {i : ℕ} (g : Numbering was l i) where
  pub numbering_next : i < length l → Numbering was (set l i i) (i + 1)
  numbering_next h = record { same_length = simp length-set g.same_length; within = simp length-set (omega arith); up = λ k b. up k b (ℕ_discrete k i) }
    where
      up : (k : ℕ) → k < i + 1 → Dec (k ≡ i) → get_or (set l i i) k 0 ≡ k
      up k b (yes e) = rw e (get_or-set_same l i i 0 h)
      up k b (no e) = get_or-set_other l i k i 0 e ∙ g.up k (omega arith)

  pub numbering_end : length l ≤ i → Counted was l
  numbering_end h = record { same_length = g.same_length; up = λ k b. g.up k (omega arith) }
