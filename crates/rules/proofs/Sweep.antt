-- What a sweep along a region shows: laws for the checker's two functions. Assumes nothing.
use mathlib.Core.Path.{◌≡◌, sym, ap, subst}
use mathlib.Core.Bool.{true, false, not}
use mathlib.Core.Logic.{◌⊎◌, inl, inr, ◌↔◌}
use mathlib.Core.List.{List, [], ◌∷◌, ◌++◌, append-nil}
use Prim.Native.Nat.{ℕ, ◌≤◌, ◌<◌, max}
use native.Mathlib.Omega.{arith}
use lib.ListN.{length}
use borrow.Author.Tests.{leb-true, lt-leb}
use Rattle.rules.specs.Bag.{other, All, nil, cons, Within, Same}
use Rattle.rules.proofs.Bags.{all_map, all_zip, all_head, all_tail, keep_none, count-append, length_keep, within_all, same_within}
use Rattle.rules.specs.Box.{Box, Way, along, across, near, far}
use Rattle.rules.specs.Parted.{before, after, clear, first, rest, Cut, CanBeParted, few, cut}
use Rattle.rules.proofs.Bools.{or_cases}
use Rattle.rules.proofs.Heredity.{part}
use Rattle.rules.proofs.Sides.{joined}

abbrev pub Thick : Way → Box → Type 0
Thick w p = near w p < far w p

-- each piece begins before the furthest edge of those before it, which is m at first
pub data Linked (w : Way) : ℕ → List Box → Type 0 where
  end : {m : ℕ} → Linked w m []
  next : {m : ℕ} {p : Box} {ps : List Box} → near w p < m → Linked w (max m (far w p)) ps → Linked w m (p ∷ ps)

-- pieces linked to an edge before the line stand before the line
linked_before : {w : Way} {m : ℕ} {ps : List Box} (line : ℕ) → m ≤ line → Linked w m ps → All (λ p. clear w line p ≡ true) ps → All (λ p. before w line p ≡ true) ps
linked_before line h end a = nil
linked_before {w} line h (next {m = m} {p = p} {ps = ps} n l) (cons c a) = go (or_cases (before w line p) (after w line p) c)
    (λ k. linked_before line k l a)
  where
    go : (before w line p ≡ true) ⊎ ((before w line p ≡ false) × (after w line p ≡ true)) → (max m (far w p) ≤ line → All (λ q. before w line q ≡ true) ps) → All (λ q. before w line q ≡ true) (p ∷ ps)
    go (inl e) r = cons e (r (omega (arith, leb-true (far w p) line e)))
    go (inr e) r = absurd (omega (arith, leb-true line (near w p) e.1))

-- a region whose first piece begins first, and whose others are linked to it, has no cut that way
pub no_cut : (w : Way) (p : Box) (ps : List Box) → All (λ q. near w p ≤ near w q) ps → All (Thick w) (p ∷ ps) → Linked w (far w p) ps → (line : ℕ) → ¬ Cut w line (p ∷ ps)
no_cut w p ps low thick l line c = go (or_cases (before w line p) (after w line p) (all_head c.whole))
  where
    go : (before w line p ≡ true) ⊎ ((before w line p ≡ false) × (after w line p ≡ true)) → ⊥
    go (inl e) =
        let a : All (λ q. before w line q ≡ true) (p ∷ ps) = cons e (linked_before line (leb-true (far w p) line e) l (all_tail c.whole)) in
        let z : rest w line (p ∷ ps) ≡ [] = keep_none (other (before w line)) (all_map (λ q k. ap not k) a) in
        omega (arith, c.some_rest, ap length z)
    go (inr e) =
        let h = leb-true line (near w p) e.1 in
        let a : All (λ q. before w line q ≡ false) (p ∷ ps) = cons e.0 (all_map (λ q k. lt-leb (far w q) line (omega (arith, h, k.0, k.1))) (all_zip low (all_tail thick))) in
        let z : first w line (p ∷ ps) ≡ [] = keep_none (before w line) a in
        omega (arith, c.some_first, ap length z)

-- a line between two lists
within_left : (ps qs : List Box) → Within ps (ps ++ qs)
within_left ps qs f = omega (arith, count-append f ps qs)

within_right : (ps qs : List Box) → Within qs (ps ++ qs)
within_right ps qs f = omega (arith, count-append f ps qs)

pub split_iff : (w : Way) (line : ℕ) (ps qs : List Box) → All (λ p. far w p ≤ line) ps → All (λ q. line ≤ near w q) qs → All (Thick w) qs → CanBeParted (ps ++ qs) ↔ (CanBeParted ps × CanBeParted qs)
split_iff w line ps qs a b t = ((λ h. (part h ps (within_left ps qs), part h qs (within_right ps qs))), (λ h. back ps qs a (all_map (λ q k. (k.0, omega (arith, k.0, k.1))) (all_zip b t)) h.0 h.1))
  where
    back : (ps qs : List Box) → All (λ p. far w p ≤ line) ps → All (λ q. (line ≤ near w q) × (line < far w q)) qs → CanBeParted ps → CanBeParted qs → CanBeParted (ps ++ qs)
    back [] qs a b p q = q
    back (x ∷ xs) [] a b p q = subst CanBeParted (sym (append-nil (x ∷ xs))) p
    back (x ∷ xs) (y ∷ ys) a b p q = joined w line (x ∷ xs) (y ∷ ys) a b (omega arith) (omega arith) p q

-- a region with no cut either way can be parted only if it has at most one piece
pub stuck : {ps : List Box} → ((line : ℕ) → ¬ Cut along line ps) → ((line : ℕ) → ¬ Cut across line ps) → CanBeParted ps → length ps ≤ 1
stuck a b (few h) = h
stuck a b (cut along line c pf pr) = absurd (a line c)
stuck a b (cut across line c pf pr) = absurd (b line c)

-- a cut does not depend on the order
pub cut_same : {w : Way} {line : ℕ} (ps : List Box) {qs : List Box} → Same ps qs → Cut w line qs → Cut w line ps
cut_same {w} {line} ps {qs} s c = record {
  whole = within_all (clear w line) (same_within ps qs s) c.whole;
  some_first = omega (arith, c.some_first, length_keep (before w line) ps, length_keep (before w line) qs, s (before w line));
  some_rest = omega (arith, c.some_rest, length_keep (other (before w line)) ps, length_keep (other (before w line)) qs, s (other (before w line)));
}
