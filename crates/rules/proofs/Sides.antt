-- The two sides of a line: boxes on both sides can be parted if each side can, and what can be parted does not overlap. Assumes nothing.
use mathlib.Core.Path.{◌≡◌, refl, sym, ap, ap₂, ◌∙◌, subst}
use mathlib.Core.Bool.{Bool, true, false, not}
use mathlib.Core.List.{List, [], ◌∷◌, ◌++◌, append-nil, Memᴰ}
use Prim.Native.Nat.{ℕ, ◌≤◌, ◌<◌}
use native.Mathlib.Nat.{le_trans}
use native.Mathlib.Omega.{arith}
use lib.ListN.{length}
use borrow.Author.Tests.{leb-true, le-leb, lt-leb}
use Rattle.rules.specs.Bag.{prepend, keep, other, All, nil, cons}
use Rattle.rules.specs.Box.{Box, Way, near, far, Apart, Disjoint, empty, more}
use Rattle.rules.specs.Parted.{before, after, first, rest, CanBeParted, few, cut}
use Rattle.rules.proofs.Bools.{or_left, or_right, or_second, not_false}
use Rattle.rules.proofs.Bags.{all_at, all_of, all_map, all_append, keep_append, keep_all, keep_none}
use Rattle.rules.proofs.Boxes.{apart_sym, apart_by}

-- a line with all of one list before it and all of another after it
pub joined : (w : Way) (line : ℕ) (ps qs : List Box) → All (λ p. far w p ≤ line) ps → All (λ q. (line ≤ near w q) × (line < far w q)) qs → 0 < length ps → 0 < length qs → CanBeParted ps → CanBeParted qs → CanBeParted (ps ++ qs)
joined w line ps qs a b n m p q =
    let f : first w line (ps ++ qs) ≡ ps = keep_append (before w line) ps qs ∙ ap₂ ◌++◌ (keep_all (before w line) (all_map (λ x h. le-leb _ _ h) a)) (keep_none (before w line) (all_map (λ x h. lt-leb _ _ h.1) b)) ∙ append-nil ps in
    let r : rest w line (ps ++ qs) ≡ qs = keep_append (other (before w line)) ps qs ∙ ap₂ ◌++◌ (keep_none (other (before w line)) (all_map (λ x h. ap not (le-leb _ _ h)) a)) (keep_all (other (before w line)) (all_map (λ x h. ap not (lt-leb _ _ h.1)) b)) in
    cut w line
    (record {
      whole = all_append (all_map (λ x h. or_left (after w line x) (le-leb _ _ h)) a) (all_map (λ x h. or_right (before w line x) (le-leb _ _ h.0)) b);
      some_first = subst (λ l. 0 < length l) (sym f) n;
      some_rest = subst (λ l. 0 < length l) (sym r) m;
    })
    (subst CanBeParted (sym f) p) (subst CanBeParted (sym r) q)

dis_head : {p : Box} {ps : List Box} → Disjoint (p ∷ ps) → All (Apart p) ps
dis_head (more a d) = a

dis_tail : {p : Box} {ps : List Box} → Disjoint (p ∷ ps) → Disjoint ps
dis_tail (more a d) = d

-- one side's relation to all of the other, from the two sides
spread : {P : Box → Type 0} (g : Box → Bool) (ps : List Box) → All P (keep g ps) → All (λ q. g q ≡ false → P q) ps → All P ps
spread g [] a b = nil
spread {P} g (q ∷ qs) a (cons h b) = go (g q) refl (λ k. spread g qs k b) a
  where
    go : (t : Bool) → g q ≡ t → (All P (keep g qs) → All P qs) → All P (prepend t q (keep g qs)) → All P (q ∷ qs)
    go true e r (cons k a) = cons k (r a)
    go false e r a = cons (h e) (r a)

merge : (g : Box → Bool) (ps : List Box) → ((p q : Box) → Memᴰ p ps → Memᴰ q ps → g p ≡ true → g q ≡ false → Apart p q) → Disjoint (keep g ps) → Disjoint (keep (other g) ps) → Disjoint ps
merge g [] f a b = empty
merge g (p ∷ ps) f a b = go (g p) refl (merge g ps (λ q r m n. f q r (Memᴰ.tail m) (Memᴰ.tail n))) a b
  where
    go : (t : Bool) → g p ≡ t → (Disjoint (keep g ps) → Disjoint (keep (other g) ps) → Disjoint ps) → Disjoint (prepend t p (keep g ps)) → Disjoint (prepend (not t) p (keep (other g) ps)) → Disjoint (p ∷ ps)
    go true e r (more h a) b = more (spread g ps h (all_of ps (λ q m k. f p q (Memᴰ.head refl) (Memᴰ.tail m) e k))) (r a b)
    go false e r a (more h b) = more (spread (other g) ps h (all_of ps (λ q m k. apart_sym q p (f q p (Memᴰ.tail m) (Memᴰ.head refl) (not_false (g q) k) e)))) (r a b)

pub parted_apart : {ps : List Box} → CanBeParted ps → Disjoint ps
parted_apart (few {bs = ps} h) = go ps h
  where
    go : (ps : List Box) → length ps ≤ 1 → Disjoint ps
    go [] h = empty
    go (p ∷ []) h = more nil empty
    go (p ∷ q ∷ qs) h = absurd (omega arith)
parted_apart (cut {bs = ps} w line c pf pr) =
    merge (before w line) ps (λ p q m n e f. apart_by w p q (le_trans (leb-true (far w p) line e) (leb-true line (near w q) (or_second (before w line q) (after w line q) (all_at c.whole n) (ap not f))))) (parted_apart pf) (parted_apart pr)
