-- An accepted list may be put in any order. Assumes nothing.
use mathlib.Core.Path.{◌≡◌, refl, sym, subst}
use mathlib.Core.Bool.{Bool, true, ◌&&◌}
use mathlib.Core.List.{List}
use lib.Dec.{eqb}
use borrow.Author.Tests.{eqb-true, eq-eqb}
use Rattle.rules.specs.Bag.{All, Same}
use Rattle.rules.specs.Box.{Box}
use Rattle.rules.specs.Job.{Job, AtMost}
use Rattle.rules.specs.Placed.{Placed, boxes, Accepted}
use Rattle.rules.proofs.Bools.{and_both, both_and}
use Rattle.rules.proofs.Bags.{all_same, same_map}
use Rattle.rules.proofs.Heredity.{reorder}
use Rattle.rules.proofs.Tally.{counts_same}

abbrev same_box : Box → Box → Bool
same_box b c = (eqb b.x c.x && eqb b.y c.y) && (eqb b.long c.long && eqb b.wide c.wide)

abbrev same_placed : Placed → Placed → Bool
same_placed p q = eqb p.type q.type && same_box p.box q.box

box_eq : (b c : Box) → same_box b c ≡ true → b ≡ c
box_eq b c e =
    let s = and_both (eqb b.x c.x && eqb b.y c.y) (eqb b.long c.long && eqb b.wide c.wide) e in
    let t = and_both (eqb b.x c.x) (eqb b.y c.y) s.0 in
    let u = and_both (eqb b.long c.long) (eqb b.wide c.wide) s.1 in
    λ i. record { x = eqb-true b.x c.x t.0 i; y = eqb-true b.y c.y t.1 i; long = eqb-true b.long c.long u.0 i; wide = eqb-true b.wide c.wide u.1 i }

placed_eq : (p q : Placed) → same_placed p q ≡ true → p ≡ q
placed_eq p q e =
    let s = and_both (eqb p.type q.type) (same_box p.box q.box) e in
    λ i. record { type = eqb-true p.type q.type s.0 i; box = box_eq p.box q.box s.1 i }

eq_placed : (p : Placed) → same_placed p p ≡ true
eq_placed p = both_and (eq-eqb p.type _ refl) (both_and (both_and (eq-eqb p.box.x _ refl) (eq-eqb p.box.y _ refl)) (both_and (eq-eqb p.box.long _ refl) (eq-eqb p.box.wide _ refl)))

-- what all of a list have, all have in another order
pub all_placed : {P : Placed → Type 0} (qs : List Placed) {ps : List Placed} → Same qs ps → All P ps → All P qs
all_placed qs s a = all_same same_placed placed_eq eq_placed qs s a

pub accepted_same : {j : Job} (qs : List Placed) {ps : List Placed} → Same qs ps → Accepted j ps → Accepted j qs
accepted_same {j} qs {ps} s a = record {
  known = all_placed qs s a.known;
  inside = all_placed qs s a.inside;
  demand = subst (λ c. AtMost c j.demands) (sym (counts_same j qs ps s)) a.demand;
  parted = reorder a.parted (boxes qs) (same_map (λ p. p.box) qs ps s);
}
