-- Cuts along and cuts across take turns: the laws of one turn, over the way. Assumes nothing.
use mathlib.Core.Path.{◌≡◌, sym, ap, ◌∙◌, subst}
use mathlib.Core.Bool.{Bool, true, false, true≢false}
use mathlib.Core.List.{List, [], ◌++◌, append-nil}
use Prim.Native.Nat.{ℕ, suc, ◌*◌, ◌-◌, ◌≤◌, ◌<◌}
use native.Mathlib.Omega.{arith}
use lib.ListN.{length, take, drop, take-append-drop, length-take, length-drop, length-append, drop_of_length-le, length-map}
use lib.Seq.{take_all, take_at, drop_at}
use Rattle.rules.specs.Bag.{tick, count, All, Same}
use Rattle.rules.specs.Box.{Way, along, across}
use Rattle.rules.specs.Parted.{CanBeParted, few}
use Rattle.rules.proofs.Bags.{count-append, same_refl, same_trans, same_sym, same_length, same_map, map-append, all_map, all_image, all_take, all_drop}
use Rattle.rules.proofs.Heredity.{reorder}
use Rattle.rules.proofs.Sweep.{split_iff, stuck, cut_same}
use Rattle.parting.specs.declared.Lines.{Lines}
use Rattle.parting.specs.Region.{other_way, box_at, boxes_of, Listed, NoCut, Divided, Asks, Answers}
use Rattle.parting.proofs.Spans.{all_reordered}

module _ {A : Type 0} where
  same_front : (k : ℕ) (a l : List A) → Same a (take k l) → Same (a ++ drop k l) l
  same_front k a l s f = omega (arith, ap (count f) (take-append-drop k l), s f, count-append f a (drop k l), count-append f (take k l) (drop k l))

  same_both : (k : ℕ) (a b l : List A) → Same a (take k l) → Same b (drop k l) → Same (a ++ b) l
  same_both k a b l s t f = omega (arith, ap (count f) (take-append-drop k l), s f, t f, count-append f a b, count-append f (take k l) (drop k l))

tick_least : (b : Bool) (n : ℕ) → n ≤ tick b n
tick_least true n = omega arith
tick_least false n = omega arith

no_cut_same : (w : Way) (s : List Lines) (l l1 : List ℕ) → Same l1 l → NoCut w (boxes_of s l) → NoCut w (boxes_of s l1)
no_cut_same w s l l1 e n line c = n line (cut_same (boxes_of s l) (same_map (box_at s) l l1 (same_sym l1 l e)) c)

-- two boxes or more that no line of either way divides cannot be parted
no_way : (w : Way) (s : List Lines) (l : List ℕ) → 2 ≤ length l → NoCut w (boxes_of s l) → NoCut (other_way w) (boxes_of s l) → ¬ CanBeParted (boxes_of s l)
no_way along s l h n m p = omega (arith, stuck n m p, length-map l (box_at s))
no_way across s l h n m p = omega (arith, stuck m n p, length-map l (box_at s))

pub answers_length : {s : List Lines} {was now : List ℕ} {r : Bool} → Answers s was now r → length now ≡ length was
answers_length {was = was} {now = now} a = same_length now was a.same

pub few_answers : {s : List Lines} {l : List ℕ} → length l < 2 → Answers s l l true
few_answers {s} {l} h = record { same = same_refl l; yes_if = λ e. few {bs = boxes_of s l} (omega (arith, length-map l (box_at s))); no_if = λ e p. true≢false e }

module _ {s : List Lines} {l l1 : List ℕ} {w : Way} {k : ℕ} {fresh : Bool} (d : Divided s w l l1 k) (asks : Asks s w l fresh) where
  listed_after : All (Listed s) l1
  listed_after = all_reordered l1 d.same asks.listed

  parted_after : CanBeParted (boxes_of s l) → CanBeParted (boxes_of s l1)
  parted_after p = reorder p (boxes_of s l1) (same_map (box_at s) l1 l d.same)

  parted_before : CanBeParted (boxes_of s l1) → CanBeParted (boxes_of s l)
  parted_before p = reorder p (boxes_of s l) (same_map (box_at s) l l1 (same_sym l1 l d.same))

  whole : k ≡ length l1 → NoCut w (boxes_of s l1)
  whole e = subst (λ t. NoCut w (boxes_of s t)) (take_all k l1 (omega arith)) d.part.uncut

  -- no line of the one way, and none of the other
  pub stuck_answers : 2 ≤ length l → k ≡ length l1 → fresh ≡ false → Answers s l l1 false
  stuck_answers h e f = record {
    same = d.same;
    yes_if = λ q. absurd (true≢false (sym q));
    no_if = λ q. no_way w s l h (no_cut_same w s l1 l (same_sym l1 l d.same) (whole e)) (asks.uncut f);
  }

  -- no line of the one way: the other takes its turn
  pub turn_asks : k ≡ length l1 → (u : Way) → other_way u ≡ w → Asks s u l1 false
  turn_asks e u o = record { listed = listed_after; uncut = λ z. rw o (whole e) }

  pub turn_falls : (t : ℕ) → tick fresh (2 * length l) ≡ t → fresh ≡ true → 2 * length l1 < t
  turn_falls t e n = omega (arith, same_length l1 l d.same, sym (ap (λ b. tick b (2 * length l)) n) ∙ e)

  pub turn_answers : {l2 : List ℕ} {r : Bool} → Answers s l1 l2 r → Answers s l l2 r
  turn_answers {l2} a = record {
    same = same_trans l2 l1 l a.same d.same;
    yes_if = λ q. parted_before (a.yes_if q);
    no_if = λ q p. a.no_if q (parted_after p);
  }

  -- the first part has no line of the one way, so the other takes its turn
  pub first_asks : (u : Way) → other_way u ≡ w → Asks s u (take k l1) false
  first_asks u o = record { listed = all_take k listed_after; uncut = λ z. rw o d.part.uncut }

  pub first_falls : (t : ℕ) → tick fresh (2 * length l) ≡ t → (k ≡ length l1 → ⊥) → 2 * length (take k l1) < t
  first_falls t e n = simp length-take (omega (arith, same_length l1 l d.same, d.part.within, tick_least fresh (2 * length l), e))

  -- the region can be parted exactly if the first part and the rest can
  sides : (CanBeParted (boxes_of s l1) → CanBeParted (boxes_of s (take k l1)) × CanBeParted (boxes_of s (drop k l1))) × (CanBeParted (boxes_of s (take k l1)) → CanBeParted (boxes_of s (drop k l1)) → CanBeParted (boxes_of s l1))
  sides =
      let b = d.part.between in
      let x = split_iff w b.line (boxes_of s (take k l1)) (boxes_of s (drop k l1)) b.before b.after (all_image (box_at s) (all_map (λ v h. h.thick w) (all_drop k listed_after))) in
      let e : boxes_of s (take k l1) ++ boxes_of s (drop k l1) ≡ boxes_of s l1 = sym (map-append (box_at s) (take k l1) (drop k l1)) ∙ ap (boxes_of s) (take-append-drop k l1) in
      ((λ p. x.0 (subst CanBeParted (sym e) p)), (λ p q. subst CanBeParted e (x.1 (p, q))))

  pub false_answers : {a : List ℕ} {r : Bool} → Answers s (take k l1) a r → r ≡ false → Answers s l (a ++ drop k l1) r
  false_answers {a} f e = record {
    same = same_trans (a ++ drop k l1) l1 l (same_front k a l1 f.same) d.same;
    yes_if = λ q. absurd (true≢false (sym q ∙ e));
    no_if = λ q p. f.no_if q (sides.0 (parted_after p)).0;
  }

  module _ {a : List ℕ} {r : Bool} (f : Answers s (take k l1) a r) (yes : r ≡ true) where
    pub long : length a ≡ k
    long = same_length a (take k l1) f.same ∙ simp length-take (omega (arith, d.part.within))

    pub rest_is : take (length (a ++ drop k l1) - k) (drop k (a ++ drop k l1)) ≡ drop k l1
    rest_is = take_all (length (a ++ drop k l1) - k) (drop k (a ++ drop k l1)) (simp length-drop (omega arith)) ∙ drop_at a (drop k l1) k long

    pub whole_length : length (a ++ drop k l1) ≡ length l
    whole_length = simp (length-append, length-drop) (omega (arith, long, d.part.within, same_length l1 l d.same))

    pub first_within : k ≤ length (a ++ drop k l1)
    first_within = omega (arith, whole_length, same_length l1 l d.same, d.part.within)

    pub rest_falls : (t : ℕ) → tick fresh (2 * length l) ≡ t → suc (2 * length (take (length (a ++ drop k l1) - k) (drop k (a ++ drop k l1)))) < t
    rest_falls t e = rw rest_is (simp length-drop (omega (arith, d.part.some, d.part.within, same_length l1 l d.same, tick_least fresh (2 * length l), e)))

    pub rest_asks : Asks s w (take (length (a ++ drop k l1) - k) (drop k (a ++ drop k l1))) true
    rest_asks = record { listed = rw rest_is (all_drop k listed_after); uncut = λ z. absurd (true≢false z) }

    pub both_answers : {b : List ℕ} {q : Bool} → Answers s (take (length (a ++ drop k l1) - k) (drop k (a ++ drop k l1))) b q
        → Answers s l (take k (a ++ drop k l1) ++ (b ++ drop (length (a ++ drop k l1) - k) (drop k (a ++ drop k l1)))) q
    both_answers {b} {q} g0 =
        let g = subst (λ t. Answers s t b q) rest_is g0 in
        let none : drop (length (a ++ drop k l1) - k) (drop k (a ++ drop k l1)) ≡ [] = drop_of_length-le (drop k (a ++ drop k l1)) {i = length (a ++ drop k l1) - k} (simp length-drop (omega arith)) in
        rw (none, append-nil, take_at a (drop k l1) k long)
        (record {
          same = same_trans (a ++ b) l1 l (same_both k a b l1 f.same g.same) d.same;
          yes_if = λ z. parted_before (sides.1 (f.yes_if yes) (g.yes_if z));
          no_if = λ z p. g.no_if z (sides.0 (parted_after p)).1;
        })
