-- What a clean state keeps, with one placement more. Assumes nothing.
use mathlib.Core.Path.{◌≡◌, sym, ap, ◌∙◌}
use mathlib.Core.List.{List, [], ◌∷◌, ◌++◌, append_assoc}
use Prim.Native.Nat.{ℕ, suc, ◌+◌, ◌*◌, ◌-◌, ◌≤◌, ◌<◌}
use native.Mathlib.Omega.{arith}
use native.Mathlib.Decide.{ℕ_discrete}
use lib.ListN.{length, get_or, take, set, length-set, length-append}
use lib.Seq.{take-suc-set, get_or-set_same, get_or-set_other}
use lib.Dec.{eqb}
use borrow.Author.Tests.{eq-eqb, ne_eqb}
use Rattle.rules.specs.Limits.{types_most}
use Rattle.rules.specs.Bag.{tick, count}
use Rattle.shapes.specs.declared.Placement.{Placement}
use Rattle.records.specs.declared.Scan.{Scan}
use Rattle.records.specs.Scan.{behind, Keeps, Kept, Holding}
use Rattle.records.proofs.Places.{flat_more, behind_more}

-- three numbers set behind the first n
three_more : (l : List ℕ) (n a b c : ℕ) → n + 3 ≤ length l → take (n + 3) (set (set (set l n a) (n + 1) b) (n + 2) c) ≡ take n l ++ (a ∷ b ∷ c ∷ [])
three_more l n a b c h =
    let e3 : n + 3 ≡ suc (n + 2) = omega arith in
    let e2 : n + 2 ≡ suc (n + 1) = omega arith in
    let e1 : n + 1 ≡ suc n = omega arith in
    let l1 = set l n a in
    let l2 = set l1 (n + 1) b in
    let third : take (suc (n + 2)) (set l2 (n + 2) c) ≡ take (n + 2) l2 ++ (c ∷ []) = take-suc-set l2 (n + 2) c (simp length-set (omega arith)) in
    let second : take (suc (n + 1)) l2 ≡ take (n + 1) l1 ++ (b ∷ []) = take-suc-set l1 (n + 1) b (simp length-set (omega arith)) in
    let first : take (suc n) l1 ≡ take n l ++ (a ∷ []) = take-suc-set l n a (omega arith) in
    ap (λ k. take k (set l2 (n + 2) c)) e3 ∙ third
    ∙ ap (λ t. t ++ (c ∷ [])) (ap (λ k. take k l2) e2 ∙ second ∙ ap (λ t. t ++ (b ∷ [])) (ap (λ k. take k l1) e1 ∙ first))
    ∙ append_assoc (take n l ++ (a ∷ [])) (b ∷ []) (c ∷ []) ∙ append_assoc (take n l) (a ∷ []) (b ∷ c ∷ [])

module _ {ps : List Placement} {s : Scan} {p : Placement} {r : Scan} (h : Holding ps s) (seen : s.seen ≡ length ps) (keeps : Keeps s p) (k : Kept s p r) where
  pub holding_next : Holding (ps ++ (p ∷ [])) r
  holding_next = record {
    types = ap length k.counts ∙ simp length-set h.types;
    held = λ t b. ap (λ l. get_or l t 0) k.counts ∙ held t b (ℕ_discrete p.kind (suc t)) ∙ ap (count (λ u. eqb u.type (suc t))) (sym (behind_more ps p));
    room = ap length k.flat ∙ simp length-set h.room;
    flat =
        let n : length (ps ++ (p ∷ [])) * 3 ≡ s.seen * 3 + 3 = omega (arith, length-append ps (p ∷ [])) in
        ap (λ m. take m r.flat) n ∙ ap (take (s.seen * 3 + 3)) k.flat
        ∙ three_more s.flat (s.seen * 3) p.kind p.x p.y (omega (arith, keeps.room, h.room))
        ∙ ap (λ m. take (m * 3) s.flat ++ (p.kind ∷ p.x ∷ p.y ∷ [])) seen
        ∙ ap (λ l. l ++ (p.kind ∷ p.x ∷ p.y ∷ [])) h.flat ∙ sym (flat_more ps p);
  }
    where
      held : (t : ℕ) → t < types_most → Dec (p.kind ≡ suc t) → get_or (set s.counts (p.kind - 1) (get_or s.counts (p.kind - 1) 0 + 1)) t 0 ≡ tick (eqb p.kind (suc t)) (count (λ u. eqb u.type (suc t)) (behind ps))
      held t b (yes e) =
          let z : p.kind - 1 ≡ t = omega arith in
          rw (z, get_or-set_same s.counts t (get_or s.counts t 0 + 1) 0 (omega (arith, h.types)), eq-eqb p.kind (suc t) e) (omega (arith, h.held t b))
      held t b (no e) =
          rw (get_or-set_other s.counts (p.kind - 1) t (get_or s.counts (p.kind - 1) 0 + 1) 0 (omega (arith, keeps.low)), ne_eqb p.kind (suc t) e) (h.held t b)
