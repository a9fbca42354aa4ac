-- Pieces that can be parted give a build with their counts, no larger than the region they lie in. Assumes nothing.
use mathlib.Core.Path.{◌≡◌, refl, sym, ap, ap₂, ◌∙◌, subst}
use mathlib.Core.Bool.{Bool, true}
use mathlib.Core.List.{List, [], ◌∷◌}
use Prim.Native.Nat.{ℕ, ◌+◌, ◌≤◌, ◌<◌}
use native.Mathlib.Omega.{arith}
use lib.ListN.{length, length-map}
use lib.Dec.{eqb}
use borrow.Author.Tests.{leb-true}
use Rattle.rules.specs.Bag.{keep, other, All, nil, cons}
use Rattle.rules.specs.Box.{Box, Way, along, across, Inside}
use Rattle.rules.specs.Parted.{before, after, clear, first, rest, CanBeParted, few, cut}
use Rattle.rules.specs.Made.{one, beside, above}
use Rattle.rules.specs.Job.{Job, Outline, Fits, Build, AtMost, plus, types, alone, horizontal, vertical}
use Rattle.rules.specs.Placed.{Placed, boxes, Of, counts_of, Accepted}
use Rattle.rules.proofs.Bools.{or_second}
use Rattle.rules.proofs.Bags.{all_keep, all_map, all_zip, image_all, keep_map, mem_map, count_split}
use Rattle.rules.proofs.Tally.{counts_split, at_most_mono}

-- the lines between which pieces lie
pub record Region : Type 0 where
  pub x₀ : ℕ
  pub y₀ : ℕ
  pub x₁ : ℕ
  pub y₁ : ℕ

abbrev pub In : Region → Box → Type 0
In r b = Inside r.x₀ r.y₀ r.x₁ r.y₁ b

-- the two parts of a region at a line
abbrev first_part : Way → ℕ → Region → Region
first_part along line r = record { x₀ = r.x₀; y₀ = r.y₀; x₁ = line; y₁ = r.y₁ }
first_part across line r = record { x₀ = r.x₀; y₀ = r.y₀; x₁ = r.x₁; y₁ = line }

abbrev rest_part : Way → ℕ → Region → Region
rest_part along line r = record { x₀ = line; y₀ = r.y₀; x₁ = r.x₁; y₁ = r.y₁ }
rest_part across line r = record { x₀ = r.x₀; y₀ = line; x₁ = r.x₁; y₁ = r.y₁ }

in_first : (w : Way) (line : ℕ) (r : Region) (b : Box) → In r b → before w line b ≡ true → In (first_part w line r) b
in_first along line r b i e = record { left = i.left; right = leb-true _ _ e; low = i.low; high = i.high }
in_first across line r b i e = record { left = i.left; right = i.right; low = i.low; high = leb-true _ _ e }

in_rest : (w : Way) (line : ℕ) (r : Region) (b : Box) → In r b → after w line b ≡ true → In (rest_part w line r) b
in_rest along line r b i e = record { left = leb-true _ _ e; right = i.right; low = i.low; high = i.high }
in_rest across line r b i e = record { left = i.left; right = i.right; low = leb-true _ _ e; high = i.high }

-- the join that puts two things one behind the other in a way: a horizontal build is parted by a line of the way `along`
abbrev pub join : Way → Outline → Outline → Outline
join along a b = horizontal a b
join across a b = vertical a b

pub made_join : {j : Job} (w : Way) {a b : Outline} → Build j a → Build j b → Fits j (join w a b) → Build j (join w a b)
made_join along p q k = beside p q k
made_join across p q k = above p q k

pub join_counts : (w : Way) (a b : Outline) → (join w a b).counts ≡ plus a.counts b.counts
join_counts along a b = refl
join_counts across a b = refl

-- what is known of a piece in a region
pub record Known (j : Job) (r : Region) (p : Placed) : Type 0 where
  pub of : Of j p
  pub inside : In r p.box

-- a build with the counts of the pieces, that the region has room for
pub record Boxed (j : Job) (ps : List Placed) (r : Region) : Type 0 where
  pub outline : Outline
  pub build : Build j outline
  pub counts : outline.counts ≡ counts_of j ps
  pub long : r.x₀ + outline.long ≤ r.x₁
  pub wide : r.y₀ + outline.wide ≤ r.y₁

some_one : {A : Type 0} {P : A → Type 0} (ps : List A) → 0 < length ps → All P ps → (p : A) × P p
some_one [] h nil = absurd (omega arith)
some_one (p ∷ ps) h (cons q a) = (p, q)

module _ (j : Job) where
  -- the region is no larger than the sheet
  pub record Small (r : Region) : Type 0 where
    pub long : r.x₁ ≤ r.x₀ + j.long
    pub wide : r.y₁ ≤ r.y₀ + j.wide

  -- a line has a piece behind it, so that it is no further than the region's end; and one before it
  small_first : (w : Way) (line : ℕ) (r : Region) (b : Box) → In (rest_part w line r) b → Small r → Small (first_part w line r)
  small_first along line r b i s = record { long = omega (arith, i.left, i.right, s.long); wide = s.wide }
  small_first across line r b i s = record { long = s.long; wide = omega (arith, i.low, i.high, s.wide) }

  small_rest : (w : Way) (line : ℕ) (r : Region) (b : Box) → In (first_part w line r) b → Small r → Small (rest_part w line r)
  small_rest along line r b i s = record { long = omega (arith, i.left, i.right, s.long); wide = s.wide }
  small_rest across line r b i s = record { long = s.long; wide = omega (arith, i.low, i.high, s.wide) }

  boxed_one : (p : Placed) (r : Region) → Known j r p → Small r → AtMost (counts_of j (p ∷ [])) j.demands → Boxed j (p ∷ []) r
  boxed_one p r k s d =
      let il = k.inside.left in
      let ir = k.inside.right in
      let ib = k.inside.low in
      let ih = k.inside.high in
      let sl = s.long in
      let sw = s.wide in
      record {
        outline = alone j (record { type = p.type; long = p.box.long; wide = p.box.wide });
        build = one (mem_map (alone j) k.of) (record { long = omega arith; wide = omega arith; counts = d });
        counts = refl;
        long = omega arith;
        wide = omega arith;
      }

  fits_join : (w : Way) (line : ℕ) (r : Region) (a b : Outline) → Small r → ((first_part w line r).x₀ + a.long ≤ (first_part w line r).x₁) × ((first_part w line r).y₀ + a.wide ≤ (first_part w line r).y₁) → ((rest_part w line r).x₀ + b.long ≤ (rest_part w line r).x₁) × ((rest_part w line r).y₀ + b.wide ≤ (rest_part w line r).y₁) →
      (r.x₀ + (join w a b).long ≤ r.x₁) × (r.y₀ + (join w a b).wide ≤ r.y₁)
  fits_join along line r a b s p q = (omega (arith, p.0, q.0), omega (arith, p.1, q.1))
  fits_join across line r a b s p q = (omega (arith, p.0, q.0), omega (arith, p.1, q.1))

  boxed_join : (w : Way) (line : ℕ) (g : Placed → Bool) (ps : List Placed) (r : Region) → AtMost (counts_of j ps) j.demands → Small r →
      Boxed j (keep g ps) (first_part w line r) → Boxed j (keep (other g) ps) (rest_part w line r) → Boxed j ps r
  boxed_join w line g ps r d s a b =
      let o = a.outline in
      let u = b.outline in
      let c : (join w o u).counts ≡ counts_of j ps = join_counts w o u ∙ ap₂ plus a.counts b.counts ∙ counts_split j g ps in
      let f = fits_join w line r o u s (a.long, a.wide) (b.long, b.wide) in
      record {
        outline = join w o u;
        build = made_join w a.build b.build (record { long = omega (arith, f.0, s.long); wide = omega (arith, f.1, s.wide); counts = subst (λ l. AtMost l j.demands) (sym c) d });
        counts = c;
        long = f.0;
        wide = f.1;
      }

  -- both halves keep to the demands
  half_first : (g : Placed → Bool) (ps : List Placed) → AtMost (counts_of j ps) j.demands → AtMost (counts_of j (keep g ps)) j.demands
  half_first g ps d = at_most_mono (types j) _ _ j.demands (λ t. omega (arith, count_split (λ p. eqb p.type t) g ps)) d

  half_rest : (g : Placed → Bool) (ps : List Placed) → AtMost (counts_of j ps) j.demands → AtMost (counts_of j (keep (other g) ps)) j.demands
  half_rest g ps d = at_most_mono (types j) _ _ j.demands (λ t. omega (arith, count_split (λ p. eqb p.type t) g ps)) d

  -- the pieces on the two sides lie in the two parts
  known_first : (w : Way) (line : ℕ) (r : Region) {ps : List Placed} → All (Known j r) ps → All (Known j (first_part w line r)) (keep (λ p. before w line p.box) ps)
  known_first w line r a = all_map (λ p k. record { of = k.0.of; inside = in_first w line r p.box k.0.inside k.1 }) (all_keep (λ p. before w line p.box) a)

  known_rest : (w : Way) (line : ℕ) (r : Region) {ps : List Placed} → All (Known j r) ps → All (λ p. clear w line p.box ≡ true) ps → All (Known j (rest_part w line r)) (keep (other (λ p. before w line p.box)) ps)
  known_rest w line r a wh =
      all_map (λ p k. record { of = k.0.0.of; inside = in_rest w line r p.box k.0.0.inside (or_second (before w line p.box) (after w line p.box) k.0.1 k.1) })
      (all_keep (other (λ p. before w line p.box)) (all_zip a wh))

  pub bridge : {bs : List Box} → CanBeParted bs → (ps : List Placed) → boxes ps ≡ bs → (r : Region) → 0 < length ps → All (Known j r) ps → Small r → AtMost (counts_of j ps) j.demands → Boxed j ps r
  bridge (few {bs = bs} h) ps e r s a m d = go ps (omega (arith, h, ap length e, length-map ps (λ p. p.box))) s a d
    where
      go : (ps : List Placed) → length ps ≤ 1 → 0 < length ps → All (Known j r) ps → AtMost (counts_of j ps) j.demands → Boxed j ps r
      go [] h s a d = absurd (omega arith)
      go (p ∷ []) h s (cons k a) d = boxed_one p r k m d
      go (p ∷ q ∷ qs) h s a d = absurd (omega arith)
  bridge (cut {bs = bs} w line c pf pr) ps e r s a m d =
      let g : Placed → Bool = λ p. before w line p.box in
      let fe : boxes (keep g ps) ≡ first w line bs = sym (keep_map (λ p. p.box) (before w line) ps) ∙ ap (keep (before w line)) e in
      let re : boxes (keep (other g) ps) ≡ rest w line bs = sym (keep_map (λ p. p.box) (other (before w line)) ps) ∙ ap (keep (other (before w line))) e in
      let fl : 0 < length (keep g ps) = omega (arith, c.some_first, ap length fe, length-map (keep g ps) (λ p. p.box)) in
      let rl : 0 < length (keep (other g) ps) = omega (arith, c.some_rest, ap length re, length-map (keep (other g) ps) (λ p. p.box)) in
      let wh : All (λ p. clear w line p.box ≡ true) ps = image_all (λ p. p.box) ps (subst (All (λ b. clear w line b ≡ true)) (sym e) c.whole) in
      let fa = known_first w line r a in
      let ra = known_rest w line r a wh in
      let fb = some_one (keep g ps) fl fa in
      let rb = some_one (keep (other g) ps) rl ra in
      boxed_join w line g ps r d m
      (bridge pf (keep g ps) fe (first_part w line r) fl fa (small_first w line r rb.0.box rb.1.inside m) (half_first g ps d))
      (bridge pr (keep (other g) ps) re (rest_part w line r) rl ra (small_rest w line r fb.0.box fb.1.inside m) (half_rest g ps d))

  -- accepted pieces give a build with their counts, no larger than any region of the sheet that holds them: so no larger than their bounding box
  pub build_in : (ps : List Placed) → 0 < length ps → Accepted j ps → (r : Region) → All (λ p. In r p.box) ps → r.x₁ ≤ j.long → r.y₁ ≤ j.wide → Boxed j ps r
  build_in ps h a r i l w = bridge a.parted ps refl r h (all_map (λ p k. record { of = k.0; inside = k.1 }) (all_zip a.known i)) (record { long = omega arith; wide = omega arith }) a.demand

  -- the whole sheet is such a region
  pub build_of : (ps : List Placed) → 0 < length ps → Accepted j ps → Boxed j ps (record { x₀ = 0; y₀ = 0; x₁ = j.long; y₁ = j.wide })
  build_of ps h a = build_in ps h a (record { x₀ = 0; y₀ = 0; x₁ = j.long; y₁ = j.wide }) a.inside (omega arith) (omega arith)
