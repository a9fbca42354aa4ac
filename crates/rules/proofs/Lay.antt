-- A build laid out from a corner: in its outline, with its counts, and it can be parted. Assumes nothing.
use mathlib.Core.Path.{◌≡◌, refl, sym, ap₂, ◌∙◌, subst}
use mathlib.Core.List.{List, [], ◌∷◌, ◌++◌, Memᴰ}
use Prim.Native.Nat.{ℕ, ◌+◌, ◌≤◌, ◌<◌}
use native.Mathlib.Nat.{le_trans}
use native.Mathlib.Omega.{arith}
use lib.ListN.{length, length-append, length-map}
use Rattle.rules.specs.Bag.{All, nil, cons}
use Rattle.rules.specs.Box.{Way, along, across, near, far}
use Rattle.rules.specs.Parted.{CanBeParted, few}
use Rattle.rules.specs.Made.{one, beside, above}
use Rattle.rules.specs.Job.{Job, Piece, Outline, Build, AtMost, plus, alone}
use Rattle.rules.specs.Placed.{Placed, boxes, put, counts_of, Accepted}
use Rattle.rules.proofs.Bags.{all_at, all_map, all_zip, all_append, all_image, map-append, from_map}
use Rattle.rules.proofs.Sides.{joined}
use Rattle.rules.proofs.Listing.{made_kept}
use Rattle.rules.proofs.Tally.{counts_append}
use Rattle.rules.proofs.Bridge.{Region, Known, join, join_counts}

pub record Positive (s : Piece) : Type 0 where
  pub long : 0 < s.long
  pub wide : 0 < s.wide

-- the lines of an outline with its corner at (x, y)
abbrev pub region_of : Outline → ℕ → ℕ → Region
region_of o x y = record { x₀ = x; y₀ = y; x₁ = x + o.long; y₁ = y + o.wide }

-- the corner of what is joined behind an outline in a way
abbrev pub next_x : Way → ℕ → Outline → ℕ
next_x along x o = x + o.long
next_x across x o = x

abbrev pub next_y : Way → ℕ → Outline → ℕ
next_y along y o = y
next_y across y o = y + o.wide

pub record Laid (j : Job) (o : Outline) (x y : ℕ) (ps : List Placed) : Type 0 where
  pub known : All (Known j (region_of o x y)) ps
  pub thick : All (λ p. (w : Way) → near w p.box < far w p.box) ps
  pub counts : counts_of j ps ≡ o.counts
  pub parted : CanBeParted (boxes ps)
  pub some : 0 < length ps

wider : {j : Job} (r q : Region) {ps : List Placed} → q.x₀ ≤ r.x₀ → q.y₀ ≤ r.y₀ → r.x₁ ≤ q.x₁ → r.y₁ ≤ q.y₁ → All (Known j r) ps → All (Known j q) ps
wider r q a b c d h = all_map (λ p k. record { of = k.of; inside = record { left = le_trans a k.inside.left; right = le_trans k.inside.right c; low = le_trans b k.inside.low; high = le_trans k.inside.high d } }) h

-- the two halves of a join in its region
in_join_first : {j : Job} (w : Way) (a b : Outline) (x y : ℕ) {ps : List Placed} → All (Known j (region_of a x y)) ps → All (Known j (region_of (join w a b) x y)) ps
in_join_first along a b x y h = wider (region_of a x y) (region_of (join along a b) x y) (omega arith) (omega arith) (omega arith) (omega arith) h
in_join_first across a b x y h = wider (region_of a x y) (region_of (join across a b) x y) (omega arith) (omega arith) (omega arith) (omega arith) h

in_join_second : {j : Job} (w : Way) (a b : Outline) (x y : ℕ) {ps : List Placed} → All (Known j (region_of b (next_x w x a) (next_y w y a))) ps → All (Known j (region_of (join w a b) x y)) ps
in_join_second along a b x y h = wider (region_of b (x + a.long) y) (region_of (join along a b) x y) (omega arith) (omega arith) (omega arith) (omega arith) h
in_join_second across a b x y h = wider (region_of b x (y + a.wide)) (region_of (join across a b) x y) (omega arith) (omega arith) (omega arith) (omega arith) h

-- the line between the halves
abbrev line_of : Way → ℕ → ℕ → Outline → ℕ
line_of along x y a = x + a.long
line_of across x y a = y + a.wide

ends_before : {j : Job} (w : Way) (a : Outline) (x y : ℕ) {ps : List Placed} → All (Known j (region_of a x y)) ps → All (λ p. far w p.box ≤ line_of w x y a) ps
ends_before along a x y h = all_map (λ p k. k.inside.right) h
ends_before across a x y h = all_map (λ p k. k.inside.high) h

starts_after : {j : Job} (w : Way) (a b : Outline) (x y : ℕ) {qs : List Placed} → All (Known j (region_of b (next_x w x a) (next_y w y a))) qs → All (λ q. line_of w x y a ≤ near w q.box) qs
starts_after along a b x y h = all_map (λ q k. k.inside.left) h
starts_after across a b x y h = all_map (λ q k. k.inside.low) h

module _ {j : Job} (pos : All Positive j.singles) where
  pub lay_one : (s : Piece) → Memᴰ s j.singles → (x y : ℕ) → Laid j (alone j s) x y (put s x y ∷ [])
  lay_one s m x y =
      let p = all_at pos m in
      let pl = p.long in
      let pw = p.wide in
      record {
        known = cons {x = put s x y} (record { of = m; inside = record { left = omega arith; right = omega arith; low = omega arith; high = omega arith } }) nil;
        thick = cons {x = put s x y} (λ w. elim w as (λ w. near w (put s x y).box < far w (put s x y).box) [ along ↦ omega arith | across ↦ omega arith ]) nil;
        counts = refl;
        parted = few {bs = boxes (put s x y ∷ [])} (omega arith);
        some = omega arith;
      }

  pub lay_join : (w : Way) {a b : Outline} {x y : ℕ} {ps qs : List Placed} → Laid j a x y ps → Laid j b (next_x w x a) (next_y w y a) qs → Laid j (join w a b) x y (ps ++ qs)
  lay_join w {a} {b} {x} {y} {ps} {qs} p q =
      let behind : All (λ r. (line_of w x y a ≤ near w r.box) × (line_of w x y a < far w r.box)) qs = all_map (λ r k. (k.0, omega (arith, k.0, k.1 w))) (all_zip (starts_after w a b x y q.known) q.thick) in
      record {
        known = all_append (in_join_first w a b x y p.known) (in_join_second w a b x y q.known);
        thick = all_append p.thick q.thick;
        counts = counts_append j ps qs ∙ ap₂ plus p.counts q.counts ∙ sym (join_counts w a b);
        parted = subst CanBeParted (sym (map-append (λ r. r.box) ps qs))
            (joined w (line_of w x y a) (boxes ps) (boxes qs) (all_image (λ r. r.box) (ends_before w a x y p.known)) (all_image (λ r. r.box) behind)
            (omega (arith, p.some, length-map ps (λ r. r.box))) (omega (arith, q.some, length-map qs (λ r. r.box))) p.parted q.parted);
        some = omega (arith, length-append ps qs, p.some);
      }

-- the placements of a build, unfolded: "the second half's placements go into the buffer behind the first half's"
pub lay : {j : Job} {o : Outline} → Build j o → ℕ → ℕ → List Placed
lay {j} (one m k) x y = put (from_map (alone j) j.singles m).0 x y ∷ []
lay (beside {a = a} p q k) x y = lay p x y ++ lay q (x + a.long) y
lay (above {a = a} p q k) x y = lay p x y ++ lay q x (y + a.wide)

pub laid : {j : Job} → All Positive j.singles → {o : Outline} (d : Build j o) (x y : ℕ) → Laid j o x y (lay d x y)
unfolding lay
laid {j} pos (one m k) x y =
    let t = from_map (alone j) j.singles m in
    subst (λ o. Laid j o x y (put t.0 x y ∷ [])) (sym t.2) (lay_one pos t.0 t.1 x y)
laid pos (beside {a = a} p q k) x y = lay_join pos along (laid pos p x y) (laid pos q (x + a.long) y)
laid pos (above {a = a} p q k) x y = lay_join pos across (laid pos p x y) (laid pos q x (y + a.wide))

-- what a build lays out at (0, 0) is accepted
pub laid_accepted : {j : Job} {o : Outline} {ps : List Placed} → Build j o → Laid j o 0 0 ps → Accepted j ps
laid_accepted {j} {o} d l =
    let f = made_kept d in
    let fl = f.long in
    let fw = f.wide in
    record {
      known = all_map (λ p k. k.of) l.known;
      inside = all_map (λ p k. record { left = omega arith; right = omega (arith, k.inside.right); low = omega arith; high = omega (arith, k.inside.high) }) l.known;
      demand = subst (λ c. AtMost c j.demands) (sym l.counts) f.counts;
      parted = l.parted;
    }
