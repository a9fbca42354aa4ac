-- Records that name their halves by smaller indexes, and what unfolding one of them lays. Assumes nothing.
use mathlib.Core.Path.{◌≡◌, refl, sym, ap, subst}
use mathlib.Core.List.{List, [], ◌∷◌, ◌++◌, Memᴰ}
use Prim.Native.Nat.{ℕ, zero, suc, ◌≤◌, ◌<◌}
use native.Mathlib.Omega.{arith}
use lib.ListN.{length, get_or}
use Rattle.rules.specs.Bag.{All}
use Rattle.rules.specs.Box.{Way}
use Rattle.rules.specs.Job.{Job, Piece, Outline, alone}
use Rattle.rules.specs.Placed.{Placed, put}
use Rattle.rules.proofs.Bridge.{join}
use Rattle.rules.proofs.Lay.{Laid, Positive, next_x, next_y, lay_one, lay_join}

-- how a record was made: a piece, or a join of two records before it
pub data Maker : Type 0 where
  piece : Piece → Maker
  joined : Way → ℕ → ℕ → Maker

pub record Rec : Type 0 where
  pub outline : Outline
  pub maker : Maker

abbrev pub no_rec : Rec
no_rec = record { outline = record { long = 0; wide = 0; counts = [] }; maker = piece (record { type = 0; long = 0; wide = 0 }) }

abbrev pub at : List Rec → ℕ → Rec
at rs i = get_or rs i no_rec

-- a maker's outline, and what it may name
abbrev pub MadeBy : Job → List Rec → ℕ → Outline → Maker → Type 0
MadeBy j rs i o (piece s) = Memᴰ s j.singles × (o ≡ alone j s)
MadeBy j rs i o (joined w a b) = (a < i) × (b < i) × (o ≡ join w (at rs a).outline (at rs b).outline)

abbrev pub Valid : Job → List Rec → Type 0
Valid j rs = (i : ℕ) → i < length rs → MadeBy j rs i (at rs i).outline (at rs i).maker

-- what unfolding record i at (x, y) writes: "the second half's placements go into the buffer behind the first half's"
pub data Lays (rs : List Rec) : ℕ → ℕ → ℕ → List Placed → Type 0 where
  one : {i x y : ℕ} {s : Piece} → (at rs i).maker ≡ piece s → Lays rs i x y (put s x y ∷ [])
  both : {w : Way} {i a b x y : ℕ} {ps qs : List Placed} → (at rs i).maker ≡ joined w a b → Lays rs a x y ps → Lays rs b (next_x w x (at rs a).outline) (next_y w y (at rs a).outline) qs → Lays rs i x y (ps ++ qs)

pub unfolded : {j : Job} {rs : List Rec} → All Positive j.singles → Valid j rs → {i x y : ℕ} {ps : List Placed} → i < length rs → Lays rs i x y ps → Laid j (at rs i).outline x y ps
unfolded {j} {rs} pos v {i} h (one {x = x} {y = y} {s = s} e) =
    let m = subst (MadeBy j rs i (at rs i).outline) e (v i h) in
    subst (λ o. Laid j o x y (put s x y ∷ [])) (sym m.1) (lay_one pos s m.0 x y)
unfolded {j} {rs} pos v {i} h (both {w = w} {x = x} {y = y} {ps = ps} {qs = qs} e p q) =
    let m = subst (MadeBy j rs i (at rs i).outline) e (v i h) in
    subst (λ o. Laid j o x y (ps ++ qs)) (sym m.2) (lay_join pos w (unfolded pos v (omega (arith, m.0)) p) (unfolded pos v (omega (arith, m.1)) q))

-- every valid record lays something
lays_below : (j : Job) {rs : List Rec} → Valid j rs → (n i x y : ℕ) → i < n → n ≤ length rs → (ps : List Placed) × Lays rs i x y ps
lays_below j v zero i x y h l = absurd (omega arith)
lays_below j {rs} v (suc n) i x y h l = go (at rs i).maker refl (λ k a b e. lays_below j v n k a b e (omega arith))
  where
    go : (m : Maker) → (at rs i).maker ≡ m → ((k a b : ℕ) → k < n → (ps : List Placed) × Lays rs k a b ps) → (ps : List Placed) × Lays rs i x y ps
    go (piece s) e f = (_, one e)
    go (joined w a b) e f =
        let m = subst (MadeBy j rs i (at rs i).outline) e (v i (omega arith)) in
        let p = f a x y (omega (arith, m.0)) in
        let q = f b (next_x w x (at rs a).outline) (next_y w y (at rs a).outline) (omega (arith, m.1)) in
        (_, both e p.1 q.1)

pub lays_some : (j : Job) {rs : List Rec} → Valid j rs → (i x y : ℕ) → i < length rs → (ps : List Placed) × Lays rs i x y ps
lays_some j {rs = rs} v i x y h = lays_below j v (length rs) i x y h (omega arith)

-- and one thing only: what its maker says
pub lays_piece : {rs : List Rec} {i x y : ℕ} {ps : List Placed} {s : Piece} → (at rs i).maker ≡ piece s → Lays rs i x y ps → ps ≡ put s x y ∷ []
lays_piece {x = x} {y = y} {s = s} e (one {s = t} f) = let p : t ≡ s = cc in ap (λ u. put u x y ∷ []) p
lays_piece e (both f p q) = absurd (let z : ◌≡◌ {A = ℕ} 0 1 = cc in omega arith)

pub record Halves (rs : List Rec) (w : Way) (a b x y : ℕ) (ps : List Placed) : Type 0 where
  pub first : List Placed
  pub second : List Placed
  pub lays_first : Lays rs a x y first
  pub lays_second : Lays rs b (next_x w x (at rs a).outline) (next_y w y (at rs a).outline) second
  pub whole : ps ≡ first ++ second

pub lays_joined : {rs : List Rec} {i x y : ℕ} {ps : List Placed} {w : Way} {a b : ℕ} → (at rs i).maker ≡ joined w a b → Lays rs i x y ps → Halves rs w a b x y ps
lays_joined e (one f) = absurd (let z : ◌≡◌ {A = ℕ} 0 1 = cc in omega arith)
lays_joined {rs} {x = x} {y = y} {w = w} {a = a} {b = b} e (both {w = w'} {a = a'} {b = b'} {ps = ps} {qs = qs} f p q) =
    let ew : w' ≡ w = cc in
    let ea : a' ≡ a = cc in
    let eb : b' ≡ b = cc in
    record {
      first = ps;
      second = qs;
      lays_first = subst (λ k. Lays rs k x y ps) ea p;
      lays_second = rw (← ew, ← ea, ← eb) q;
      whole = refl;
    }
