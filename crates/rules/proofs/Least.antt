-- No build is smaller in a way than the least piece of the job: so a build that leaves less room than that joins with nothing in this way. Assumes nothing.
use mathlib.Core.Path.{◌≡◌, refl, ap}
use mathlib.Core.Logic.{◌⊎◌, inl, inr}
use mathlib.Core.List.{Memᴰ}
use Prim.Native.Nat.{ℕ, ◌+◌, ◌*◌, ◌≤◌, ◌<◌}
use native.Mathlib.Omega.{arith}
use Rattle.rules.specs.Bag.{All}
use Rattle.rules.specs.Box.{Way, along, across}
use Rattle.rules.specs.Made.{one, beside, above}
use Rattle.rules.specs.Job.{Job, Piece, Outline, Fits, Build, building, pieces, alone}
use Rattle.rules.proofs.Bags.{from_map}
use Rattle.rules.proofs.Bridge.{join}
use Rattle.rules.proofs.Tally.{Typed}
use Rattle.rules.proofs.Classes.{Ends, ends_alone, ends_join, single_pieces}

-- the size of an outline in a way, and the sheet's side in it
abbrev pub size_by : Way → Outline → ℕ
size_by along o = o.long
size_by across o = o.wide

abbrev pub side_by : Way → Job → ℕ
side_by along j = j.long
side_by across j = j.wide

-- no piece of the job is smaller in the way than m
pub record Least (j : Job) (w : Way) (m : ℕ) : Type 0 where
  pub each : (p : Piece) → Memᴰ p j.singles → m ≤ size_by w (alone j p)

-- sizes are added in the way of a join, and in no way is a join smaller than its first half
pub size_join : (w : Way) (a b : Outline) → size_by w (join w a b) ≡ size_by w a + size_by w b
size_join along a b = refl
size_join across a b = refl

pub size_first : (w v : Way) (a b : Outline) → size_by w a ≤ size_by w (join v a b)
size_first along along a b = omega arith
size_first along across a b = omega arith
size_first across along a b = omega arith
size_first across across a b = omega arith

pub fits_size : {j : Job} {o : Outline} (w : Way) → Fits j o → size_by w o ≤ side_by w j
fits_size along f = f.long
fits_size across f = f.wide

module _ {j : Job} {w : Way} {m : ℕ} (least : Least j w m) where
  single_least : {o : Outline} → (building j).Start o → m ≤ size_by w o
  single_least s = let t = from_map (alone j) j.singles s in omega (arith, least.each t.0 t.1, ap (size_by w) t.2)

  pub build_least : {o : Outline} → Build j o → m ≤ size_by w o
  build_least (one s k) = single_least s
  build_least (beside {a = a} {b = b} p q k) = omega (arith, build_least p, size_first w along a b)
  build_least (above {a = a} {b = b} p q k) = omega (arith, build_least p, size_first w across a b)

  -- a build that ends in the way is a piece alone, or has two builds one behind the other
  pub ends_least : All (λ p. Typed j p.type) j.singles → {o : Outline} → Ends j w o → (pieces o ≡ 1) ⊎ (2 * m ≤ size_by w o)
  ends_least typed (ends_alone s k) = inl (single_pieces typed s)
  ends_least typed (ends_join {a = a} {b = b} p q k) = inr (omega (arith, build_least p, build_least q, size_join w a b))

  -- where the sheet has no room for a piece behind a build, nothing is joined to it in the way
  pub no_room : (a : Outline) {b : Outline} → Build j b → side_by w j < size_by w a + m → Fits j (join w a b) → ⊥
  no_room a {b} q h f = omega (arith, build_least q, size_join w a b, fits_size w f)
