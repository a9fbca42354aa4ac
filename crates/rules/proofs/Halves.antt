-- When a class of builds is whole, and which builds need to be tried as first halves: those with at most half of the pieces,
-- and, since joins in one way associate, only a piece alone or what is as large in the other way as two pieces. Assumes nothing.
use mathlib.Core.Path.{◌≡◌, refl, ap}
use mathlib.Core.Logic.{◌⊎◌}
use mathlib.Core.List.{List, [], ◌∷◌, Memᴰ}
use Prim.Native.Nat.{ℕ, zero, suc, ◌*◌, ◌≤◌, ◌<◌}
use native.Mathlib.Omega.{arith}
use lib.ListN.{length, get_or}
use Rattle.rules.specs.Bag.{sum, All}
use Rattle.rules.specs.Box.{Way, along, across}
use Rattle.rules.specs.Made.{one, beside, above}
use Rattle.rules.specs.Job.{Job, Outline, Fits, Build, AtMost, plus, pieces}
use Rattle.rules.proofs.Bags.{all_at}
use Rattle.rules.proofs.Bridge.{join}
use Rattle.rules.proofs.Tally.{Typed}
use Rattle.rules.proofs.Classes.{Below, Class, Starts, Marked, turned, ends_join, class_in, one_more, join_pieces, some_pieces}
use Rattle.rules.proofs.Listing.{made_kept}
use Rattle.rules.proofs.Least.{size_by, Least, ends_least}

-- in this list
abbrev pub In : List Outline → Outline → Type 0
In l o = Memᴰ o l

-- every build with these counts is in the list
abbrev pub Whole : Job → List Outline → List ℕ → Type 0
Whole j l c = Class j (In l) c

-- what may end in a join in this way: a piece alone, or what is as large as two least pieces
abbrev pub Able : (Way → ℕ) → Way → Outline → Type 0
Able least w o = (pieces o ≡ 1) ⊎ (2 * least w ≤ size_by w o)

module _ {j : Job} (typed : All (λ p. Typed j p.type) j.singles) where
  -- a class of single pieces
  pub whole_single : (l : List Outline) → Starts j (In l) → (c : List ℕ) → sum c ≡ 1 → Whole j l c
  whole_single l st c h o (one m k) e = st o m k
  whole_single l st c h o (beside p q k) e = absurd (omega (arith, join_pieces typed along p q, some_pieces typed p, some_pieces typed q, ap sum e))
  whole_single l st c h o (above p q k) e = absurd (omega (arith, join_pieces typed across p q, some_pieces typed p, some_pieces typed q, ap sum e))

  -- a class is whole when the joins of all pairs that add up to its counts are in the list
  pub whole_in : (least : Way → ℕ) → ((w : Way) → Least j w (least w)) → (l : List Outline) → All (Build j) l → (c : List ℕ) → 2 ≤ sum c → Below j (In l) (sum c) → ((w : Way) (a b : Outline) → In l a → Able least (turned w) a → In l b → plus a.counts b.counts ≡ c → 2 * pieces a ≤ sum c → Fits j (join w a b) → In l (join w a b)) → Whole j l c
  whole_in least small l only c two below pairs o d e = (class_in typed l M c marked joins two o d e).here
    where
      M : Way → Outline → Type 0
      M w u = In l u × Able least w u

      marked : Below j (Marked j l M) (sum c)
      marked u b h = record { here = below u b h; marks = λ w n. (below u b h, ends_least (small w) typed n) }

      joins : (w : Way) (a b : Outline) → M (turned w) a → In l b → plus a.counts b.counts ≡ c → 2 * pieces a ≤ sum c → Fits j (join w a b) → In l (join w a b) × M w (join w a b)
      joins w a b m n p h k =
          let r = pairs w a b m.0 m.1 n p h k in
          (r, (r, ends_least (small w) typed (ends_join (all_at only m.0) (all_at only n) k)))

count_in : (t : ℕ) (c d : List ℕ) → AtMost c d → get_or c t 0 ≤ get_or d t 0
count_in t [] d h = omega arith
count_in t (x ∷ c) [] h = absurd h
count_in zero (x ∷ c) (y ∷ d) h = h.0
count_in (suc t) (x ∷ c) (y ∷ d) h = count_in t c d h.1

-- a class with more of a type than is in demand has no builds
pub whole_over : {j : Job} (l : List Outline) (c : List ℕ) (t : ℕ) → get_or j.demands t 0 < get_or c t 0 → Whole j l c
whole_over {j} l c t h o d e = absurd (omega (arith, count_in t o.counts j.demands (made_kept d).counts, ap (λ u. get_or u t 0) e))

pub more_at : (t : ℕ) (c : List ℕ) → t < length c → get_or (one_more t c) t 0 ≡ suc (get_or c t 0)
more_at t [] h = absurd (omega arith)
more_at zero (x ∷ c) h = refl
more_at (suc t) (x ∷ c) h = more_at t c (omega arith)
