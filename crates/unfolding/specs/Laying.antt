-- What unfolding a record of the arena writes into the plan buffer. Assumes nothing.
use Rattle.std.specs.Prelude.{◌≡◌, List, map, ◌++◌, ℕ, ◌+◌, ◌*◌, ◌≤◌, ◌<◌, length, drop}
use Rattle.rules.specs.Limits.{placement_numbers}
use Rattle.rules.specs.Planner.{room_of}
use Rattle.rules.specs.Placed.{Placed}
use Rattle.rules.proofs.Lay.{next_x, next_y}
use Rattle.rules.proofs.Unfold.{Rec, at, Lays}
use Rattle.rules.proofs.Arrange.{entry_of, flat}
use Rattle.outline.specs.declared.Outline.{Outline}
use Rattle.outline.specs.declared.Way.{Way}
use Rattle.outline.specs.Stands.{outline_of, way_of, two_bytes}
use Rattle.arena.specs.declared.How.TheVariants.{Joined}
use Rattle.arena.specs.Records.{record_at, rec_of}
use Rattle.unfolding.specs.declared.Corner.{Corner}

-- places that a sum with an outline's sizes cannot take out of range
abbrev pub far_most : ℕ
far_most = 1_099_511_627_776

pub record Near (x y : ℕ) : Type 0 where
  pub along : x < far_most
  pub across : y < far_most

-- the corner of what is joined behind o, and that it is not far
pub record IsNext (o : Outline) (w : Way) (x y : ℕ) (r : Corner) : Type 0 where
  pub along : r.x ≡ next_x (way_of w) x (outline_of 0 o)
  pub across : r.y ≡ next_y (way_of w) y (outline_of 0 o)
  pub not_far : (r.x < x + two_bytes) × (r.y < y + two_bytes)

-- a joined record's halves stand before it
abbrev pub Falls : List ℕ → ℕ → Type 0
Falls s n = (i : ℕ) → i ≤ n → (w : Way) (a b : ℕ) → (record_at s i).how ≡ Joined w a b → (a < i) × (b < i)

-- record i can be unfolded at (x, y): each half is less far by a size
pub record Placeable (s : List ℕ) (i x y : ℕ) : Type 0 where
  pub room : i < room_of (length s)
  pub falls : Falls s i
  pub along : x + two_bytes * i < far_most
  pub across : y + two_bytes * i < far_most

-- the records rs are those of the arena up to i
abbrev pub Reads : ℕ → List Rec → List ℕ → ℕ → Type 0
Reads types rs s n = (i : ℕ) → i ≤ n → at rs i ≡ rec_of types (record_at s i)

-- what record i lays at (x, y) has room in the buffer
pub record Layable (s : List ℕ) (i x y : ℕ) (buffer : List ℕ) : Type 0 where
  pub placeable : Placeable s i x y
  pub types : ℕ
  pub records : List Rec
  pub reads : Reads types records s i
  pub placements : List Placed
  pub lays : Lays records i x y placements
  pub fits : placement_numbers * length placements ≤ length buffer

-- these placements stand at the front of the buffer, and the rest keeps its numbers
pub record Wrote (ps : List Placed) (before after : List ℕ) (r : ℕ) : Type 0 where
  pub count : r ≡ placement_numbers * length ps
  pub numbers : after ≡ flat (map entry_of ps) ++ drop r before

-- what record i lays at (x, y) is written
pub record LaidOut (s : List ℕ) (i x y : ℕ) (before after : List ℕ) (r : ℕ) : Type 0 where
  pub wrote : (types : ℕ) (rs : List Rec) (ps : List Placed) → Reads types rs s i → Lays rs i x y ps → Wrote ps before after r
