-- The arena as a list of records: what a record stands for, and what reading and writing one does. Assumes nothing.
use Rattle.std.specs.Prelude.{◌≡◌, List, [], ◌∷◌, ◌++◌, ℕ, zero, suc, ◌+◌, ◌*◌, ◌<◌, length}
use Rattle.rules.specs.Limits.{record_bytes}
use Rattle.rules.specs.Planner.{room_of}
use Rattle.rules.proofs.Unfold.{Maker, piece, joined, Rec}
use Rattle.outline.specs.declared.Outline.{Outline}
use Rattle.outline.specs.Stands.{outline_of, way_of, Sized, two_bytes}
use Rattle.arena.specs.declared.How.{How}
use Rattle.arena.specs.declared.How.TheVariants.{Piece, Joined}
use Rattle.arena.specs.declared.Record.{Record}
use Rattle.arena.specs.Bytes.{word, link_of, decode, chunk}

abbrev pub record_at : List ℕ → ℕ → Record
record_at s i = decode (chunk s i)

-- the size of an outline in a way: its length for 0, its width for 1
abbrev pub size_of : ℕ → Outline → ℕ
size_of zero o = o.length.0
size_of (suc w) o = o.width.0

-- what a record stands for in a job of n types
abbrev pub maker_of : Outline → How → Maker
maker_of o (Piece t) = piece (record { type = t; long = o.length.0; wide = o.width.0 })
maker_of o (Joined w a b) = joined (way_of w) a b

abbrev pub rec_of : ℕ → Record → Rec
rec_of n r = record { outline = outline_of n r.outline; maker = maker_of r.outline r.how }

-- the first n records of the arena
unfoldable pub recs : (types n : ℕ) → List ℕ → List Rec
recs types zero s = []
recs types (suc n) s = recs types n s ++ (rec_of types (record_at s n) ∷ [])

-- what a record can hold, at a place that the arena has
pub record Storable (s : List ℕ) (i : ℕ) (r : Record) : Type 0 where
  pub room : i < room_of (length s)
  pub sized : Sized r.outline
  pub first : (link_of r.how).first < two_bytes
  pub second : (link_of r.how).second < two_bytes

-- the links of a record: so many words, the first of them here
abbrev pub links_most : ℕ
links_most = 5

abbrev pub links_at : ℕ
links_at = 22

-- where link k of record i stands, and what it is
abbrev pub link_place : ℕ → ℕ → ℕ
link_place i k = i * record_bytes + links_at + 2 * k

abbrev pub link_at : List ℕ → ℕ → ℕ → ℕ
link_at s i k = word s (link_place i k)

-- record i is written, and those before it stay
pub record Stored (i : ℕ) (r : Record) (before after : List ℕ) : Type 0 where
  pub same_length : length after ≡ length before
  pub here : record_at after i ≡ r
  pub others : (j : ℕ) → j < i → record_at after j ≡ record_at before j

-- and the links of all other records stay
pub record StoredAlone (i : ℕ) (r : Record) (before after : List ℕ) : Type 0 where
  pub stored : Stored i r before after
  pub links : (j k : ℕ) → (j ≡ i → ⊥) → k < links_most → link_at after j k ≡ link_at before j k

-- what a link can hold, at a place that the arena has
pub record Linkable (s : List ℕ) (i k v : ℕ) : Type 0 where
  pub room : i < room_of (length s)
  pub among : k < links_most
  pub small : v < two_bytes

-- link k of record i is written; all other links and all records stay
pub record Linked (i k v : ℕ) (before after : List ℕ) : Type 0 where
  pub same_length : length after ≡ length before
  pub here : link_at after i k ≡ v
  pub others : (j m : ℕ) → (j ≡ i → m ≡ k → ⊥) → m < links_most → link_at after j m ≡ link_at before j m
  pub records : (j : ℕ) → record_at after j ≡ record_at before j

-- r is read where the bytes hold d
pub record Loaded (d r : Record) : Type 0 where
  pub is : r ≡ d
  pub sized : Sized r.outline
