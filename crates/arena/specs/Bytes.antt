-- The 32 bytes of a record. Assumes nothing.
use Rattle.std.specs.Prelude.{List, ◌∷◌, ◌++◌, ℕ, ◌+◌, ◌*◌, ◌/◌, ◌%◌, eqb, get_or, set, take, drop, replicate}
use Rattle.rules.specs.Limits.{types_most, record_bytes}
use Rattle.rules.specs.Planner.{pick}
use Rattle.outline.specs.declared.Way.TheVariants.{Beside, Above}
use Rattle.arena.specs.declared.How.{How}
use Rattle.arena.specs.declared.How.TheVariants.{Piece, Joined}
use Rattle.arena.specs.declared.Link.{Link}
use Rattle.arena.specs.declared.Record.{Record}

-- two bytes, the low one first
unfoldable pub word : List ℕ → ℕ → ℕ
word s at = get_or s at 0 + 256 * get_or s (at + 1) 0

unfoldable pub put_word : List ℕ → ℕ → ℕ → List ℕ
put_word s at v = set (set s at (v % 256)) (at + 1) (v / 256 % 256)

abbrev pub two : ℕ → List ℕ → List ℕ
two v t = v % 256 ∷ (v / 256 % 256) ∷ t

abbrev pub link_of : How → Link
link_of (Piece t) = record { kind = 0; first = t; second = 0 }
link_of (Joined Beside a b) = record { kind = 1; first = a; second = b }
link_of (Joined Above a b) = record { kind = 2; first = a; second = b }

abbrev pub how_of : Link → How
how_of k = pick (eqb k.kind 0) (Piece k.first) (pick (eqb k.kind 1) (Joined Beside k.first k.second) (Joined Above k.first k.second))

-- what stands behind the counts
unfoldable pub behind : ℕ → ℕ → Link → List ℕ
behind l w k = two l (two w (two k.first (two k.second (k.kind ∷ replicate 11 0))))

unfoldable pub encode : Record → List ℕ
encode r = r.outline.counts ++ behind r.outline.length.0 r.outline.width.0 (link_of r.how)

-- where the fields stand: the counts first, then two bytes each
abbrev pub length_at : ℕ
length_at = types_most

abbrev pub width_at : ℕ
width_at = length_at + 2

abbrev pub first_at : ℕ
first_at = width_at + 2

abbrev pub second_at : ℕ
second_at = first_at + 2

abbrev pub kind_at : ℕ
kind_at = second_at + 2

unfoldable pub decode : List ℕ → Record
decode s = record {
  outline = record { length = record { 0 = word s length_at }; width = record { 0 = word s width_at }; counts = take types_most s };
  how = how_of (record { kind = get_or s kind_at 0; first = word s first_at; second = word s second_at });
}

-- the i-th 32 bytes
unfoldable pub chunk : List ℕ → ℕ → List ℕ
chunk s i = take record_bytes (drop (i * record_bytes) s)

unfoldable pub put_chunk : List ℕ → ℕ → List ℕ → List ℕ
put_chunk s i c = take (i * record_bytes) s ++ (c ++ drop record_bytes (drop (i * record_bytes) s))
