-- The class that is open at the arena's end, and how one of its records is found by its sizes. Assumes nothing.
use Rattle.std.specs.Prelude.{◌≡◌, Bool, true, false, Option, Some, None, List, [], ◌∷◌, ℕ, suc, ◌+◌, ◌-◌, ◌≤◌, ◌<◌, length}
use Rattle.rules.specs.Limits.{records_most}
use Rattle.rules.specs.Planner.{room_of}
use Rattle.arena.specs.declared.Record.{Record}
use Rattle.arena.specs.Records.{record_at, link_at, Storable}
use Rattle.classes.specs.Chains.{Reach}
use Rattle.classes.specs.Orders.{size_in}
use Rattle.weighing.specs.Weights.{bucket_of}
use Rattle.classes.specs.Directory.{end_link, chain_link, chain_in, Kept}

-- what two sizes that two bytes hold add up to is below
abbrev pub join_most : ℕ
join_most = 131_072

-- where the head of the bucket of these sizes stands, for a class that begins at start: among the slots from there up to the room's end
abbrev pub place_of : (room start long wide : ℕ) → ℕ
place_of room start long wide = start + bucket_of (room - start) (long ∷ wide ∷ [])

-- the place of record q
abbrev pub place_at : List ℕ → (start q : ℕ) → ℕ
place_at s start q = place_of (room_of (length s)) start (size_in s 0 q) (size_in s 1 q)

-- the records from start up to n are found by their sizes: from the end link of their place, through their chain links
pub record Findable (s : List ℕ) (start n : ℕ) : Type 0 where
  pub falls : (q : ℕ) → start ≤ q → q < n → link_at s q chain_link ≤ q
  pub top : (q : ℕ) → start ≤ q → q < n → link_at s (place_at s start q) end_link ≤ n
  pub reached : (q : ℕ) → start ≤ q → q < n → Reach (chain_in s) start (link_at s (place_at s start q) end_link) q

-- a record of the open class with these sizes
pub record SizedAs (s : List ℕ) (start n long wide q : ℕ) : Type 0 where
  pub low : start ≤ q
  pub high : q < n
  pub same_long : size_in s 0 q ≡ long
  pub same_wide : size_in s 1 q ≡ wide

-- a class that begins at start has buckets
pub record Placeable (start room long wide : ℕ) : Type 0 where
  pub some : start < room
  pub most : room ≤ records_most
  pub long_small : long < join_most
  pub wide_small : wide < join_most

-- r is the link that stands at a place if it can be one of a class of n records
pub record HeadAt (s : List ℕ) (at n r : ℕ) : Type 0 where
  pub upto : r ≤ n
  pub is : link_at s at end_link ≤ n → r ≡ link_at s at end_link

-- an answer whether record i has these sizes
pub record SameSizes (s : List ℕ) (i long wide : ℕ) (r : Bool) : Type 0 where
  pub yes_if : r ≡ true → (size_in s 0 i ≡ long) × (size_in s 1 i ≡ wide)
  pub no_if : r ≡ false → size_in s 0 i ≡ long → size_in s 1 i ≡ wide → ⊥

pub record Seekable (s : List ℕ) (start n long wide : ℕ) : Type 0 where
  pub begins : start ≤ n
  pub room : n ≤ room_of (length s)
  pub long_small : long < join_most
  pub wide_small : wide < join_most
  pub table : Findable s start n

abbrev pub SoughtIn : (s : List ℕ) (start n long wide : ℕ) → Option ℕ → Type 0
SoughtIn s start n long wide (Some q) = SizedAs s start n long wide q
SoughtIn s start n long wide None = (q : ℕ) → SizedAs s start n long wide q → ⊥

-- record n stands behind the open class, and may be entered among those that are found by their sizes
pub record Notable (s : List ℕ) (start n : ℕ) : Type 0 where
  pub begins : start ≤ n
  pub room : n < room_of (length s)
  pub table : Findable s start n

pub record Noted (start n : ℕ) (before after : List ℕ) : Type 0 where
  pub kept : Kept start n before after
  pub records : (i : ℕ) → record_at after i ≡ record_at before i
  pub table : Findable after start (suc n)

-- record n may be written behind the class that begins at start
pub record Appendable (s : List ℕ) (start n : ℕ) (r : Record) : Type 0 where
  pub storable : Storable s n r
  pub begins : start ≤ n
  pub table : Findable s start n

-- record n is written, and found
pub record Appended (start n : ℕ) (r : Record) (before after : List ℕ) : Type 0 where
  pub kept : Kept start n before after
  pub here : record_at after n ≡ r
  pub table : Findable after start (suc n)
