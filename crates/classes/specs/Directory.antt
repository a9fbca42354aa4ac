-- The classes of the arena, and how one is found by its counts. Assumes nothing.
use Rattle.std.specs.Prelude.{◌≡◌, Bool, true, false, Option, Some, None, List, ℕ, ◌-◌, ◌≤◌, ◌<◌, length, get_or, set, take}
use Rattle.rules.specs.Planner.{room_of}
use Rattle.arena.specs.Records.{record_at, link_at, links_most}
use Rattle.weighing.specs.Weights.{bucket_of}
use Rattle.classes.specs.Chains.{Reach, Chain}
use Rattle.classes.specs.Orders.{InOrderOf}

-- which link is which
abbrev pub end_link : ℕ
end_link = 2

abbrev pub chain_link : ℕ
chain_link = 3

abbrev pub head_link : ℕ
head_link = 4

-- the counts of record i, for a job of so many types
abbrev pub counts_at : ℕ → List ℕ → ℕ → List ℕ
counts_at types s i = take types (record_at s i).outline.counts

-- the chain links
abbrev pub chain_in : List ℕ → ℕ → ℕ
chain_in s q = link_at s q chain_link

-- a class whose first record is p: all of the first n records with its counts
pub record Class (types : ℕ) (s : List ℕ) (n p : ℕ) : Type 0 where
  pub some : p < link_at s p end_link
  pub ends : link_at s p end_link ≤ n
  pub same : (q : ℕ) → p ≤ q → q < link_at s p end_link → counts_at types s q ≡ counts_at types s p
  pub whole : (q : ℕ) → q < n → counts_at types s q ≡ counts_at types s p → (p ≤ q) × (q < link_at s p end_link)
  pub orders : (w : ℕ) → w < 2 → InOrderOf s w p (link_at s p end_link)
  pub chained : Reach (chain_in s) 0 (link_at s (bucket_of (room_of (length s)) (counts_at types s p)) head_link) p

-- the first n records of the arena stand in classes
pub record Directory (types : ℕ) (s : List ℕ) (n : ℕ) : Type 0 where
  pub room : n ≤ room_of (length s)
  pub heads : (h : ℕ) → h < room_of (length s) → Chain (Class types s n) (chain_in s) 0 (link_at s h head_link)
  pub each : (q : ℕ) → q < n → (p : ℕ) × Class types s n p × (p ≤ q) × (q < link_at s p end_link)

-- no record before p has its counts: a class begins there
abbrev pub Begins : ℕ → List ℕ → ℕ → Type 0
Begins types s p = (q : ℕ) → q < p → counts_at types s q ≡ counts_at types s p → ⊥

-- a place where a class begins, or the end
pub record Turn (types : ℕ) (s : List ℕ) (n p : ℕ) : Type 0 where
  pub upto : p ≤ n
  pub begins : p < n → Begins types s p

-- the class with these counts, or that no record has them
abbrev pub FoundIn : (types : ℕ) (s : List ℕ) (n : ℕ) (c : List ℕ) → Option ℕ → Type 0
FoundIn types s n c (Some p) = Class types s n p × (counts_at types s p ≡ c)
FoundIn types s n c None = (q : ℕ) → q < n → counts_at types s q ≡ c → ⊥

-- counts with one piece less of type t
abbrev pub less_of : List ℕ → ℕ → List ℕ
less_of c t = set c t (get_or c t 0 - 1)

-- an answer whether no record has them
pub record LacksType (types : ℕ) (s : List ℕ) (n : ℕ) (c : List ℕ) (t : ℕ) (r : Bool) : Type 0 where
  pub yes_if : r ≡ true → (q : ℕ) → q < n → counts_at types s q ≡ less_of c t → ⊥
  pub no_if : r ≡ false → (q : ℕ) × (q < n) × (counts_at types s q ≡ less_of c t)

-- a type of which there is one piece too many for any class
pub record Lacking (types : ℕ) (s : List ℕ) (n : ℕ) (c : List ℕ) : Type 0 where
  pub type : ℕ
  pub among : type < types
  pub has : 0 < get_or c type 0
  pub none : (q : ℕ) → q < n → counts_at types s q ≡ less_of c type → ⊥

-- an answer whether there is such a type
pub record LacksLess (types : ℕ) (s : List ℕ) (n : ℕ) (c : List ℕ) (r : Bool) : Type 0 where
  pub yes_if : r ≡ true → Lacking types s n c
  pub no_if : r ≡ false → (t : ℕ) → t < types → 0 < get_or c t 0 → (q : ℕ) × (q < n) × (counts_at types s q ≡ less_of c t)

-- the records from start up to n are a class that is not entered yet
pub record Enterable (types : ℕ) (s : List ℕ) (start n : ℕ) (c : List ℕ) : Type 0 where
  pub directory : Directory types s start
  pub room : n ≤ room_of (length s)
  pub some : start < n
  pub before : (q : ℕ) → q < start → counts_at types s q ≡ c → ⊥
  pub counts : (q : ℕ) → start ≤ q → q < n → counts_at types s q ≡ c
  pub orders : (w : ℕ) → w < 2 → InOrderOf s w start n

-- all of the first n records stand in classes, and no record is touched
pub record Entered (types n : ℕ) (before after : List ℕ) : Type 0 where
  pub same_length : length after ≡ length before
  pub records : (i : ℕ) → record_at after i ≡ record_at before i
  pub directory : Directory types after n

-- the first n records stay, and so does all that the classes before start are found and walked by
pub record Kept (start n : ℕ) (before after : List ℕ) : Type 0 where
  pub same_length : length after ≡ length before
  pub records : (i : ℕ) → i < n → record_at after i ≡ record_at before i
  pub links : (i k : ℕ) → i < start → k < links_most → link_at after i k ≡ link_at before i k
  pub heads : (i : ℕ) → link_at after i head_link ≡ link_at before i head_link
