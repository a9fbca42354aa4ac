-- What the arena holds while a class grows at its end. Assumes nothing.
use Rattle.std.specs.Prelude.{◌≡◌, Bool, true, false, List, ℕ, ◌≤◌, ◌<◌, length, take, Result, Ok, Err}
use Rattle.rules.specs.Limits.{types_most}
use Rattle.rules.specs.Box.{Way}
use Rattle.rules.specs.Job as rules
use Rattle.rules.specs.Planner.{room_of}
use Rattle.rules.proofs.Bridge.{join}
use Rattle.shapes.specs.declared.Job.{Job}
use Rattle.outline.specs.declared.Outline.{Outline}
use Rattle.outline.specs.Stands.{outline_of, Sized}
use Rattle.arena.specs.declared.Record.{Record}
use Rattle.arena.specs.Records.{record_at}
use Rattle.classes.specs.Directory.{counts_at, Directory, Kept}
use Rattle.seeking.specs.Opened.{Findable, SizedAs}
use Rattle.outlines.specs.declared.ArenaFull.{ArenaFull}
use Rattle.outlines.specs.Listing.{Addable, Joinable, Grown, TooMany}

-- no record before start has the outline's counts, and all from there on have
pub record Absent (types : ℕ) (s : List ℕ) (start n : ℕ) (o : Outline) : Type 0 where
  pub room : n ≤ room_of (length s)
  pub types_most_lem : types ≤ types_most
  pub begins : start ≤ n
  pub before : (q : ℕ) → q < start → counts_at types s q ≡ take types o.counts → ⊥
  pub counts : (q : ℕ) → start ≤ q → q < n → counts_at types s q ≡ take types o.counts
  pub sized : Sized o
  pub table : Findable s start n

-- the records from start up to n are a class with counts c that is not entered yet; all before it are in entered classes with other counts
pub record Growing (types : ℕ) (s : List ℕ) (start n : ℕ) (c : List ℕ) : Type 0 where
  pub begins : start ≤ n
  pub directory : Directory types s start
  pub before : (q : ℕ) → q < start → counts_at types s q ≡ c → ⊥
  pub counts : (q : ℕ) → start ≤ q → q < n → counts_at types s q ≡ c
  pub table : Findable s start n

-- builds came into the class with counts c, P holds of all outlines then, and the records stay
pub record Came (job : Job) (start : ℕ) (c : List ℕ) (P : List rules.Outline → Type 0) (s : List ℕ) (n : ℕ) (t : List ℕ) (m : ℕ) : Type 0 where
  pub grown : Grown job P s n t m
  pub kept : Kept start n s t
  pub growing : Growing job.count t start m c

abbrev pub Comes : (job : Job) (start : ℕ) (c : List ℕ) (P : List rules.Outline → Type 0) (s : List ℕ) (n : ℕ) (t : List ℕ) → Result ℕ ArenaFull → Type 0
Comes job start c P s n t (Ok m) = Came job start c P s n t m
Comes job start c P s n t (Err full) = TooMany job s

-- the counts of a build's record
abbrev pub class_of : Job → Record → List ℕ
class_of job r = take job.count r.outline.counts

-- a build that may come into the class
pub record Growable (job : Job) (s : List ℕ) (start n : ℕ) (r : Record) : Type 0 where
  pub growing : Growing job.count s start n (class_of job r)
  pub addable : Addable job s n r

-- the counts of two records together
abbrev pub pair_of : Job → List ℕ → (i q : ℕ) → List ℕ
pair_of job s i q = rules.plus (counts_at job.count s i) (counts_at job.count s q)

-- two records whose joins belong to the class
pub record Pairable (job : Job) (s : List ℕ) (start n i q : ℕ) : Type 0 where
  pub joinable : Joinable job s n i q
  pub growing : Growing job.count s start n (pair_of job s i q)

-- an answer whether a record of the class has these sizes
pub record HasSizes (s : List ℕ) (start n long wide : ℕ) (r : Bool) : Type 0 where
  pub yes_if : r ≡ true → (k : ℕ) × SizedAs s start n long wide k
  pub no_if : r ≡ false → (k : ℕ) → SizedAs s start n long wide k → ⊥

-- the join of two records, for their sizes
abbrev pub bare_join : Way → List ℕ → (i q : ℕ) → rules.Outline
bare_join w s i q = join w (outline_of 0 (record_at s i).outline) (outline_of 0 (record_at s q).outline)

-- two records, and a class in which their join may be
pub record Pairing (s : List ℕ) (start n i q : ℕ) : Type 0 where
  pub one : i < room_of (length s)
  pub other : q < room_of (length s)
  pub begins : start ≤ n
  pub room : n ≤ room_of (length s)
  pub table : Findable s start n

-- a record of the class has the sizes of their join
abbrev pub JoinSized : (s : List ℕ) (start n : ℕ) (w : Way) (i q : ℕ) → Type 0
JoinSized s start n w i q = (k : ℕ) × SizedAs s start n (bare_join w s i q).long (bare_join w s i q).wide k
