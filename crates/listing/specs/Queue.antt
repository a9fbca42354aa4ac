-- What the arena holds while classes are listed one after the other, in order of their pieces. Assumes nothing.
use Rattle.std.specs.Prelude.{◌≡◌, List, ℕ, suc, ◌*◌, ◌≤◌, ◌<◌, length, get_or, Result, Ok, Err}
use Rattle.rules.specs.Bag.{sum}
use Rattle.rules.specs.Box.{Way}
use Rattle.rules.specs.Job as rules
use Rattle.rules.proofs.Classes.{Below, NoneAfter, one_more}
use Rattle.rules.proofs.Halves.{In, Whole}
use Rattle.shapes.specs.declared.Job.{Job}
use Rattle.shapes.specs.Handed.{JobInRange}
use Rattle.outline.specs.declared.Least.{Least}
use Rattle.outline.specs.Stands.{job_for, LeastOf}
use Rattle.arena.specs.Records.{record_at}
use Rattle.classes.specs.Directory.{Begins, Turn, Directory}
use Rattle.outlines.specs.declared.ArenaFull.{ArenaFull}
use Rattle.outlines.specs.Listing.{outlines_in, Ready, StartsIn, Grown, TooMany}
use Rattle.pairing.specs.Pairs.{key_at, IdleAt}
use Rattle.listing.specs.declared.Halves.{Halves}

-- the pieces of record i
abbrev pub pieces_at : Job → List ℕ → ℕ → ℕ
pieces_at job s i = sum (key_at job s i)

-- every build with these counts is in a list; every build with fewer pieces
abbrev pub WholeIn : Job → List ℕ → List rules.Outline → Type 0
WholeIn job c l = Whole (job_for job) l c

abbrev pub BelowIn : Job → ℕ → List rules.Outline → Type 0
BelowIn job k l = Below (job_for job) (In l) k

-- and so are those with one piece more, of the last type that there is or of a later one
abbrev pub NextIn : Job → List ℕ → List rules.Outline → Type 0
NextIn job c l = (t : ℕ) → t < job.count → NoneAfter t c → WholeIn job (one_more t c) l

-- n records in classes: all classes are whole, and they stand in order of their pieces
pub record Classed (job : Job) (s : List ℕ) (n : ℕ) : Type 0 where
  pub ready : Ready job s n
  pub directory : Directory job.count s n
  pub starts : StartsIn job (outlines_in job s n)
  pub whole : (q : ℕ) → q < n → WholeIn job (key_at job s q) (outlines_in job s n)
  pub rising : (p q : ℕ) → p < q → q < n → pieces_at job s p ≤ pieces_at job s q

-- the classes before p are followed by those with one piece more; no class has more than one piece more than that at p
pub record Queued (job : Job) (s : List ℕ) (n p : ℕ) : Type 0 where
  pub classed : Classed job s n
  pub turn : Turn job.count s n p
  pub top : p < n → (q : ℕ) → q < n → pieces_at job s q ≤ suc (pieces_at job s p)
  pub next : (q : ℕ) → q < p → NextIn job (key_at job s q) (outlines_in job s n)

-- the records before half have at most half of so many pieces, and no other with at most half of them need be tried as a first half
pub record HalfAt (job : Job) (least : Least) (s : List ℕ) (n most half : ℕ) : Type 0 where
  pub turn : Turn job.count s n half
  pub few : (q : ℕ) → q < half → 2 * pieces_at job s q ≤ most
  pub beyond : (q : ℕ) → half ≤ q → q < n → 2 * pieces_at job s q ≤ most → (w : Way) → IdleAt job least s q w

-- the classes before `passed` have at most half of so many pieces; of these no record from `tried` on need be tried
pub record HalvesAt (job : Job) (least : Least) (s : List ℕ) (n most : ℕ) (h : Halves) : Type 0 where
  pub turn : Turn job.count s n h.passed
  pub tried_turn : Turn job.count s n h.tried
  pub upto : h.tried ≤ h.passed
  pub few : (q : ℕ) → q < h.passed → 2 * pieces_at job s q ≤ most
  pub idle : (q : ℕ) → h.tried ≤ q → q < h.passed → (w : Way) → IdleAt job least s q w

-- to be gone on with, in an arena of classes; and gone on with as far as it goes
pub record Passing (job : Job) (least : Least) (s : List ℕ) (n most : ℕ) (h : Halves) : Type 0 where
  pub least_of : LeastOf job least
  pub range : JobInRange job
  pub directory : Directory job.count s n
  pub halves : HalvesAt job least s n most h

pub record Passed (job : Job) (least : Least) (s : List ℕ) (n most : ℕ) (h : Halves) : Type 0 where
  pub halves : HalvesAt job least s n most h
  pub beyond : h.passed < n → most < 2 * pieces_at job s h.passed

-- classes come behind: their records have k pieces, those before stay, and P holds then
pub record Followed (job : Job) (P : List rules.Outline → Type 0) (k : ℕ) (s : List ℕ) (n : ℕ) (t : List ℕ) (m : ℕ) : Type 0 where
  pub grown : Grown job P s n t m
  pub classed : Classed job t m
  pub same_length : length t ≡ length s
  pub records : (i : ℕ) → i < n → record_at t i ≡ record_at s i
  pub new : (q : ℕ) → n ≤ q → q < m → pieces_at job t q ≡ k
  pub turn : n < m → Begins job.count t n

abbrev pub Follows : (job : Job) (P : List rules.Outline → Type 0) (k : ℕ) (s : List ℕ) (n : ℕ) (t : List ℕ) → Result ℕ ArenaFull → Type 0
Follows job P k s n t (Ok m) = Followed job P k s n t m
Follows job P k s n t (Err full) = TooMany job s

-- counts whose class comes next: all builds with fewer pieces are listed, and none with more
pub record Target (job : Job) (least : Least) (s : List ℕ) (n half : ℕ) (c : List ℕ) : Type 0 where
  pub least_of : LeastOf job least
  pub classed : Classed job s n
  pub two : 2 ≤ sum c
  pub below : BelowIn job (sum c) (outlines_in job s n)
  pub top : (q : ℕ) → q < n → pieces_at job s q ≤ sum c
  pub half_at : HalfAt job least s n (sum c) half

-- class p, all builds up to whose pieces are listed
pub record Source (job : Job) (least : Least) (s : List ℕ) (n half p : ℕ) : Type 0 where
  pub least_of : LeastOf job least
  pub classed : Classed job s n
  pub here : p < n
  pub below : BelowIn job (suc (pieces_at job s p)) (outlines_in job s n)
  pub top : (q : ℕ) → q < n → pieces_at job s q ≤ suc (pieces_at job s p)
  pub half_at : HalfAt job least s n (suc (pieces_at job s p)) half

-- single pieces: all that fit alone, each a class of its own
pub record Singles (job : Job) (s : List ℕ) (n : ℕ) : Type 0 where
  pub ready : Ready job s n
  pub directory : Directory job.count s n
  pub alone : (q : ℕ) → q < n → pieces_at job s q ≡ 1

-- and none yet of type t or a later one
pub record SinglesTo (job : Job) (s : List ℕ) (n t : ℕ) : Type 0 where
  pub singles : Singles job s n
  pub later : (q u : ℕ) → q < n → t ≤ u → get_or (key_at job s q) u 0 ≡ 0

pub record SinglesGrown (job : Job) (P : List rules.Outline → Type 0) (k : ℕ) (s : List ℕ) (n : ℕ) (t : List ℕ) (m : ℕ) : Type 0 where
  pub grown : Grown job P s n t m
  pub to : SinglesTo job t m k

abbrev pub SinglesGrow : (job : Job) (P : List rules.Outline → Type 0) (k : ℕ) (s : List ℕ) (n : ℕ) (t : List ℕ) → Result ℕ ArenaFull → Type 0
SinglesGrow job P k s n t (Ok m) = SinglesGrown job P k s n t m
SinglesGrow job P k s n t (Err full) = TooMany job s
