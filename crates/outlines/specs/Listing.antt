-- What the arena holds while outlines are listed, and when all are. Assumes nothing.
use Rattle.std.specs.Prelude.{◌≡◌, Bool, true, false, ℕ, ◌≤◌, ◌<◌, length, get_or, Result, Ok, Err}
use mathlib.Core.List.{List, map, ◌++◌, Memᴰ}
use Rattle.rules.specs.Bag.{All}
use Rattle.rules.specs.Box.{Way}
use Rattle.rules.specs.Made.{Distinct, MoreThan}
use Rattle.rules.specs.Job as rules
use Rattle.rules.specs.Planner.{room_of, FitsAlone}
use Rattle.rules.proofs.Bridge.{join}
use Rattle.rules.proofs.Unfold.{Rec, no_rec, MadeBy, Valid}
use Rattle.shapes.specs.declared.Job.{Job}
use Rattle.shapes.specs.Handed.{JobInRange}
use Rattle.outline.specs.Stands.{job_for, piece_at, outline_of, two_bytes}
use Rattle.arena.specs.declared.Record.{Record}
use Rattle.arena.specs.Bytes.{link_of}
use Rattle.arena.specs.Records.{maker_of, recs}
use Rattle.outlines.specs.declared.ArenaFull.{ArenaFull}

-- the first n records of the arena, and their outlines
abbrev pub recs_in : Job → List ℕ → ℕ → List Rec
recs_in job s n = recs job.count n s

abbrev pub outlines_of : List Rec → List rules.Outline
outlines_of rs = map (λ r. r.outline) rs

abbrev pub outlines_in : Job → List ℕ → ℕ → List rules.Outline
outlines_in job s n = outlines_of (recs_in job s n)

abbrev pub no_outline : rules.Outline
no_outline = no_rec.outline

abbrev pub Building : Job → rules.Outline → Type 0
Building job = rules.Build (job_for job)

-- records of builds: no outline twice, and each made as it says
pub record Sound (j : rules.Job) (rs : List Rec) : Type 0 where
  pub once : Distinct (outlines_of rs)
  pub only : All (rules.Build j) (outlines_of rs)
  pub valid : Valid j rs

-- what the arena holds while outlines are listed: n such records
pub record Held (job : Job) (s : List ℕ) (n : ℕ) : Type 0 where
  pub room : n ≤ room_of (length s)
  pub sound : Sound (job_for job) (recs_in job s n)

-- an answer that says whether P holds
pub record Told (P : Type 0) (r : Bool) : Type 0 where
  pub yes_if : r ≡ true → P
  pub no_if : r ≡ false → P → ⊥

abbrev pub Holds : ℕ → List ℕ → ℕ → rules.Outline → Type 0
Holds types s n o = Memᴰ o (outlines_of (recs types n s))

pub record Ready (job : Job) (s : List ℕ) (n : ℕ) : Type 0 where
  pub range : JobInRange job
  pub held : Held job s n

-- a build that record n may hold
pub record Addable (job : Job) (s : List ℕ) (n : ℕ) (r : Record) : Type 0 where
  pub ready : Ready job s n
  pub build : Building job (outline_of job.count r.outline)
  pub made : MadeBy (job_for job) (recs_in job s n) n (outline_of job.count r.outline) (maker_of r.outline r.how)
  pub first : (link_of r.how).first < two_bytes
  pub second : (link_of r.how).second < two_bytes

pub record Joinable (job : Job) (s : List ℕ) (n i q : ℕ) : Type 0 where
  pub ready : Ready job s n
  pub one : i < n
  pub other : q < n

-- what is now in a list of outlines: an outline; a piece alone if it fits; a join if it fits; all pieces that fit alone
abbrev pub OutlineIn : Job → Record → List rules.Outline → Type 0
OutlineIn job r l = Memᴰ (outline_of job.count r.outline) l

abbrev pub SingleIn : Job → ℕ → List rules.Outline → Type 0
SingleIn job t l = FitsAlone (job_for job) (piece_at job t) → Memᴰ (rules.alone (job_for job) (piece_at job t)) l

abbrev pub JoinIn : Job → Way → ℕ → ℕ → List rules.Outline → Type 0
JoinIn job w i q l = let o = join w (get_or l i no_outline) (get_or l q no_outline) in rules.Fits (job_for job) o → Memᴰ o l

abbrev pub StartsIn : Job → List rules.Outline → Type 0
StartsIn job l = (o : rules.Outline) → (rules.building (job_for job)).Start o → rules.Fits (job_for job) o → Memᴰ o l

-- the records stay, others come behind them, and P holds then
pub record Grown (job : Job) (P : List rules.Outline → Type 0) (s : List ℕ) (n : ℕ) (t : List ℕ) (m : ℕ) : Type 0 where
  pub held : Held job t m
  pub behind : List Rec
  pub stay : recs_in job t m ≡ recs_in job s n ++ behind
  pub has : P (outlines_in job t m)

-- more outlines than the arena has room for
abbrev pub TooMany : Job → List ℕ → Type 0
TooMany job s = MoreThan (Building job) (room_of (length s))

-- n records, in the arena's room, hold all outlines of the job, each once, and each made as it says
pub record AllListed (job : Job) (s t : List ℕ) (n : ℕ) : Type 0 where
  pub room : n ≤ room_of (length s)
  pub all : rules.AllOutlines (job_for job) (outlines_in job t n)
  pub valid : Valid (job_for job) (recs_in job t n)

abbrev pub Lists : (job : Job) (s t : List ℕ) → Result ℕ ArenaFull → Type 0
Lists job s t (Ok n) = AllListed job s t n
Lists job s t (Err full) = TooMany job s
