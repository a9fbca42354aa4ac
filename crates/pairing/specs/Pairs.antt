-- Two classes whose joins belong to a class that grows. Assumes nothing.
use Rattle.std.specs.Prelude.{List, ℕ, ◌≤◌, length}
use Rattle.rules.specs.Box.{Way}
use Rattle.rules.specs.Job as rules
use Rattle.rules.specs.Planner.{room_of}
use Rattle.rules.proofs.Bridge.{join}
use Rattle.rules.proofs.Classes.{turned}
use Rattle.rules.proofs.Halves.{Able}
use Rattle.shapes.specs.declared.Job.{Job}
use Rattle.shapes.specs.Handed.{JobInRange}
use Rattle.outline.specs.declared.Least.{Least}
use Rattle.outline.specs.Stands.{job_for, outline_of, LeastOf, least_by}
use Rattle.arena.specs.Records.{record_at}
use Rattle.classes.specs.Directory.{counts_at, Class}
use Rattle.outlines.specs.Listing.{Building, JoinIn}
use Rattle.growing.specs.Rows.{OfClass, Rowsable, Facing}

-- the outline of record i, and its counts
abbrev pub outline_at : Job → List ℕ → ℕ → rules.Outline
outline_at job s i = outline_of job.count (record_at s i).outline

abbrev pub key_at : Job → List ℕ → ℕ → List ℕ
key_at job s i = counts_at job.count s i

-- record i may be a first half in this way
abbrev pub AbleAt : Job → Least → List ℕ → ℕ → Way → Type 0
AbleAt job least s i w = Able (λ v. least_by v least) (turned w) (outline_at job s i)

-- it need not be tried: it may not, or joins with no build
abbrev pub IdleAt : Job → Least → List ℕ → ℕ → Way → Type 0
IdleAt job least s i w = AbleAt job least s i w → (b : rules.Outline) → Building job b → rules.Fits (job_for job) (join w (outline_at job s i) b) → ⊥

-- so it is with each record of class a
abbrev pub Unable : Job → Least → List ℕ → ℕ → Way → Type 0
Unable job least s a w = OfClass s a (λ i. AbleAt job least s i w → ⊥)

abbrev pub Idle : Job → Least → List ℕ → ℕ → Way → Type 0
Idle job least s a w = OfClass s a (λ i. IdleAt job least s i w)

-- no record of class a that may be a first half in this way joins with one of class b
abbrev pub Apart : Job → Least → List ℕ → (a b : ℕ) → Way → Type 0
Apart job least s a b w = OfClass s a (λ i. OfClass s b (λ q. AbleAt job least s i w → rules.Fits (job_for job) (join w (outline_at job s i) (outline_at job s q)) → ⊥))

-- a class of the arena, wherever its records end
pub record Standing (job : Job) (least : Least) (s : List ℕ) (a : ℕ) : Type 0 where
  pub least_of : LeastOf job least
  pub range : JobInRange job
  pub upto : ℕ
  pub room : upto ≤ room_of (length s)
  pub class : Class job.count s upto a

-- two of them
pub record TwoClasses (job : Job) (least : Least) (s : List ℕ) (a b : ℕ) : Type 0 where
  pub least_of : LeastOf job least
  pub range : JobInRange job
  pub facing : Facing job s a b

-- two classes whose joins belong to the class that grows
pub record PairReady (job : Job) (least : Least) (s : List ℕ) (start n a b : ℕ) : Type 0 where
  pub least_of : LeastOf job least
  pub rows : Rowsable job s start n a b

-- the joins in a way, and in both ways, of each record of class a that may be a first half with each of class b
abbrev pub WayIn : Job → Least → List ℕ → (a b : ℕ) → Way → List rules.Outline → Type 0
WayIn job least s a b w l = OfClass s a (λ i. OfClass s b (λ q. AbleAt job least s i w → JoinIn job w i q l))

abbrev pub PairIn : Job → Least → List ℕ → (a b : ℕ) → List rules.Outline → Type 0
PairIn job least s a b l = (w : Way) → WayIn job least s a b w l
