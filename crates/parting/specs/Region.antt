-- Boxes by their lines and regions of them: what the functions of parting ask for and what they answer. Assumes nothing.
use Rattle.std.specs.Prelude.{◌≡◌, Bool, true, false, List, map, ℕ, ◌-◌, ◌≤◌, ◌<◌, length, get_or, take, drop}
use Rattle.rules.specs.Bag.{All, Same}
use Rattle.rules.specs.Box as rules
use Rattle.rules.specs.Box.{Box, along, across, near, far}
use Rattle.rules.specs.Parted.{Cut, CanBeParted}
use Rattle.parting.specs.declared.Way.{Way}
use Rattle.parting.specs.declared.Way.TheVariants.{Along, Across}
use Rattle.parting.specs.declared.Span.{Span}
use Rattle.parting.specs.declared.Lines.{Lines}

abbrev pub way_of : Way → rules.Way
way_of Along = along
way_of Across = across

abbrev pub span_of : Way → Lines → Span
span_of Along b = b.along
span_of Across b = b.across

abbrev pub other_way : rules.Way → rules.Way
other_way along = across
other_way across = along

-- the box that has these lines
abbrev pub box_of : Lines → Box
box_of b = record { x = b.along.near; y = b.across.near; long = b.along.far - b.along.near; wide = b.across.far - b.across.near }

abbrev pub no_lines : Lines
no_lines = record { along = record { near = 0; far = 0 }; across = record { near = 0; far = 0 } }

-- the box of a number
abbrev pub box_at : List Lines → ℕ → Box
box_at s v = box_of (get_or s v no_lines)

abbrev pub boxes_of : List Lines → List ℕ → List Box
boxes_of s l = map (box_at s) l

-- v names one of the boxes, and this box has a size
pub record Listed (s : List Lines) (v : ℕ) : Type 0 where
  pub there : v < length s
  pub thick : (w : rules.Way) → near w (box_at s v) < far w (box_at s v)

abbrev pub near_line : List Lines → Way → ℕ → ℕ
near_line s way v = near (way_of way) (box_at s v)

-- a region stands in order of its near lines
abbrev pub Ordered : List Lines → Way → List ℕ → Type 0
Ordered s way l = (p q : ℕ) → p < q → q < length l → near_line s way (get_or l p 0) ≤ near_line s way (get_or l q 0)

pub record Sorted (s : List Lines) (way : Way) (was now : List ℕ) : Type 0 where
  pub same : Same now was
  pub ordered : Ordered s way now

pub record InOrder (s : List Lines) (way : Way) (l : List ℕ) : Type 0 where
  pub listed : All (Listed s) l
  pub some : 0 < length l
  pub ordered : Ordered s way l

-- no line of that way divides the boxes
abbrev pub NoCut : rules.Way → List Box → Type 0
NoCut w bs = (line : ℕ) → ¬ Cut w line bs

-- a line with the boxes of one list before it and those of another after it
pub record Between (w : rules.Way) (bs cs : List Box) : Type 0 where
  pub line : ℕ
  pub before : All (λ b. far w b ≤ line) bs
  pub after : All (λ c. line ≤ near w c) cs

-- the first k are the first part that no line of the way divides
pub record FirstPart (s : List Lines) (w : rules.Way) (l : List ℕ) (k : ℕ) : Type 0 where
  pub some : 0 < k
  pub within : k ≤ length l
  pub uncut : NoCut w (boxes_of s (take k l))
  pub between : Between w (boxes_of s (take k l)) (boxes_of s (drop k l))

pub record Divided (s : List Lines) (w : rules.Way) (was now : List ℕ) (k : ℕ) : Type 0 where
  pub same : Same now was
  pub part : FirstPart s w now k

-- a region that is fresh, or one that no line of the other way divides
pub record Asks (s : List Lines) (w : rules.Way) (l : List ℕ) (fresh : Bool) : Type 0 where
  pub listed : All (Listed s) l
  pub uncut : fresh ≡ false → NoCut (other_way w) (boxes_of s l)

-- the region is put in another order, and the answer is whether its boxes can be parted
pub record Answers (s : List Lines) (was now : List ℕ) (r : Bool) : Type 0 where
  pub same : Same now was
  pub yes_if : r ≡ true → CanBeParted (boxes_of s was)
  pub no_if : r ≡ false → ¬ CanBeParted (boxes_of s was)
