-- The answers to texts and to numbers, in the order of the refusal table: 11, 1, 2, and then the planner's or the checker's own. Assumes nothing.
use Rattle.std.specs.Prelude.{◌≡◌, List, ℕ, ◌≤◌, ◌<◌, length}
use Rattle.std.proofs.Math.Option.{none, some}
use Rattle.rules.specs.Limits.{input_most}
use Rattle.rules.specs.Text.{Script, Text, LeavesAt, job_text, plan_text}
use Rattle.rules.specs.Items.{out_of_range, numbers_from, placements_from}
use Rattle.rules.specs.Numbers.{job_of, entries}
use Rattle.rules.specs.Checker.{CheckAnswer, refused, Checked}
use Rattle.rules.specs.Planner.{PlanAnswer, no_plan, room_of, slots_of, Planned, BufferLeft, arena_after}

module _ {A : Type 0} (refuse : ℕ → ℕ → A) where
  -- the answer to items: 2 with the first that is out of range, and else what their job gives
  pub data Ranged (Then : List ℕ → A → Type 0) (vs : List ℕ) : A → Type 0 where
    outside : {item : ℕ} → out_of_range vs ≡ some item → Ranged Then vs (refuse 2 item)
    within : {a : A} → out_of_range vs ≡ none → Then vs a → Ranged Then vs a

  -- the answer to a text: 1 with the place where it leaves the grammar, and else what its items give
  pub data Read (s : Script) (Then : List ℕ → A → Type 0) (t : List ℕ) : A → Type 0 where
    no_text : {place : ℕ} → LeavesAt s t place → Read s Then t (refuse 1 place)
    a_text : {vs : List ℕ} {a : A} → Text s t vs → Ranged Then vs a → Read s Then t a

  -- the answer to a program's input: 11 if it is too long, and else what the text gives
  pub data Given (s : Script) (Then : List ℕ → A → Type 0) (t : List ℕ) : A → Type 0 where
    too_long : input_most < length t → Given s Then t (refuse 11 input_most)
    a_length : {a : A} → length t ≤ input_most → Read s Then t a → Given s Then t a

-- what a call of the planner leaves: its answer, the arena and the plan buffer
pub record PlanLeft : Type 0 where
  pub answer : PlanAnswer
  pub arena : List ℕ
  pub buffer : List ℕ

abbrev pub refused_plan : List ℕ → List ℕ → ℕ → ℕ → PlanLeft
refused_plan arena buffer number place = record { answer = no_plan number place; arena = arena_after number arena; buffer = buffer }

-- planning the job that items hold, in a lent arena and a lent buffer
pub record PlanItems (arena buffer vs : List ℕ) (left : PlanLeft) : Type 0 where
  pub planned : Planned (job_of (numbers_from vs)) (room_of (length arena)) (slots_of (length buffer)) left.answer
  pub arena_left : left.arena ≡ arena_after left.answer.number arena
  pub buffer_left : BufferLeft (numbers_from vs) left.answer.number buffer left.buffer

-- the answers to a job handed over as numbers (vs is `handed_over ..` of specs/Items), to a job text, and to the input of "plan"
abbrev pub PlanNumbers : List ℕ → List ℕ → List ℕ → PlanLeft → Type 0
PlanNumbers arena buffer = Ranged (refused_plan arena buffer) (PlanItems arena buffer)

abbrev pub PlanText : List ℕ → List ℕ → List ℕ → PlanLeft → Type 0
PlanText arena buffer = Read (refused_plan arena buffer) job_text (PlanItems arena buffer)

abbrev pub PlanInput : List ℕ → List ℕ → List ℕ → PlanLeft → Type 0
PlanInput arena buffer = Given (refused_plan arena buffer) job_text (PlanItems arena buffer)

-- checking a list of flat numbers for the job that items hold; a plan text holds its own list
abbrev pub CheckItems : List ℕ → List ℕ → CheckAnswer → Type 0
CheckItems flat vs = Checked (numbers_from vs) (entries flat)

abbrev pub CheckOwn : List ℕ → CheckAnswer → Type 0
CheckOwn vs = CheckItems (placements_from vs) vs

-- the answers to a list for a job handed over as numbers, to a plan text, and to the input of "check"
abbrev pub CheckNumbers : List ℕ → List ℕ → CheckAnswer → Type 0
CheckNumbers flat = Ranged refused (CheckItems flat)

abbrev pub CheckText : List ℕ → CheckAnswer → Type 0
CheckText = Read refused plan_text CheckOwn

abbrev pub CheckInput : List ℕ → CheckAnswer → Type 0
CheckInput = Given refused plan_text CheckOwn
