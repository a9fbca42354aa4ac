-- `texts::kept_plan` meets its contract: the count, the room, and the copy. Assumes nothing.
use mathlib.Core.Path.{refl}
use Rattle.texts.specs.Plan.{many, no_room, copied}
use Rattle.texts.proofs.kept_plan.Goals as goal

pub returns-then-list : goal.returns-then-list
returns-then-list c = many c.if-list.true

pub returns-then-buffer-n : goal.returns-then-buffer-n
returns-then-buffer-n c = no_room c.if-list.false c.if-buffer-n.true

pub returns : goal.returns
returns c = copied c.if-list.false c.if-buffer-n.false (rw c.copy_from_slice.ensures.after refl)
