-- `batch::answer_all` meets its contract: each answer is behind the one before. Assumes nothing.
use Rattle.std.proofs.Common.{◌-◌, length}
use Rattle.batch.proofs.answer_all.Given as goal

abbrev pub decreases-loop-at : goal.decreases-loop-at
decreases-loop-at g l = length l.s - l.at
