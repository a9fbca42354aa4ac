-- `choice::profit` meets its contract. The invariant: the sum over the first i types. Assumes nothing.
use Prim.Native.Nat.{◌*◌, ◌≤◌}
use mathlib.Core.Path.{◌≡◌}
use lib.ListN.{take}
use Rattle.rules.specs.Limits.{profit_most}
use Rattle.rules.specs.Job.{dot}
use Rattle.outline.specs.Stands.{job_for}
use Rattle.choice.proofs.profit.Given as goal

abbrev pub invariant-loop-i : goal.invariant-loop-i
invariant-loop-i l = record { is : l.sum ≡ dot (take l.i l.o.counts) (job_for l.job).profits; small : l.sum ≤ l.i * (255 * profit_most) }
