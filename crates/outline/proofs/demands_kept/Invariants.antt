-- `outline::demands_kept` meets its contract. The invariant: below i no count is above its demand. Assumes nothing.
use Prim.Native.Nat.{ℕ, ◌≤◌, ◌<◌}
use lib.ListN.{get_or}
use Rattle.outline.specs.Stands.{job_for}
use Rattle.outline.proofs.demands_kept.Given as goal

abbrev pub invariant-loop-i : goal.invariant-loop-i
invariant-loop-i l = (k : ℕ) → k < l.i → get_or l.fn.counts k 0 ≤ get_or (job_for l.fn.job).demands k 0
