-- `listing::list_joins` meets its contract. The invariant: the classes before p are followed by those with one piece more. Assumes nothing.
use mathlib.Core.Path.{◌≡◌}
use Prim.Native.Nat.{suc, ◌-◌, ◌<◌}
use lib.ListN.{length}
use Rattle.rules.specs.Planner.{room_of}
use Rattle.listing.specs.Queue.{pieces_at, HalvesAt, Queued}
use Rattle.listing.proofs.list_joins.Given as goal

abbrev pub invariant-loop-p : goal.invariant-loop-p
invariant-loop-p l = Queued l.job l.arena l.n l.p × (l.p < l.n → HalvesAt l.job l.least l.arena l.n (suc (pieces_at l.job l.arena l.p)) l.halves) × (length l.arena ≡ length l.initial.arena)

abbrev pub decreases-loop-p : goal.decreases-loop-p
decreases-loop-p l = room_of (length l.initial.arena) - l.p
