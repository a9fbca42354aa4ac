-- `tally::pieces_of` meets its contract. The invariant: the first i counts are added up. Assumes nothing.
use Prim.Native.Nat.{◌*◌, ◌≤◌}
use mathlib.Core.Path.{◌≡◌}
use lib.ListN.{take}
use Rattle.rules.specs.Bag.{sum}
use Rattle.tally.specs.Bounds.{byte_most}
use Rattle.tally.proofs.pieces_of.Given as goal

abbrev pub invariant-loop-i : goal.invariant-loop-i
invariant-loop-i l = (l.r ≡ sum (take l.i l.fn.counts)) × (l.r ≤ l.i * byte_most)
