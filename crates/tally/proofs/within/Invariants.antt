-- `tally::within` meets its contract. The invariant: `fit` says whether the first i bytes are at most these. Assumes nothing.
use mathlib.Core.Path.{◌≡◌}
use lib.ListN.{take}
use Rattle.rules.proofs.Outlines.{at_most}
use Rattle.tally.proofs.within.Given as goal

abbrev pub invariant-loop-i : goal.invariant-loop-i
invariant-loop-i l = (l.fit ≡ at_most (take l.i l.s) l.fn.bounds)
