-- `listing::half_of` meets its contract: the walk goes from class to class. Assumes nothing.
use Prim.Native.Nat.{◌-◌}
use Rattle.listing.specs.Queue.{HalvesAt}
use Rattle.listing.proofs.half_of.Given as goal

abbrev pub invariant-loop-passed : goal.invariant-loop-passed
invariant-loop-passed l = HalvesAt l.job l.least l.arena l.n l.most (record { passed = l.passed; tried = l.tried })

abbrev pub decreases-loop-passed : goal.decreases-loop-passed
decreases-loop-passed l = l.n - l.passed
