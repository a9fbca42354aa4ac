-- `planning::some_fits` meets its contract. The invariant: no type before t fits alone. Assumes nothing.
use Prim.Native.Nat.{ℕ, ◌<◌}
use mathlib.Core.List.{[]}
use Rattle.outlines.specs.Listing.{SingleIn}
use Rattle.planning.proofs.some_fits.Given as goal

abbrev pub invariant-loop-t : goal.invariant-loop-t
invariant-loop-t l = (u : ℕ) → u < l.t → SingleIn l.job u []
