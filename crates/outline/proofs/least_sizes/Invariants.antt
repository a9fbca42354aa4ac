-- `outline::least_sizes` meets its contract. The invariant: the least sizes among the first t types. Assumes nothing.
use Rattle.outline.specs.Stands.{LeastAmong}
use Rattle.outline.proofs.least_sizes.Given as goal

abbrev pub invariant-loop-t : goal.invariant-loop-t
invariant-loop-t l = LeastAmong l.job l.t (record { length = l.length; width = l.width })
