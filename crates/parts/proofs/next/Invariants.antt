-- `parts::next` meets its contract. The invariant: the counts before i could not go up, and have begun again. Assumes nothing.
use mathlib.Core.Path.{◌≡◌}
use Rattle.weighing.specs.Weights.{weight_of}
use Rattle.parts.proofs.Portions.{Turning}
use Rattle.parts.proofs.next.Given as goal

abbrev pub invariant-loop-i : goal.invariant-loop-i
invariant-loop-i l = Turning l.types l.counts l.initial.part (record { part = l.part; rest = l.rest; weight = l.weight; spare = l.spare }) l.i × (l.next ≡ weight_of l.i)
