-- `jobs::types_out` meets its contract: the lines passed are fine, so what is left of the search is that of the lines behind them. Assumes nothing.
use mathlib.Core.List.{map}
use Rattle.shapes.specs.Handed.{type_of}
use Rattle.jobs.specs.Item.{Passed}
use Rattle.jobs.proofs.types_out.Given as goal

abbrev pub invariant-loop-i : goal.invariant-loop-i
invariant-loop-i l = Passed l.count (map type_of l.types) l.i
