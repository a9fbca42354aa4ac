-- `writing::piece_numbers` meets its contract: each turn writes the four numbers of a type behind those before it. Assumes nothing.
use mathlib.Core.List.{map}
use lib.ListN.{replicate}
use Rattle.shapes.specs.Handed.{type_of}
use Rattle.writing.proofs.House.{Flattening}
use Rattle.writing.proofs.piece_numbers.Given as goal

abbrev pub invariant-loop-i : goal.invariant-loop-i
invariant-loop-i l = Flattening (map type_of l.types) (replicate 48 0) l.flat l.i
