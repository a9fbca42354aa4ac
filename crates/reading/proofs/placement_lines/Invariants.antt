-- `reading::placement_lines` meets its contract: each line read is three numbers more. Assumes nothing.
use mathlib.Core.Path.{◌≡◌}
use Rattle.reading.specs.Placements.{InPlacements}
use Rattle.reading.proofs.placement_lines.Given as goal

abbrev pub invariant-loop-i : goal.invariant-loop-i
invariant-loop-i l = (l.r.text ≡ l.initial.r.text) × InPlacements l.initial.r.text.now l.initial.r.at l.n l.initial.numbers l.numbers l.r.at l.i
