-- `reading::piece_lines` meets its contract: each line read is one more type. Assumes nothing.
use mathlib.Core.Path.{◌≡◌}
use Rattle.reading.specs.Pieces.{InPieces}
use Rattle.reading.proofs.piece_lines.Given as goal

abbrev pub invariant-loop-i : goal.invariant-loop-i
invariant-loop-i l = (l.r.text ≡ l.initial.r.text) × InPieces l.initial.r.text.now l.initial.r.at l.n l.types l.r.at l.i
