-- `reading::skip_lines` meets its contract: line after line the walk goes on. Assumes nothing.
use mathlib.Core.Path.{◌≡◌}
use Rattle.reading.specs.Walked.{InLines}
use Rattle.reading.proofs.skip_lines.Given as goal

abbrev pub invariant-loop-i : goal.invariant-loop-i
invariant-loop-i g l = (l.r.text ≡ l.initial.r.text) × InLines l.initial.r.text.now l.initial.r.at l.n g.row.W l.r.at l.i
