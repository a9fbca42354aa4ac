-- `reading::line` meets its contract: number after number the walk goes on, the last ended by LF. Assumes nothing.
use mathlib.Core.Path.{◌≡◌}
use Rattle.reading.specs.Walked.{InLine}
use Rattle.reading.proofs.line.Given as goal

abbrev pub invariant-loop-j : goal.invariant-loop-j
invariant-loop-j g l = (l.r.text ≡ l.initial.r.text) × InLine l.initial.r.text.now l.initial.r.at g.row.W l.numbers l.r.at l.j
