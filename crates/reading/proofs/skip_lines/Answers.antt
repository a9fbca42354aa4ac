use mathlib.Core.Path.{refl, ap, ◌∙◌}
use Rattle.reading.proofs.Lines.{in_lines_start, in_lines_next, in_lines_stops, in_lines_end}
use Rattle.reading.proofs.Walks.{told}
use Rattle.reading.proofs.skip_lines.Goals as goal

pub loop-i-init : goal.loop-i-init
loop-i-init g c = (refl, in_lines_start)

pub returns-in_err-line-clause-passed : goal.returns-in_err-line-clause-passed
returns-in_err-line-clause-passed g c = told (in_lines_stops c.loop-i.invariant.1 (ap (λ b. b.now) c.loop-i.invariant.0) c.loop-i-test.true c.in_err-line.ensures.read) _ c.from_residual.result c.from_residual.ensures

pub loop-i-preserved : goal.loop-i-preserved
loop-i-preserved g c = (c.line.ensures.text ∙ c.loop-i.invariant.0, in_lines_next c.loop-i.invariant.1 (ap (λ b. b.now) c.loop-i.invariant.0) c.loop-i-test.true c.in_ok-line.ensures.read)

pub returns-clause-passed : goal.returns-clause-passed
returns-clause-passed g c = in_lines_end c.loop-i.invariant.1 c.loop-i-test.false
