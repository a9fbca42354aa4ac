-- `reading::skip_section` meets its contract: a count, and as many lines. Assumes nothing.
use mathlib.Core.Path.{ap}
use Rattle.rules.specs.Text.{some_lines}
use Rattle.reading.proofs.Walks.{told, count_walk, count_stops, passes_behind}
use Rattle.reading.proofs.skip_section.Goals as goal

pub returns-in_err-n-clause-passed : goal.returns-in_err-n-clause-passed
returns-in_err-n-clause-passed g c = told (count_stops c.args.r.now.text.now c.args.r.now.at _ (λ n. some_lines n g.row.W) c.in_err-n.ensures.number) _ c.from_residual.result c.from_residual.ensures

pub returns-clause-passed : goal.returns-clause-passed
returns-clause-passed g c = passes_behind (count_walk c.args.r.now.text.now c.args.r.now.at c.in_ok-n.n c.count.new.self.at (λ n. some_lines n g.row.W) c.in_ok-n.ensures.number) (ap (λ b. b.now) c.count.ensures.text) c.skip_lines.result c.skip_lines.new.r.at c.skip_lines.ensures.passed
