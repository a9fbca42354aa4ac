-- `reading::other_sheets` meets its contract: the lines and the piece section are passed. Assumes nothing.
use mathlib.Core.Path.{ap}
use Rattle.rules.specs.Text.{some_lines, section}
use Rattle.reading.proofs.Walks.{told, before, strays_before, passes_behind}
use Rattle.reading.proofs.other_sheets.Goals as goal

pub returns-in_err-skip_lines-clause-passed : goal.returns-in_err-skip_lines-clause-passed
returns-in_err-skip_lines-clause-passed c = told (strays_before (some_lines c.args.sheets 3) (section 4) c.in_err-skip_lines.ensures.passed) _ c.from_residual.result c.from_residual.ensures

pub returns-clause-passed : goal.returns-clause-passed
returns-clause-passed c = passes_behind (before (some_lines c.args.sheets 3) (section 4) c.in_ok-skip_lines.ensures.passed.walked) (ap (λ b. b.now) c.skip_lines.ensures.text) c.skip_section.result c.skip_section.new.r.at c.skip_section.ensures.passed
