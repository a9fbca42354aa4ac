-- `reading::one_sheet` meets its contract: the sheet line, and then the pieces. Assumes nothing.
use mathlib.Core.Path.{ap}
use borrow.Author.Rules.{rules}
use Rattle.rules.specs.Text.{a_line, section}
use Rattle.reading.proofs.Parts.{sheet_job}
use Rattle.reading.proofs.Walks.{told, before, strays_before, strays_behind, arrives_behind}
use Rattle.reading.proofs.one_sheet.Goals as goal

pub returns-in_err-length-clause-read : goal.returns-in_err-length-clause-read
returns-in_err-length-clause-read c = told (strays_before (a_line 3) (section 4) c.in_err-length.ensures.read) _ c.from_residual.result c.from_residual.ensures

pub returns-in_err-count-clause-read : goal.returns-in_err-count-clause-read
returns-in_err-count-clause-read c = told (strays_behind (before (a_line 3) (section 4) c.in_ok-length.ensures.read.walked) (ap (λ b. b.now) c.line.ensures.text) c.in_err-count.ensures.read) _ c.from_residual-in_err-count.result c.from_residual-in_err-count.ensures

pub returns-clause-read : goal.returns-clause-read
returns-clause-read c = arrives_behind (before (a_line 3) (section 4) c.in_ok-length.ensures.read.walked) (ap (λ b. b.now) c.line.ensures.text) c.in_ok-count.ensures.read (λ vs p. sheet_job c.in_ok-length.field-0 (search rules) c.in_ok-length.ensures.read.told p)
