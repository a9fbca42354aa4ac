-- `reading::two_sections` meets its contract: a sheet count, and then what it asks for. Assumes nothing.
use mathlib.Core.Path.{sym, ap, subst}
use Rattle.std.specs.Prelude.{◌∷◌, Some, None}
use Rattle.reading.specs.Sections.{Holds, some_sheets, not_one}
use Rattle.reading.proofs.Parts.{one_walk}
use Rattle.reading.proofs.Walks.{told, count_walk, count_stops, strays_behind, arrives_behind, passed_as}
use Rattle.reading.proofs.two_sections.Goals as goal

pub returns-in_err-sheets-clause-read : goal.returns-in_err-sheets-clause-read
returns-in_err-sheets-clause-read c = told (count_stops c.args.r.now.text.now c.args.r.now.at _ some_sheets c.in_err-sheets.ensures.number) _ c.from_residual.result c.from_residual.ensures

pub returns-in_err-job-clause-read : goal.returns-in_err-job-clause-read
returns-in_err-job-clause-read c = told (strays_behind (one_walk c.if-sheets-eq1.true (count_walk c.args.r.now.text.now c.args.r.now.at c.in_ok-sheets.sheets c.count.new.self.at some_sheets c.in_ok-sheets.ensures.number)) (ap (λ b. b.now) c.count.ensures.text) c.in_err-job.ensures.read) _ c.from_residual-in_err-job.result c.from_residual-in_err-job.ensures

pub returns-then-sheets-eq1-clause-read : goal.returns-then-sheets-eq1-clause-read
returns-then-sheets-eq1-clause-read c = arrives_behind (one_walk c.if-sheets-eq1.true (count_walk c.args.r.now.text.now c.args.r.now.at c.in_ok-sheets.sheets c.count.new.self.at some_sheets c.in_ok-sheets.ensures.number)) (ap (λ b. b.now) c.count.ensures.text) c.in_ok-job.ensures.read (λ vs h. subst (λ n. Holds (record { sheets = n; job = Some c.in_ok-job.job }) (1 ∷ vs)) (sym c.if-sheets-eq1.true) h)

pub returns-in_err-other_sheets-clause-read : goal.returns-in_err-other_sheets-clause-read
returns-in_err-other_sheets-clause-read c = told (strays_behind (count_walk c.args.r.now.text.now c.args.r.now.at c.in_ok-sheets.sheets c.count.new.self.at some_sheets c.in_ok-sheets.ensures.number) (ap (λ b. b.now) c.count.ensures.text) c.in_err-other_sheets.ensures.passed) _ c.from_residual-in_err-other_sheets.result c.from_residual-in_err-other_sheets.ensures

pub returns-clause-read : goal.returns-clause-read
returns-clause-read c = passed_as (count_walk c.args.r.now.text.now c.args.r.now.at c.in_ok-sheets.sheets c.count.new.self.at some_sheets c.in_ok-sheets.ensures.number) (ap (λ b. b.now) c.count.ensures.text) {Told = Holds} {a = record { sheets = c.in_ok-sheets.sheets; job = None }} c.in_ok-other_sheets.ensures.passed (λ vs. not_one c.if-sheets-eq1.false)
