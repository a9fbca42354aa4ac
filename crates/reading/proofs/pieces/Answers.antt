-- `reading::pieces` meets its contract: a count, and then its lines. Assumes nothing.
use mathlib.Core.Path.{ap}
use Rattle.rules.specs.Text.{some_lines}
use Rattle.reading.specs.Pieces.{no_types, PiecesOf, all, too_many}
use Rattle.reading.proofs.Walks.{told, count_walk, count_stops, strays_behind, arrives_behind, passed_as}
use Rattle.reading.proofs.pieces.Goals as goal

pub returns-in_err-count-clause-read : goal.returns-in_err-count-clause-read
returns-in_err-count-clause-read c = told (count_stops c.args.r.now.text.now c.args.r.now.at _ (λ n. some_lines n 4) c.in_err-count.ensures.number) _ c.from_residual.result c.from_residual.ensures

pub returns-in_err-types-clause-read : goal.returns-in_err-types-clause-read
returns-in_err-types-clause-read c = told (strays_behind (count_walk c.args.r.now.text.now c.args.r.now.at c.in_ok-count.count c.count.new.self.at (λ n. some_lines n 4) c.in_ok-count.ensures.number) (ap (λ b. b.now) c.count.ensures.text) c.in_err-types.ensures.read) _ c.from_residual-in_err-types.result c.from_residual-in_err-types.ensures

pub returns-then-count-clause-read : goal.returns-then-count-clause-read
returns-then-count-clause-read c = arrives_behind (count_walk c.args.r.now.text.now c.args.r.now.at c.in_ok-count.count c.count.new.self.at (λ n. some_lines n 4) c.in_ok-count.ensures.number) (ap (λ b. b.now) c.count.ensures.text) c.in_ok-types.ensures.read (λ vs p. all c.if-count.true p)

pub returns-in_err-skip_lines-clause-read : goal.returns-in_err-skip_lines-clause-read
returns-in_err-skip_lines-clause-read c = told (strays_behind (count_walk c.args.r.now.text.now c.args.r.now.at c.in_ok-count.count c.count.new.self.at (λ n. some_lines n 4) c.in_ok-count.ensures.number) (ap (λ b. b.now) c.count.ensures.text) c.in_err-skip_lines.ensures.passed) _ c.from_residual-in_err-skip_lines.result c.from_residual-in_err-skip_lines.ensures

pub returns-clause-read : goal.returns-clause-read
returns-clause-read c = passed_as (count_walk c.args.r.now.text.now c.args.r.now.at c.in_ok-count.count c.count.new.self.at (λ n. some_lines n 4) c.in_ok-count.ensures.number) (ap (λ b. b.now) c.count.ensures.text) {Told = PiecesOf} {a = (c.in_ok-count.count, no_types)} c.in_ok-skip_lines.ensures.passed (λ vs. too_many c.if-count.false)
