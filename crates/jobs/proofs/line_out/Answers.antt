-- `jobs::line_out` meets its contract: the four numbers are tested one after the other. Assumes nothing.
use mathlib.Core.Path.{sym, ◌∙◌}
use Rattle.shapes.specs.Handed.{type_of}
use Rattle.jobs.proofs.Laws.{long_out, wide_out, profit_out, demand_out, line_fine}
use Rattle.jobs.proofs.line_out.Goals as goal

pub returns-then-outside : goal.returns-then-outside
returns-then-outside c =
    λ n rs vs.
    long_out c.args.at n rs (type_of c.args.t) vs (sym c.outside.ensures ∙ c.if-outside.true)

pub returns-then-outside-2 : goal.returns-then-outside-2
returns-then-outside-2 c =
    λ n rs vs.
    wide_out c.args.at n rs (type_of c.args.t) vs (sym c.outside.ensures ∙ c.if-outside.false) (sym c.outside-2.ensures ∙ c.if-outside-2.true)

pub returns-then-outside-3 : goal.returns-then-outside-3
returns-then-outside-3 c =
    λ n rs vs.
    profit_out c.args.at n rs (type_of c.args.t) vs (sym c.outside.ensures ∙ c.if-outside.false) (sym c.outside-2.ensures ∙ c.if-outside-2.false) (sym c.outside-3.ensures ∙ c.if-outside-3.true)

pub returns-then-outside-4 : goal.returns-then-outside-4
returns-then-outside-4 c =
    λ n rs vs.
    demand_out c.args.at n rs (type_of c.args.t) vs (sym c.outside.ensures ∙ c.if-outside.false) (sym c.outside-2.ensures ∙ c.if-outside-2.false) (sym c.outside-3.ensures ∙ c.if-outside-3.false) (sym c.outside-4.ensures ∙ c.if-outside-4.true)

pub returns : goal.returns
returns c =
    λ n rs vs.
    line_fine c.args.at n rs (type_of c.args.t) vs (sym c.outside.ensures ∙ c.if-outside.false) (sym c.outside-2.ensures ∙ c.if-outside-2.false) (sym c.outside-3.ensures ∙ c.if-outside-3.false) (sym c.outside-4.ensures ∙ c.if-outside-4.false)
