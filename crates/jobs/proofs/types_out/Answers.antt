use mathlib.Core.Path.{sym, ap, ◌∙◌}
use Rattle.jobs.specs.Item.{item_place}
use Rattle.jobs.proofs.Laws.{passed_start, passed_next, passed_stop, passed_end, line_at}
use borrow.Author.Rules.{rules}
use Rattle.jobs.proofs.types_out.Goals as goal

pub loop-i-init : goal.loop-i-init
loop-i-init c = passed_start _ _

pub returns-in-Some : goal.returns-in-Some
returns-in-Some c = sym (ap item_place c.in-Some.is) ∙ passed_stop c.loop-i.invariant c.loop-i-test.true _ (line_at c.args.types c.loop-i.i _ (search rules)) c.line_out.result c.line_out.ensures (ap item_place c.in-Some.is)

pub loop-i-preserved : goal.loop-i-preserved
loop-i-preserved c = passed_next c.loop-i.invariant c.loop-i-test.true _ (line_at c.args.types c.loop-i.i _ (search rules)) c.line_out.result c.line_out.ensures (ap item_place c.in_default.is)

pub returns : goal.returns
returns c = sym (passed_end c.loop-i.invariant c.loop-i-test.false)
