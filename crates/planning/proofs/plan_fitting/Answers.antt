-- `planning::plan_fitting` meets its contract. Assumes nothing.
use Rattle.std.proofs.lemmas.Result.{err_from_is_err_and}
use Rattle.planning.proofs.Laws.{choosing, answer_full}
use Rattle.planning.proofs.plan_fitting.Goals as goal

pub plan_listed-requires : goal.plan_listed-requires
plan_listed-requires c = choosing c.args.job c.args.arena.now c.list_outlines.new.arena _ c.requires c.list_outlines.auto.arena (rw c.in_ok-n.was at c.list_outlines.ensures)

pub returns-in_err-n : goal.returns-in_err-n
returns-in_err-n c =
    let p = err_from_is_err_and c.from_residual.result c.from_residual.ensures.1 in
    rw (p.1, p.2) (answer_full c.args.job c.args.arena.now c.args.buffer.now (rw c.in_err-n.was at c.list_outlines.ensures))
