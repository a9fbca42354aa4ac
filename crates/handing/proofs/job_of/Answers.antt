use Rattle.handing.proofs.Laws.{types_next, types_end}
use Rattle.rules.specs.Items.{handed_over}
use Rattle.handing.proofs.job_of.Goals as goal

pub loop-t-preserved : goal.loop-t-preserved
loop-t-preserved c = types_next c.loop-t.invariant c.loop-t-test.true _ c.type_at.ensures

pub returns : goal.returns
returns c =
    let types = types_end c.loop-t.invariant c.loop-t-test.false in
    λ i. handed_over (c.number_at.ensures i) (c.number_at-2.ensures i) (c.number_at-3.ensures i) (c.number_at-4.ensures i) (types i)
