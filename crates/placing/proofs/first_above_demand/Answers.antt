use Rattle.std.proofs.Common.{◌<◌, length, arith}
use Rattle.rules.specs.Planner.{slots_of}
use Rattle.placing.proofs.Types.{typed_at}
use Rattle.placing.proofs.Seeking.{seek_none}
use Rattle.placing.proofs.Counting.{counting_next, counting_found}
use Rattle.placing.proofs.first_above_demand.Goals as goal

pub type_of-t-requires : goal.type_of-t-requires
type_of-t-requires c = typed_at c.requires _ (omega (arith, c.loop-i-test.true, c.placements_in-i-end.ensures)) _ c.entry_at-p.ensures

pub returns-then-t-counts : goal.returns-then-t-counts
returns-then-t-counts c =
    let h : c.loop-i.i < slots_of (length c.args.list.now) = omega (arith, c.loop-i-test.true, c.placements_in-i-end.ensures) in
    counting_found c.loop-i.invariant h _ c.entry_at-p.ensures (typed_at c.requires _ h _ c.entry_at-p.ensures) _ c.type_of-t.ensures c.if-t-counts.true

pub loop-i-preserved : goal.loop-i-preserved
loop-i-preserved c =
    let h : c.loop-i.i < slots_of (length c.args.list.now) = omega (arith, c.loop-i-test.true, c.placements_in-i-end.ensures) in
    counting_next c.loop-i.invariant h _ c.entry_at-p.ensures (typed_at c.requires _ h _ c.entry_at-p.ensures) _ c.type_of-t.ensures c.if-t-counts.false

pub returns : goal.returns
returns c = seek_none c.loop-i.invariant.seeking (omega (arith, c.loop-i-test.false, c.placements_in-i-end.ensures))
