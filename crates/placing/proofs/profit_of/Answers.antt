use Rattle.std.proofs.Common.{arith}
use Rattle.placing.proofs.Types.{typed_at, few_entries}
use Rattle.placing.proofs.Summing.{summing_start, summing_next}
use Rattle.placing.proofs.profit_of.Goals as goal

pub loop-i-init : goal.loop-i-init
loop-i-init c = summing_start c.placements_in-i.ensures

pub type_of-total-requires : goal.type_of-total-requires
type_of-total-requires c = typed_at c.requires.typed _ (omega (arith, c.loop-i-test.true, c.loop-i.invariant.within)) _ c.entry_at.ensures

pub overflow_add-total : goal.overflow_add-total
overflow_add-total c = omega (arith, c.loop-i.invariant.bound, c.loop-i.invariant.within, c.type_of-total.ensures.range.profit.high, few_entries c.requires)

pub loop-i-preserved : goal.loop-i-preserved
loop-i-preserved c = summing_next c.loop-i.invariant c.loop-i-test.true _ c.entry_at.ensures _ c.type_of-total.ensures
