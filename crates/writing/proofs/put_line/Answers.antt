use Rattle.writing.proofs.Lines.{lining_first, lining_room, lining_next, lining_done}
use Rattle.writing.proofs.put_line.Goals as goal

pub loop-i-init : goal.loop-i-init
loop-i-init c = lining_first _ c.requires

pub put_number-next-requires : goal.put_number-next-requires
put_number-next-requires c = lining_room _ c.loop-i.invariant c.loop-i-test.true _ c.end_byte-end.ensures

pub loop-i-preserved : goal.loop-i-preserved
loop-i-preserved c = lining_next _ c.loop-i.invariant c.loop-i-test.true _ c.end_byte-end.ensures c.put_number-next.ensures

pub returns : goal.returns
returns c = lining_done _ c.loop-i.invariant c.loop-i-test.false
