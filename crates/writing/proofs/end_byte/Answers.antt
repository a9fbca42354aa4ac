-- `writing::end_byte` meets its contract: the last number of a line is followed by LF. Assumes nothing.
use Rattle.writing.proofs.Lines.{end_space}
use Rattle.writing.proofs.end_byte.Goals as goal

pub returns : goal.returns
returns c = end_space _ c.if-behind-eq0.false
