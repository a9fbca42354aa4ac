-- `writing::number` meets its contract: the digits are counted, the room is tested, and then they are copied. Assumes nothing.
use native.Mathlib.Omega.{arith}
use Rattle.writing.proofs.Answers.{number_stored, number_short}
use Rattle.writing.proofs.number.Goals as goal

pub returns-then-length-at : goal.returns-then-length-at
returns-then-length-at c = number_short c.in_scratch-scratch.ensures (omega (arith, c.in_scratch-scratch.ensures.within))

pub returns-then-length-at-2 : goal.returns-then-length-at-2
returns-then-length-at-2 c =
    let s = c.in_scratch-scratch.ensures in
    number_short s (omega arith)

pub returns : goal.returns
returns c =
    let s = c.in_scratch-scratch.ensures in
    number_stored s (omega arith) c.copy.ensures
