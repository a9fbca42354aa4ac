-- `writing::line` meets its contract: the room is tested once, and then the line is put. Assumes nothing.
use Rattle.writing.proofs.Answers.{line_room, line_stored, line_short}
use Rattle.writing.proofs.line.Goals as goal

pub returns-in_default : goal.returns-in_default
returns-in_default c =
    let a = c.args in
    line_short a.numbers.now a.out.now a.at c.place_behind-place.ensures c.in_default.is

pub put_line-requires : goal.put_line-requires
put_line-requires c =
    let a = c.args in
    line_room a.numbers.now a.out.now a.at c.place_behind-place.ensures c.in-Some.is

pub returns : goal.returns
returns c =
    let a = c.args in
    line_stored a.numbers.now a.out.now a.at c.place_behind-place.ensures c.in-Some.is c.put_line.ensures
