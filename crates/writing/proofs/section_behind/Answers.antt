-- `writing::section_behind` meets its contract: the count with its LF, and then the numbers behind it. Assumes nothing.
use Rattle.writing.proofs.Lines.{section_reaches, section_no_room}
use Rattle.writing.proofs.section_behind.Goals as goal

pub returns-in_default : goal.returns-in_default
returns-in_default c =
    let a = c.args in
    section_no_room a.count a.flat.now a.at a.size c.place_behind-place.ensures c.in_default.is

pub returns : goal.returns
returns c =
    let a = c.args in
    section_reaches a.count a.flat.now a.at a.size c.place_behind-place.ensures c.in-Some.is c.place_behind.result c.place_behind.ensures
