-- `writing::two_sections` meets its contract: the room for both is tested, and then the one is put behind the other. Assumes nothing.
use Rattle.writing.proofs.House.{sheet_short, pieces_short, sheet_fits, pieces_fit, house_stored}
use Rattle.writing.proofs.two_sections.Goals as goal

pub returns-in_default : goal.returns-in_default
returns-in_default c =
    let a = c.args in
    sheet_short a.sheet.now a.count a.pieces.now c.requires a.out.now a.at c.section_behind-place.ensures c.in_default.is

pub returns-in_default-last : goal.returns-in_default-last
returns-in_default-last c =
    let a = c.args in
    pieces_short a.sheet.now a.count a.pieces.now c.requires a.out.now a.at c.section_behind-place.ensures c.in-Some.is _ c.section_behind-last.ensures c.in_default-last.is

pub put_section-next-requires : goal.put_section-next-requires
put_section-next-requires c =
    let a = c.args in
    sheet_fits a.sheet.now a.count a.pieces.now c.requires a.out.now a.at c.section_behind-place.ensures c.in-Some.is _ c.section_behind-last.ensures c.in-Some-last.is

pub put_section-requires : goal.put_section-requires
put_section-requires c =
    let a = c.args in
    pieces_fit a.sheet.now a.count a.pieces.now c.requires a.out.now a.at c.section_behind-place.ensures c.in-Some.is _ c.section_behind-last.ensures c.in-Some-last.is c.put_section-next.ensures

pub returns : goal.returns
returns c =
    let a = c.args in
    house_stored a.sheet.now a.count a.pieces.now c.requires a.out.now a.at c.section_behind-place.ensures c.in-Some.is _ c.section_behind-last.ensures c.in-Some-last.is c.put_section-next.ensures c.put_section.ensures
