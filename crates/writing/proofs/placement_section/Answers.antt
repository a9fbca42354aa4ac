-- `writing::placement_section` meets its contract: the room is tested once, and then the section of the whole placements is put. Assumes nothing.
use Rattle.writing.proofs.Answers.{whole_length, list_fits, list_stored, list_short}
use Rattle.writing.proofs.placement_section.Goals as goal

pub slice_bounds-section_behind-end : goal.slice_bounds-section_behind-end
slice_bounds-section_behind-end c = whole_length c.args.flat.now _ c.placements_in-count.ensures

pub returns-in_default : goal.returns-in_default
returns-in_default c =
    let a = c.args in
    list_short a.flat.now _ c.placements_in-count.ensures a.out.now a.at c.section_behind-place.ensures c.in_default.is

pub slice_bounds-put_section-end : goal.slice_bounds-put_section-end
slice_bounds-put_section-end c = whole_length c.args.flat.now _ c.placements_in-count.ensures

pub put_section-requires : goal.put_section-requires
put_section-requires c =
    let a = c.args in
    list_fits a.flat.now _ c.placements_in-count.ensures a.out.now a.at c.section_behind-place.ensures c.in-Some.is

pub returns : goal.returns
returns c =
    let a = c.args in
    list_stored a.flat.now _ c.placements_in-count.ensures a.out.now a.at c.section_behind-place.ensures c.in-Some.is c.put_section.ensures
