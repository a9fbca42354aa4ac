-- `writing::put_section` meets its contract: the count is put, and then the lines. Assumes nothing.
use Rattle.writing.proofs.Lines.{count_room, lines_room, section_put}
use Rattle.writing.proofs.put_section.Goals as goal

pub put_number-next-requires : goal.put_number-next-requires
put_number-next-requires c = count_room c.args.count c.args.width c.args.flat.now c.args.out.now c.args.at c.requires

pub put_lines-requires : goal.put_lines-requires
put_lines-requires c = lines_room c.args.count c.args.width c.args.flat.now c.args.out.now c.args.at c.requires c.put_number-next.ensures

pub returns : goal.returns
returns c = section_put c.args.count c.args.width c.args.flat.now c.args.out.now c.args.at c.requires c.put_number-next.ensures c.put_lines.ensures
