-- `writing::job_text` meets its contract: its numbers are written out, and then they are two sections. Assumes nothing.
use mathlib.Core.Path.{◌≡◌, refl}
use mathlib.Core.List.{map}
use lib.ListN.{length}
use Rattle.rules.specs.Limits.{types_most}
use Rattle.shapes.specs.Handed.{type_of}
use borrow.Author.Rules.{rules}
use Rattle.writing.proofs.House.{no_text, pieces_length, job_ruled, job_written, type_count}
use Rattle.writing.proofs.job_text.Goals as goal

pub returns-then-job : goal.returns-then-job
returns-then-job c =
    let j = c.args.job in
    let n : length j.types ≡ types_most = search rules in
    record { none = no_text j.length j.width j.kerf j.count (map type_of j.types) (type_count j.types n) c.if-job.true; left = refl }

pub slice_bounds-two_sections-end-2 : goal.slice_bounds-two_sections-end-2
slice_bounds-two_sections-end-2 c =
    let j = c.args.job in
    let n : length j.types ≡ types_most = search rules in
    pieces_length j.length j.width j.kerf j.count (map type_of j.types) (type_count j.types n) c.if-job.false c.piece_numbers-pieces.result c.piece_numbers-pieces.ensures

pub two_sections-requires : goal.two_sections-requires
two_sections-requires c =
    let j = c.args.job in
    let n : length j.types ≡ types_most = search rules in
    job_ruled j.length j.width j.kerf j.count (map type_of j.types) (type_count j.types n) c.if-job.false c.piece_numbers-pieces.result c.piece_numbers-pieces.ensures

pub returns : goal.returns
returns c =
    let j = c.args.job in
    let n : length j.types ≡ types_most = search rules in
    job_written j.length j.width j.kerf j.count (map type_of j.types) (type_count j.types n) c.if-job.false c.piece_numbers-pieces.result c.piece_numbers-pieces.ensures c.args.out.now _ c.args.at c.two_sections.result c.two_sections.ensures
