-- `jobs::first_out_of_range` meets its contract: the items are tested in reading order, and the first out of range ends the search. Assumes nothing.
use mathlib.Core.Path.{sym, ◌∙◌}
use mathlib.Core.List.{map}
use Rattle.rules.specs.Limits.{types_most}
use Rattle.rules.specs.Items.{from}
use Rattle.shapes.specs.Handed.{type_of}
use Rattle.jobs.proofs.Laws.{length_out, width_out, kerf_out, count_out, types_left, at_most}
use Rattle.jobs.proofs.first_out_of_range.Goals as goal

pub returns-then-outside : goal.returns-then-outside
returns-then-outside c =
    let j = c.args.job in
    sym (length_out j.length j.width j.kerf j.count (map type_of j.types) (sym c.outside.ensures ∙ c.if-outside.true))

pub returns-then-outside-2 : goal.returns-then-outside-2
returns-then-outside-2 c =
    let j = c.args.job in
    sym (width_out j.length j.width j.kerf j.count (map type_of j.types) (sym c.outside.ensures ∙ c.if-outside.false) (sym c.outside-2.ensures ∙ c.if-outside-2.true))

pub returns-then-outside-3 : goal.returns-then-outside-3
returns-then-outside-3 c =
    let j = c.args.job in
    sym (kerf_out j.length j.width j.kerf j.count (map type_of j.types) (sym c.outside.ensures ∙ c.if-outside.false) (sym c.outside-2.ensures ∙ c.if-outside-2.false) (sym c.outside-3.ensures ∙ c.if-outside-3.true))

pub returns-then-outside-4 : goal.returns-then-outside-4
returns-then-outside-4 c =
    let j = c.args.job in
    sym (count_out j.length j.width j.kerf j.count (map type_of j.types) (sym c.outside.ensures ∙ c.if-outside.false) (sym c.outside-2.ensures ∙ c.if-outside-2.false) (sym c.outside-3.ensures ∙ c.if-outside-3.false) (sym c.outside-4.ensures ∙ c.if-outside-4.true))

pub types_out-requires : goal.types_out-requires
types_out-requires c = at_most (from 1 types_most) _ (sym c.outside-4.ensures ∙ c.if-outside-4.false)

pub returns : goal.returns
returns c =
    let j = c.args.job in
    c.types_out.ensures ∙ sym (types_left j.length j.width j.kerf j.count (map type_of j.types) (sym c.outside.ensures ∙ c.if-outside.false) (sym c.outside-2.ensures ∙ c.if-outside-2.false) (sym c.outside-3.ensures ∙ c.if-outside-3.false) (sym c.outside-4.ensures ∙ c.if-outside-4.false))
