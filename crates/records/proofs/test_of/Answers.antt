-- `test_of` meets its contract: the tests of one placement, each counting on those before it. Assumes nothing.
use mathlib.Core.Path.{sym, ◌∙◌}
use mathlib.Core.List.{[]}
use native.Mathlib.Omega.{arith}
use Rattle.placing.proofs.Types.{type_test, of_type_lem}
use Rattle.records.specs.Scan.{no_type_lem, off, above, passes}
use Rattle.records.proofs.test_of.Goals as goal

pub returns-then-not_a_type : goal.returns-then-not_a_type
returns-then-not_a_type c = no_type_lem (sym (type_test _ c.requires c.args.p _ c.not_a_type.ensures []) ∙ c.if-not_a_type.true)

pub off_sheet-requires : goal.off_sheet-requires
off_sheet-requires c = (of_type_lem _ c.requires c.args.p ((sym (type_test _ c.requires c.args.p _ c.not_a_type.ensures []) ∙ c.if-not_a_type.false)))

pub returns-then-off_sheet : goal.returns-then-off_sheet
returns-then-off_sheet c = off ((sym (type_test _ c.requires c.args.p _ c.not_a_type.ensures []) ∙ c.if-not_a_type.false)) (sym (c.off_sheet.ensures []) ∙ c.if-off_sheet.true)

pub type_of-t-requires : goal.type_of-t-requires
type_of-t-requires c = (of_type_lem _ c.requires c.args.p ((sym (type_test _ c.requires c.args.p _ c.not_a_type.ensures []) ∙ c.if-not_a_type.false)))

pub overflow_sub-kind : goal.overflow_sub-kind
overflow_sub-kind c = ((of_type_lem _ c.requires c.args.p ((sym (type_test _ c.requires c.args.p _ c.not_a_type.ensures []) ∙ c.if-not_a_type.false)))).low

pub offset_bounds-counts-kind : goal.offset_bounds-counts-kind
offset_bounds-counts-kind c = let o = (of_type_lem _ c.requires c.args.p ((sym (type_test _ c.requires c.args.p _ c.not_a_type.ensures []) ∙ c.if-not_a_type.false))) in omega (arith, o.low, o.high, o.fine.count)

pub bounds-counts-kind : goal.bounds-counts-kind
bounds-counts-kind c = let o = (of_type_lem _ c.requires c.args.p ((sym (type_test _ c.requires c.args.p _ c.not_a_type.ensures []) ∙ c.if-not_a_type.false))) in omega (arith, o.low, o.high, o.fine.count)

pub returns-then-t-counts : goal.returns-then-t-counts
returns-then-t-counts c = above ((sym (type_test _ c.requires c.args.p _ c.not_a_type.ensures []) ∙ c.if-not_a_type.false)) (sym (c.off_sheet.ensures []) ∙ c.if-off_sheet.false) c.type_of-t.ensures c.if-t-counts.true

pub returns : goal.returns
returns c = passes ((sym (type_test _ c.requires c.args.p _ c.not_a_type.ensures []) ∙ c.if-not_a_type.false)) (sym (c.off_sheet.ensures []) ∙ c.if-off_sheet.false) c.type_of-t.ensures c.if-t-counts.false
