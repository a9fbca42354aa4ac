-- `check_laid` meets its contract: a list that tests 6 to 8 let pass fits the local boxes and the local order. The answers are put together in Verdict. Assumes nothing.
use mathlib.Core.Path.{◌≡◌, refl, sym}
use mathlib.Core.List.{List}
use Prim.Native.Nat.{ℕ, ◌≤◌}
use lib.ListN.{length}
use Rattle.rules.specs.Limits.{pieces_most}
use Rattle.rules.specs.Planner.{slots_of}
use Rattle.shapes.specs.declared.Job.{Job}
use Rattle.placing.specs.Place.{Demanded}
use Rattle.laying.specs.Laid.{Counted}
use native.Mathlib.Omega.{arith}
use lib.Seq.{length-take-le}
use Rattle.shapes.specs.Handed.{numbers_of}
use Rattle.placing.proofs.Types.{few_entries}
use Rattle.checking.proofs.Verdict.{rejected_9, order_listed, verdict_parted, verdict_stuck}
use Rattle.checking.proofs.check_laid.Goals as goal

-- the order has room for the pieces of a list that tests 6 to 8 let pass
room : {j : Job} {flat was order : List ℕ} {k : ℕ} → Demanded j flat → k ≡ slots_of (length flat) → Counted was order → length was ≡ pieces_most → k ≤ length order
room d e up l = omega (arith, e, l, few_entries d, up.same_length)

pub lay_boxes-requires : goal.lay_boxes-requires
lay_boxes-requires c = record { on_sheet = c.requires.on_sheet; there = omega (arith, few_entries c.requires.demanded) }

pub returns-in-Some : goal.returns-in-Some
returns-in-Some c =
    let on_sheet = c.requires.on_sheet in
    rejected_9 (numbers_of c.args.job) c.args.list.now on_sheet.typed.typed on_sheet.sheet c.requires.demanded.demand (c.first_overlap.ensures.first _ _ c.placements_in-count.ensures c.lay_boxes.ensures) c.in-Some.is

pub slice_bounds-order-end : goal.slice_bounds-order-end
slice_bounds-order-end c = (room c.requires.demanded c.placements_in-count.ensures c.count_up.ensures refl)

pub slice_bounds-can_be_parted-end-2 : goal.slice_bounds-can_be_parted-end-2
slice_bounds-can_be_parted-end-2 c = sym (length-take-le _ _ (room c.requires.demanded c.placements_in-count.ensures c.count_up.ensures refl))

pub can_be_parted-requires : goal.can_be_parted-requires
can_be_parted-requires c = order_listed c.lay_boxes.ensures c.count_up.ensures c.placements_in-count.ensures (room c.requires.demanded c.placements_in-count.ensures c.count_up.ensures refl)

pub returns : goal.returns
returns c = verdict_parted c.requires c.lay_boxes.ensures c.first_overlap.ensures c.placements_in-count.ensures c.count_up.ensures (room c.requires.demanded c.placements_in-count.ensures c.count_up.ensures refl) c.can_be_parted.ensures c.in_default.is c.if-not-can_be_parted.false c.profit_of.ensures

pub returns-then-not-can_be_parted : goal.returns-then-not-can_be_parted
returns-then-not-can_be_parted c = verdict_stuck c.requires c.lay_boxes.ensures c.first_overlap.ensures c.placements_in-count.ensures c.count_up.ensures (room c.requires.demanded c.placements_in-count.ensures c.count_up.ensures refl) c.can_be_parted.ensures c.in_default.is c.if-not-can_be_parted.true
