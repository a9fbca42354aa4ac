-- `planning::plan_listed` meets its contract: choose, unfold, order, answer. Assumes nothing.
use Rattle.std.proofs.Common.{◌≡◌, ◌≤◌, length, arith}
use lib.ListN.{length-take}
use Rattle.rules.specs.Job.{pieces}
use Rattle.rules.specs.Planner.{slots_of, numbers_for}
use Rattle.outline.specs.Stands.{outline_of}
use Rattle.planning.proofs.Laws.{best_of, layable, end_is, length_b1, written, answer_short, answer_done}
use Rattle.planning.proofs.plan_listed.Goals as goal

pub returns-then-placements_in-pieces : goal.returns-then-placements_in-pieces
returns-then-placements_in-pieces c =
    answer_short c.args.job c.args.arena.now c.args.n c.requires c.best-at.result _ c.load.ensures c.best-at.ensures c.args.buffer.now (omega (arith, c.if-placements_in-pieces.true, c.placements_in.ensures, c.pieces-pieces.ensures))

pub lay-end-requires : goal.lay-end-requires
lay-end-requires c =
    let room : pieces (outline_of c.args.job.count c.load.result.outline) ≤ slots_of (length c.args.buffer.now) = omega (arith, c.if-placements_in-pieces.false, c.placements_in.ensures, c.pieces-pieces.ensures) in
    layable c.args.job c.args.arena.now c.args.n c.requires c.best-at.result c.best-at.ensures.low _ c.load.ensures c.args.buffer.now room

pub slice_bounds-order-end : goal.slice_bounds-order-end
slice_bounds-order-end c =
    let room : pieces (outline_of c.args.job.count c.load.result.outline) ≤ slots_of (length c.args.buffer.now) = omega (arith, c.if-placements_in-pieces.false, c.placements_in.ensures, c.pieces-pieces.ensures) in
    let ends : c.lay-end.result ≡ numbers_for (outline_of c.args.job.count c.load.result.outline) = end_is c.args.job c.args.arena.now c.args.n c.requires c.best-at.result c.best-at.ensures.low _ c.load.ensures c.args.buffer.now c.lay-end.new.buffer c.lay-end.result room c.lay-end.ensures in
    let long : length c.lay-end.new.buffer ≡ length c.args.buffer.now = length_b1 c.args.job c.args.arena.now c.args.n c.requires c.best-at.result c.best-at.ensures.low _ c.load.ensures c.args.buffer.now c.lay-end.new.buffer c.lay-end.result room c.lay-end.ensures in
    omega arith

pub slice_bounds-order-end-2 : goal.slice_bounds-order-end-2
slice_bounds-order-end-2 c =
    let room : pieces (outline_of c.args.job.count c.load.result.outline) ≤ slots_of (length c.args.buffer.now) = omega (arith, c.if-placements_in-pieces.false, c.placements_in.ensures, c.pieces-pieces.ensures) in
    let ends : c.lay-end.result ≡ numbers_for (outline_of c.args.job.count c.load.result.outline) = end_is c.args.job c.args.arena.now c.args.n c.requires c.best-at.result c.best-at.ensures.low _ c.load.ensures c.args.buffer.now c.lay-end.new.buffer c.lay-end.result room c.lay-end.ensures in
    let long : length c.lay-end.new.buffer ≡ length c.args.buffer.now = length_b1 c.args.job c.args.arena.now c.args.n c.requires c.best-at.result c.best-at.ensures.low _ c.load.ensures c.args.buffer.now c.lay-end.new.buffer c.lay-end.result room c.lay-end.ensures in
    simp length-take (omega arith)

pub order-requires : goal.order-requires
order-requires c =
    let room : pieces (outline_of c.args.job.count c.load.result.outline) ≤ slots_of (length c.args.buffer.now) = omega (arith, c.if-placements_in-pieces.false, c.placements_in.ensures, c.pieces-pieces.ensures) in
    let ends : c.lay-end.result ≡ numbers_for (outline_of c.args.job.count c.load.result.outline) = end_is c.args.job c.args.arena.now c.args.n c.requires c.best-at.result c.best-at.ensures.low _ c.load.ensures c.args.buffer.now c.lay-end.new.buffer c.lay-end.result room c.lay-end.ensures in
    let long : length c.lay-end.new.buffer ≡ length c.args.buffer.now = length_b1 c.args.job c.args.arena.now c.args.n c.requires c.best-at.result c.best-at.ensures.low _ c.load.ensures c.args.buffer.now c.lay-end.new.buffer c.lay-end.result room c.lay-end.ensures in
    simp length-take (omega (arith, c.pieces-pieces.ensures))

-- the placements in any order that keeps them
pub returns : goal.returns
returns c =
    let room : pieces (outline_of c.args.job.count c.load.result.outline) ≤ slots_of (length c.args.buffer.now) = omega (arith, c.if-placements_in-pieces.false, c.placements_in.ensures, c.pieces-pieces.ensures) in
    let best = best_of c.args.job c.args.arena.now c.args.n c.requires c.best-at.result c.best-at.ensures.low _ c.load.ensures c.best-at.ensures in
    let wrote = written c.args.job c.args.arena.now c.args.n c.requires c.best-at.result c.best-at.ensures.low _ c.load.ensures c.args.buffer.now c.lay-end.new.buffer c.lay-end.result room c.lay-end.ensures best.build _ c.order.auto.b c.order.ensures in
    answer_done c.args.job c.args.arena.now c.args.n c.requires c.best-at.result _ c.load.ensures c.best-at.ensures c.args.buffer.now _ _ _ c.profit-profit.ensures c.pieces-pieces.ensures room wrote
