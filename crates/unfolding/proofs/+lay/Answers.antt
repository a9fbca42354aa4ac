use native.Mathlib.Omega.{arith}
use mathlib.Core.Path.{sym, ap, ◌∙◌}
use Rattle.arena.specs.declared.Record.{Record}
use Rattle.unfolding.proofs.Laws.{halved, lower, laid_leaf, ready_first, within, ready_second, laid_join}
use Rattle.unfolding.proofs.+lay.Goals as goal

pub returns-in-Piece : goal.returns-in-Piece
returns-in-Piece t c = laid_leaf c.requires (sym (ap (λ (r : Record). r.how) c.load.ensures.is) ∙ c.in-Piece.is) c.put.ensures

pub lay-n-requires : goal.lay-n-requires
lay-n-requires t c =
    let d = halved c.args.arena.now c.args.i c.args.x c.args.y c.load.ensures c.in-Joined.is c.load-in-Joined.ensures c.next_corner-next.ensures in
    (omega (arith, lower c.requires d.how), ready_first c.requires d)

pub offset_bounds-buffer-n : goal.offset_bounds-buffer-n
offset_bounds-buffer-n t c =
    let d = halved c.args.arena.now c.args.i c.args.x c.args.y c.load.ensures c.in-Joined.is c.load-in-Joined.ensures c.next_corner-next.ensures in
    let w = within c.requires d c.lay-n.ensures in
    omega arith

pub slice_bounds-lay-count : goal.slice_bounds-lay-count
slice_bounds-lay-count t c =
    let d = halved c.args.arena.now c.args.i c.args.x c.args.y c.load.ensures c.in-Joined.is c.load-in-Joined.ensures c.next_corner-next.ensures in
    let w = within c.requires d c.lay-n.ensures in
    omega arith

pub slice_bounds-lay-start : goal.slice_bounds-lay-start
slice_bounds-lay-start t c =
    let d = halved c.args.arena.now c.args.i c.args.x c.args.y c.load.ensures c.in-Joined.is c.load-in-Joined.ensures c.next_corner-next.ensures in
    let w = within c.requires d c.lay-n.ensures in
    omega arith

pub lay-m-requires : goal.lay-m-requires
lay-m-requires t c =
    let d = halved c.args.arena.now c.args.i c.args.x c.args.y c.load.ensures c.in-Joined.is c.load-in-Joined.ensures c.next_corner-next.ensures in
    (omega (arith, lower c.requires d.how), ready_second c.requires d c.lay-n.ensures)

pub overflow_add-result : goal.overflow_add-result
overflow_add-result t c =
    let d = halved c.args.arena.now c.args.i c.args.x c.args.y c.load.ensures c.in-Joined.is c.load-in-Joined.ensures c.next_corner-next.ensures in
    let ready = c.requires in
    let e = laid_join ready d c.lay-n.ensures c.lay-m.ensures in
    omega (arith, (e.wrote ready.types ready.records ready.placements ready.reads ready.lays).count, ready.fits)

pub returns-in-Joined : goal.returns-in-Joined
returns-in-Joined t c =
    let d = halved c.args.arena.now c.args.i c.args.x c.args.y c.load.ensures c.in-Joined.is c.load-in-Joined.ensures c.next_corner-next.ensures in
    laid_join c.requires d c.lay-n.ensures c.lay-m.ensures
