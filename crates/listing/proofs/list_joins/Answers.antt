use mathlib.Core.Path.{sym, ap, ◌∙◌, subst}
use Prim.Native.Nat.{suc, ◌<◌}
use native.Mathlib.Omega.{arith}
use Rattle.rules.specs.Planner.{room_of}
use Rattle.classes.proofs.Laws.{class_at}
use Rattle.listing.specs.Queue.{pieces_at, HalvesAt, Queued}
use Rattle.listing.proofs.Laws.{queue_source, queue_next, queue_halves, queue_end}
use Rattle.listing.proofs.list_joins.Goals as goal

pub add_next-requires : goal.add_next-requires
add_next-requires c = queue_source c.loop-p.invariant.0 c.requires.1 c.loop-p-test.true c.pieces_at-most.ensures.0 c.half_of-halves.ensures

pub loop-p-smaller : goal.loop-p-smaller
loop-p-smaller c =
    let q = c.loop-p.invariant.0 in
    let k = class_at q.classed.directory c.loop-p-test.true (q.turn.begins c.loop-p-test.true) in
    omega (arith, c.loop-p-test.true, q.classed.ready.held.room, ap room_of c.loop-p.invariant.2, k.some, c.end_of-p.ensures.0)

pub loop-p-preserved : goal.loop-p-preserved
loop-p-preserved c =
    let g = rw c.in_ok-n.was at c.add_next.ensures in
    let e = sym c.end_of-p.ensures.0 in
    let t = c.add_next.new.arena in
    let m = c.in_ok-n.n in (
      subst (Queued c.args.job _ _) e (queue_next c.loop-p.invariant.0 c.loop-p-test.true g),
      subst (λ k. k < m → HalvesAt c.args.job c.args.least t m (suc (pieces_at c.args.job t k)) c.half_of-halves.result) e (queue_halves c.loop-p.invariant.0 c.loop-p-test.true c.pieces_at-most.ensures.0 c.half_of-halves.ensures.halves g),
      g.same_length ∙ c.loop-p.invariant.2,
    )

pub returns : goal.returns
returns c = queue_end c.loop-p.invariant.0 c.args.arena.now c.loop-p.invariant.2 (omega (arith, c.loop-p-test.false))
