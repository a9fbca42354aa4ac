use native.Mathlib.Omega.{arith}
use Rattle.growing.proofs.Rows.{gone_among, row_pairable, row_next, row_stop, row_end}
use Rattle.growing.proofs.add_row.Goals as goal

pub size_at-requires : goal.size_at-requires
size_at-requires c =
    let g = c.loop-k.invariant.gone in
    ((gone_among g _ c.loop-k-test.true c.link_at-q.ensures.0).room, g.two)

pub returns-then-side-size : goal.returns-then-side-size
returns-then-side-size c = row_stop c.loop-k.invariant _ c.loop-k-test.true c.link_at-q.ensures.0 (omega (arith, c.if-side-size.true, c.size_at.ensures.0))

pub add_join-requires : goal.add_join-requires
add_join-requires c = row_pairable c.loop-k.invariant _ c.loop-k-test.true c.link_at-q.ensures.0

pub loop-k-preserved : goal.loop-k-preserved
loop-k-preserved c = row_next c.loop-k.invariant _ c.loop-k-test.true c.link_at-q.ensures.0 (rw c.in_ok-n.was at c.add_join.ensures)

pub returns : goal.returns
returns c = row_end c.loop-k.invariant (omega arith)
