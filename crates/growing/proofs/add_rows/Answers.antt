use native.Mathlib.Omega.{arith}
use Rattle.growing.proofs.Rows.{two_ways, gone_among, rows_smallest, rows_rowable, rows_next, rows_stop, rows_end}
use Rattle.growing.proofs.add_rows.Goals as goal

pub size_at-least-requires : goal.size_at-least-requires
size_at-least-requires c =
    let two = two_ways c.args.way c.number-w.ensures in
    (omega (arith, rows_smallest c.requires _ two, c.link_at-smallest.ensures.0), two)

pub size_at-requires : goal.size_at-requires
size_at-requires c =
    let g = c.loop-k.invariant.gone in
    ((gone_among g _ c.loop-k-test.true c.link_at-i.ensures.0).room, g.two)

pub returns-then-side-least : goal.returns-then-side-least
returns-then-side-least c = rows_stop c.loop-k.invariant _ c.loop-k-test.true c.link_at-i.ensures.0 (omega (arith, c.if-side-least.true, c.size_at.ensures.0))

pub add_row-requires : goal.add_row-requires
add_row-requires c = rows_rowable c.loop-k.invariant _ c.loop-k-test.true c.link_at-i.ensures.0

pub loop-k-preserved : goal.loop-k-preserved
loop-k-preserved c = rows_next c.loop-k.invariant _ c.loop-k-test.true c.link_at-i.ensures.0 (rw c.in_ok-n.was at c.add_row.ensures)

pub returns : goal.returns
returns c = rows_end c.loop-k.invariant (omega arith)
