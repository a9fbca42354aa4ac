-- `growing::smallest_fit` meets its contract. Assumes nothing.
use Prim.Native.Nat.{◌+◌}
use borrow.Author.Tests.{leb-false}
use Rattle.growing.proofs.Rows.{too_large}
use Rattle.growing.proofs.smallest_fit.Goals as goal

pub returns : goal.returns
returns c =
    λ e. too_large c.requires c.args.way _ _ _ c.number-w.ensures c.link_at.ensures.0 c.link_at-2.ensures.0 _ _ _ c.side.ensures c.size_at-x.ensures.0 c.size_at-y.ensures.0
    (leb-false (c.size_at-x.result + c.size_at-y.result) c.side.result e)
