use native.Mathlib.Omega.{arith}
use Rattle.listing.proofs.Singles.{singles_none, singles_then, singles_all}
use Rattle.listing.proofs.list_singles.Goals as goal

pub loop-t-init : goal.loop-t-init
loop-t-init c = singles_none c.args.job c.args.arena.now c.requires.0 c.requires.1

pub loop-t-preserved : goal.loop-t-preserved
loop-t-preserved c =
    let g = rw c.in_ok-n.was at c.add_single.ensures in
    singles_then c.loop-t.invariant g

pub returns : goal.returns
returns c = singles_all (omega arith) c.loop-t.invariant
