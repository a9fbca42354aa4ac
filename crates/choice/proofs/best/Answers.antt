use Rattle.choice.proofs.Laws.{leads_first, leads_new, leads_old}
use Rattle.choice.proofs.best.Goals as goal
use Rattle.choice.proofs.best.Goals.{then-as_good, else-as_good}

pub loop-i-init : goal.loop-i-init
loop-i-init c = leads_first c.args.job c.args.arena.now _ c.load.ensures

pub loop-i-preserved : goal.loop-i-preserved
loop-i-preserved c = elim c.if-as_good.branch [
  | then-as_good w ↦ rw (w.top-is, w.at-is) (leads_new c.args.job c.args.arena.now c.loop-i.top c.loop-i.at c.loop-i.i c.loop-i.invariant _ c.load-in-loop-i.ensures (c.as_good.ensures.yes_if w.if-as_good.true))
  | else-as_good w ↦ rw (w.top-is, w.at-is) (leads_old c.args.job c.args.arena.now c.loop-i.top c.loop-i.at c.loop-i.i c.loop-i.invariant _ c.load-in-loop-i.ensures (c.as_good.ensures.no_if w.if-as_good.false))
]
