-- `pairing::may_join` meets its contract. Assumes nothing.
use Rattle.pairing.proofs.Laws.{apart_large}
use Rattle.pairing.proofs.may_join.Goals as goal

pub returns-else-smallest_fit : goal.returns-else-smallest_fit
returns-else-smallest_fit c = λ _. apart_large c.requires c.args.way (c.smallest_fit.ensures c.if-smallest_fit.false)
