-- `pairing::add_way` meets its contract. Assumes nothing.
use Rattle.outline.specs.Stands.{way_of}
use Rattle.pairing.proofs.Laws.{way_none}
use Rattle.pairing.proofs.add_way.Goals as goal

pub returns : goal.returns
returns c = way_none c.requires (way_of c.args.way) (c.may_join.ensures c.if-may_join.false)
