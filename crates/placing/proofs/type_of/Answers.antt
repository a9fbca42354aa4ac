-- `type_of` meets its contract. Assumes nothing.
use Rattle.placing.proofs.Types.{type_at}
use Rattle.placing.proofs.type_of.Goals as goal

pub returns : goal.returns
returns c = type_at _ c.requires.fine _ c.requires
