-- `arena::write_behind` meets its contract: four words, a byte, and zeros. Assumes nothing.
use Rattle.arena.proofs.Codec.{behind_steps}
use Rattle.arena.proofs.write_behind.Goals as goal

pub returns : goal.returns
returns c = behind_steps c.args.along c.args.across c.args.link _ _ _ _ _ _ c.requires.0 c.put.ensures c.put-2.ensures c.put-3.ensures c.put-4.ensures c.zero.ensures
