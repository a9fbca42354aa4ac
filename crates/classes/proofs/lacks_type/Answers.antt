-- `classes::lacks_type` meets its contract. Assumes nothing.
use native.Mathlib.Omega.{arith}
use Rattle.classes.proofs.OneLess.{less_weighs}
use borrow.Author.Rules.{rules}
use Rattle.classes.proofs.lacks_type.Goals as goal

pub overflow_sub-weight : goal.overflow_sub-weight
overflow_sub-weight c = (less_weighs c.args.counts c.requires.3 (omega (arith, c.requires.1)) c.requires.4 c.requires.2 c.requires.5).0

pub find_weighed-requires : goal.find_weighed-requires
find_weighed-requires c = (c.requires.0, c.requires.1, search rules, (less_weighs c.args.counts c.requires.3 (omega (arith, c.requires.1)) c.requires.4 c.requires.2 c.requires.5).1)
