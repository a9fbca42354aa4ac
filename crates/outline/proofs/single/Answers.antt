-- `outline::single` meets its contract. Assumes nothing.
use native.Mathlib.Omega.{arith}
use mathlib.Core.Path.{refl}
use Rattle.outline.proofs.Laws.{alone_of, type_in_range}
use Rattle.outline.proofs.single.Goals as goal

pub overflow_add-result : goal.overflow_add-result
overflow_add-result c = let r = type_in_range c.args.job c.requires.0 c.args.t c.requires.1 in omega (arith, r.long.high, c.requires.0.numbers.kerf)

pub overflow_add-result-2 : goal.overflow_add-result-2
overflow_add-result-2 c = let r = type_in_range c.args.job c.requires.0 c.args.t c.requires.1 in omega (arith, r.wide.high, c.requires.0.numbers.kerf)

pub returns : goal.returns
returns c = alone_of c.args.job c.requires.0 c.args.t c.requires.1 _ _ refl refl
