use borrow.Author.Rules.{rules}
use mathlib.Core.Path.{refl}
use lib.ListN.{replicate}
use Rattle.writing.proofs.House.{flattening_first, flattening_next, flattening_done}
use Rattle.writing.proofs.piece_numbers.Goals as goal

pub loop-i-init : goal.loop-i-init
loop-i-init c = flattening_first c.args.types (search rules) (replicate 48 0) refl

pub loop-i-preserved : goal.loop-i-preserved
loop-i-preserved c = flattening_next c.args.types (search rules) (replicate 48 0) refl c.loop-i.invariant _ c.loop-i-test.true _ refl

pub returns : goal.returns
returns c = flattening_done c.args.types (search rules) (replicate 48 0) refl c.loop-i.invariant c.loop-i-test.false
