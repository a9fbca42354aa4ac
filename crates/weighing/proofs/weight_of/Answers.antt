use native.Mathlib.Omega.{arith}
use borrow.Author.Rules.{rules}
use Rattle.weighing.proofs.Laws.{byte_weighs, weighing_start, each_small, weighing_more, weighing_end}
use Rattle.weighing.proofs.weight_of.Goals as goal

pub loop-i-init : goal.loop-i-init
loop-i-init c = weighing_start _ _

pub overflow_mul-sum : goal.overflow_mul-sum
overflow_mul-sum c = omega (arith, byte_weighs {x = c.from.result} (search rules) (each_small c.loop-i.invariant))

pub overflow_add-sum : goal.overflow_add-sum
overflow_add-sum c = omega (arith, byte_weighs {x = c.from.result} (search rules) (each_small c.loop-i.invariant), c.loop-i.invariant.small, c.loop-i.invariant.upto, c.requires)

pub next_weight-each-requires : goal.next_weight-each-requires
next_weight-each-requires c = each_small c.loop-i.invariant

pub loop-i-preserved : goal.loop-i-preserved
loop-i-preserved c = weighing_more c.loop-i.invariant (omega arith) (search rules) c.from.ensures (search rules) c.next_weight-each.ensures.0

pub returns : goal.returns
returns c = weighing_end c.loop-i.invariant (omega arith)
