use lib.ListN.{replicate}
use mathlib.Core.Path.{refl}
use native.Mathlib.Omega.{arith}
use Rattle.writing.specs.Steps.{scratch_places}
use Rattle.writing.proofs.Digits.{making_first, place_before, making_next, making_done}
use Rattle.writing.proofs.in_scratch.Goals as goal

pub loop-rest-init : goal.loop-rest-init
loop-rest-init c = making_first c.args.n (replicate scratch_places 0) (omega arith) refl

pub overflow_sub-from-in-loop-rest : goal.overflow_sub-from-in-loop-rest
overflow_sub-from-in-loop-rest c = omega (arith, place_before c.loop-rest.invariant c.loop-rest-test.true)

pub loop-rest-smaller : goal.loop-rest-smaller
loop-rest-smaller c = omega (arith, place_before c.loop-rest.invariant c.loop-rest-test.true)

pub loop-rest-preserved : goal.loop-rest-preserved
loop-rest-preserved c = making_next c.loop-rest.invariant c.loop-rest-test.true

pub returns : goal.returns
returns c = making_done c.loop-rest.invariant c.loop-rest-test.false
