-- `writing::in_scratch` meets its contract: the digits made so far stand behind those of what is left of the number. Assumes nothing.
use Rattle.writing.proofs.Digits.{Making}
use Rattle.writing.proofs.in_scratch.Given as goal

abbrev pub invariant-loop-rest : goal.invariant-loop-rest
invariant-loop-rest l = Making l.n l.bytes l.from l.rest

abbrev pub decreases-loop-rest : goal.decreases-loop-rest
decreases-loop-rest l = l.from
