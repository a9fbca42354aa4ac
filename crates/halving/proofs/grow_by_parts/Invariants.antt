-- `halving::grow_by_parts` meets its contract. The invariant: what comes before the part has been tried. Assumes nothing.
use Rattle.parts.specs.Parts.{portion}
use Rattle.parts.proofs.Parts.{left}
use Rattle.halving.proofs.Odometer.{InParts}
use Rattle.halving.proofs.grow_by_parts.Given as goal

abbrev pub invariant-loop-n : goal.invariant-loop-n
invariant-loop-n l = InParts l.job l.least l.initial.arena l.start l.half l.counts l.arena l.n (portion l.part l.rest l.step)

abbrev pub decreases-loop-n : goal.decreases-loop-n
decreases-loop-n l = left l.job.count l.part
