-- `handing::job_of` meets its contract: types are read one after the other. Assumes nothing.
use Rattle.handing.proofs.Laws.{ReadingTypes}
use Rattle.handing.proofs.job_of.Given as goal

abbrev pub invariant-loop-t : goal.invariant-loop-t
invariant-loop-t l = ReadingTypes l.numbers l.types l.t
