-- `add` meets its contract. The laws are in Told; what is kept is in Kept. Assumes nothing.
use Rattle.std.proofs.Common.{arith}
use Rattle.records.proofs.Told.{job_fine, seen_is, step_keeps, steps_keep, steps_other}
use Rattle.records.proofs.Scan.add.Goals as goal

pub test_of-test-requires : goal.test_of-test-requires
test_of-test-requires c = job_fine c.requires.reached c.requires.in_range

pub keep-requires : goal.keep-requires
keep-requires c = step_keeps _ c.test_of-test.ensures c.sooner-found.ensures c.requires.reached c.in-None.is

pub overflow_add-self : goal.overflow_add-self
overflow_add-self c = omega (arith, seen_is c.requires.reached c.requires.in_range, c.requires.reached.fits)

pub returns-in-None : goal.returns-in-None
returns-in-None c = steps_keep _ c.test_of-test.ensures c.sooner-found.ensures c.in-None.is c.keep.ensures

pub returns-in-Some : goal.returns-in-Some
returns-in-Some c = steps_other _ c.test_of-test.ensures c.sooner-found.ensures c.in-Some.is
