-- `step` meets its contract. The laws are in Told. Assumes nothing.
use Rattle.records.proofs.Told.{steps_out, job_in}
use Rattle.records.proofs.Scan.step.Goals as goal

pub add-requires-clause-in_range : goal.add-requires-clause-in_range
add-requires-clause-in_range c = job_in c.requires cc

pub returns-else-not-is_of_job : goal.returns-else-not-is_of_job
returns-else-not-is_of_job c = steps_out _ cc
