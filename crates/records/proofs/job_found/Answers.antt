-- `job_found` meets its contract. Assumes nothing.
use Rattle.records.proofs.Told.{began}
use Rattle.records.proofs.job_found.Goals as goal

pub returns : goal.returns
returns c = began _ _ c.first_out_of_range.ensures c.map.ensures.cases
