-- `begun` meets its contract: nothing is seen. Assumes nothing.
use Rattle.std.proofs.Common.{rules}
use Rattle.records.proofs.Told.{scanning_start}
use Rattle.records.proofs.Scan.begun.Goals as goal

pub returns : goal.returns
returns c = scanning_start _ (search rules) c.requires
