-- `check_records` meets its contract: the state is the scan of the records before the index. Assumes nothing.
use Rattle.std.proofs.Common.{take}
use Rattle.records.specs.Scan.{Scanning}
use Rattle.records.proofs.check_records.Given as goal

abbrev pub invariant-loop-p : goal.invariant-loop-p
invariant-loop-p l = Scanning l.fn.job (take l.p-index l.list) l.scan
