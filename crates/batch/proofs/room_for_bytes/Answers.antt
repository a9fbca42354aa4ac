-- `batch::room_for_bytes` meets its contract: so many zeros. Assumes nothing.
use Rattle.std.proofs.Common.{ℕ}
use lib.ListN.{length-replicate}
use Rattle.batch.proofs.room_for_bytes.Goals as goal

pub returns : goal.returns
returns g c = length-replicate {0} {A = ℕ} g.row.N 0
