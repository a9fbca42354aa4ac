use Rattle.std.proofs.Common.{sym, subst}
use Rattle.records.specs.Scan.{InRange, Began}
use Rattle.records.proofs.Told.{none_found, refused_out}
use Rattle.records.proofs.check_records.Goals as goal

pub returns-in-Some : goal.returns-in-Some
returns-in-Some c = refused_out _ _ c.job_found.ensures c.in-Some.is

pub add-requires-clause-in_range : goal.add-requires-clause-in_range
add-requires-clause-in_range c = subst InRange (sym c.loop-p.invariant.job) (none_found (subst (Began _) c.in_default.is c.job_found.ensures))
