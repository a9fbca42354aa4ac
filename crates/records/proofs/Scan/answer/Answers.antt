-- `answer` meets its contract: what was found is the answer, or the core checks the flat numbers. The laws are in Told. Assumes nothing.
use Rattle.std.proofs.Common.{arith}
use Rattle.records.proofs.Told.{short, ends_found, ends_clean}
use Rattle.records.proofs.Scan.answer.Goals as goal

pub returns-in-Some : goal.returns-in-Some
returns-in-Some c = ends_found c.in-Some.is

pub overflow_mul-flat : goal.overflow_mul-flat
overflow_mul-flat c = omega (arith, (short c.requires c.in_default.is).0)

pub shared_ref_as_front-flat : goal.shared_ref_as_front-flat
shared_ref_as_front-flat c = omega (arith, (short c.requires c.in_default.is).0)

pub returns : goal.returns
returns c = ends_clean c.in_default.is c.check_list.ensures
