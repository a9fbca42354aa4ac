-- `check_in_range` meets its contract: each test counts on what those before it did not find. Assumes nothing.
use mathlib.Core.Path.{◌≡◌}
use mathlib.Core.List.{List}
use Prim.Native.Nat.{ℕ}
use Rattle.rules.specs.Checker.{not_a_type, off_sheet}
use Rattle.shapes.specs.Handed.{numbers_of, JobInRange}
use Rattle.shapes.specs.declared.Job.{Job}
use Rattle.placing.specs.Place.{FirstAt, Typed}
use Rattle.std.specs.Prelude.{Option, None}
use Rattle.laying.specs.Laid.{OnSheet}
use Rattle.checking.proofs.Verdict.{found_none, rejected_6, rejected_7, rejected_8}
use Rattle.checking.proofs.check_in_range.Goals as goal

-- test 6 found nothing
typed_so_far : {job : Job} {list : List ℕ} {first : Option ℕ} → JobInRange job → FirstAt (not_a_type (numbers_of job)) list first → first ≡ None → Typed job list
typed_so_far {job} {list} fine six e = record { fine = fine; typed = found_none (not_a_type (numbers_of job)) list six e }

-- tests 6 and 7 found nothing
on_sheet_so_far : {job : Job} {list : List ℕ} {second : Option ℕ} → Typed job list → FirstAt (off_sheet (numbers_of job)) list second → second ≡ None → OnSheet job list
on_sheet_so_far {job} {list} typed seven e = record { typed = typed; sheet = found_none (off_sheet (numbers_of job)) list seven e }

pub returns-in-Some : goal.returns-in-Some
returns-in-Some c = rejected_6 (numbers_of c.args.job) c.args.list.now c.first_not_a_type.ensures c.in-Some.is

pub returns-in-Some-first_off_sheet : goal.returns-in-Some-first_off_sheet
returns-in-Some-first_off_sheet c =
    let typed : Typed c.args.job c.args.list.now = typed_so_far c.requires c.first_not_a_type.ensures c.in_default.is in
    rejected_7 (numbers_of c.args.job) c.args.list.now typed.typed c.first_off_sheet.ensures c.in-Some-first_off_sheet.is

pub returns-in-Some-first_above_demand : goal.returns-in-Some-first_above_demand
returns-in-Some-first_above_demand c =
    let on_sheet : OnSheet c.args.job c.args.list.now = on_sheet_so_far (typed_so_far c.requires c.first_not_a_type.ensures c.in_default.is) c.first_off_sheet.ensures c.in_default-first_off_sheet.is in
    rejected_8 (numbers_of c.args.job) c.args.list.now on_sheet.typed.typed on_sheet.sheet c.first_above_demand.ensures c.in-Some-first_above_demand.is
