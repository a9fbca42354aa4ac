-- Every refusal has a number: 0 is no refusal. Assumes nothing.
use mathlib.Core.Logic.{◌≢◌}
use native.Mathlib.Omega.{arith}
use Rattle.shapes.specs.Answer.{number_of}
use Rattle.shapes.specs.declared.Refusal.{Refusal}
use Rattle.shapes.specs.declared.Refusal.TheVariants.{NotInGrammar, OutOfRange, NothingFits, ArenaFull, BufferShort, NotAType, OffSheet, AboveDemand, Overlaps, NotParted, InputTooLong}

pub some_number : (r : Refusal) → number_of r ≢ 0
some_number (NotInGrammar p) e = omega arith
some_number (OutOfRange i) e = omega arith
some_number NothingFits e = omega arith
some_number ArenaFull e = omega arith
some_number BufferShort e = omega arith
some_number (NotAType p) e = omega arith
some_number (OffSheet p) e = omega arith
some_number (AboveDemand p) e = omega arith
some_number (Overlaps p) e = omega arith
some_number NotParted e = omega arith
some_number InputTooLong e = omega arith
