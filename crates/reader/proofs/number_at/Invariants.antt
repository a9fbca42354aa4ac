-- `reader::number_at` meets its contract. The invariant: what is still to be read from `at` gives the answer. Assumes nothing.
use mathlib.Core.Path.{◌≡◌}
use Prim.Native.Nat.{◌≤◌, ◌<◌, ◌^◌}
use lib.ListN.{length, drop}
use Rattle.rules.specs.Limits.{digits_most}
use Rattle.reader.specs.Number.{number_from, number_at}
use Prim.Native.Nat.{max}
use Rattle.reader.proofs.number_at.Given as goal

abbrev pub invariant-loop-at : goal.invariant-loop-at
invariant-loop-at l = (number_at l.end l.text l.from ≡ number_from l.end l.at l.digits l.value (drop l.at l.text)) × (l.value < 10 ^ l.digits) × (l.digits ≤ digits_most) × (l.at ≤ max (length l.text) l.from)
