-- `outline::added` meets its contract. The invariant: below i the sums stand. Assumes nothing.
use Prim.Native.Nat.{ℕ, ◌+◌, ◌%◌, ◌<◌}
use mathlib.Core.Path.{◌≡◌}
use lib.ListN.{length, get_or}
use Rattle.rules.specs.Limits.{types_most}
use Rattle.outline.proofs.added.Given as goal

abbrev pub invariant-loop-i : goal.invariant-loop-i
invariant-loop-i l = (length l.r ≡ types_most) × ((k : ℕ) → k < l.i → get_or l.r k 0 ≡ (get_or l.fn.a k 0 + get_or l.fn.b k 0) % 256)
