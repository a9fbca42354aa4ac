-- What a caller that prints knows: the bytes written end within the buffer. Assumes nothing.
use mathlib.Core.Path.{◌≡◌, ap, subst}
use mathlib.Core.List.{List, ◌++◌}
use Prim.Native.Nat.{ℕ, ◌≤◌}
use native.Mathlib.Omega.{arith}
use lib.ListN.{length, take, drop, length-append, length-drop}
use lib.Seq.{length-take-le}
use Rattle.writing.specs.Answer.{Stored, Writes}
use Rattle.std.specs.Prelude.{Result, Ok}
use Rattle.writing.specs.declared.Unwritten.{Unwritten}

module _ (Asked : List ℕ → Type 0) (before : List ℕ) (at : ℕ) (after : List ℕ) where
  pub same_length : {next : ℕ} → Stored Asked before at after next → length after ≡ length before
  same_length {next} s = omega (arith, ap length s.left, length-append (take at before ++ s.bytes) (drop next before), length-append (take at before) s.bytes, length-take-le at before (omega (arith, s.ends, s.room)), length-drop next before, s.ends, s.room)

  pub stored : {r : Result ℕ Unwritten} → Writes Asked before at after r → {next : ℕ} → r ≡ Ok next → Stored Asked before at after next
  stored w e = subst (Writes Asked before at after) e w

  pub ends_within : {r : Result ℕ Unwritten} → Writes Asked before at after r → {next : ℕ} → r ≡ Ok next → next ≤ length after
  ends_within w e = let s = stored w e in omega (arith, s.room, same_length s)
