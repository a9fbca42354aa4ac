use Prim.Native.Nat.{◌+◌}
use native.Mathlib.Omega.{arith}
use mathlib.Core.Path.{sym, ◌∙◌}
use Rattle.rules.proofs.Places.{at_most_here, at_most_next}
use borrow.Author.Rules.{rules}
use Rattle.tally.proofs.within.Goals.{then-bounds-i, else-bounds-i}
use Rattle.tally.proofs.within.Goals as goal

pub loop-i-preserved : goal.loop-i-preserved
loop-i-preserved c =
    elim c.if-bounds-i.branch [
      | then-bounds-i w ↦ w.fit-is ∙ sym (at_most_here (c.loop-i.i + 1) c.args.s.now c.args.bounds c.loop-i.i (omega arith) (search rules) w.if-bounds-i.true)
      | else-bounds-i w ↦ w.fit-is ∙ c.loop-i.invariant ∙ sym (at_most_next c.loop-i.i c.args.s.now c.args.bounds (search rules) w.if-bounds-i.false)
    ]
