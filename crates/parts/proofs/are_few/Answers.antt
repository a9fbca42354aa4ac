use mathlib.Core.Path.{sym, ap, ◌∙◌}
use Prim.Native.Nat.{suc, ◌*◌}
use native.Mathlib.Omega.{arith}
use native.Mathlib.Numerals.{add-one}
use lib.Dec.{leb}
use Rattle.parts.proofs.Number.{counting_more, counting_over, counting_end}
use borrow.Author.Rules.{rules}
use Rattle.parts.proofs.are_few.Goals as goal

pub returns-then-most-r : goal.returns-then-most-r
returns-then-most-r c = sym (counting_over c.loop-i.invariant c.if-most-r.true)

pub loop-i-preserved : goal.loop-i-preserved
loop-i-preserved c = counting_more c.loop-i.invariant (omega (arith, c.loop-i-test.true)) (search rules) (ap (λ z. c.loop-i.r * z) (add-one _ ∙ ap suc c.from.ensures))

pub returns : goal.returns
returns c = ap (λ z. leb z c.args.most) (counting_end c.loop-i.invariant (omega (arith, c.loop-i-test.false)))
