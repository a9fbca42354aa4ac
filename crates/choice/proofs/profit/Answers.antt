use Prim.Native.Nat.{◌+◌, ◌*◌, ◌≤◌}
use native.Mathlib.Omega.{arith}
use native.Mathlib.Nat.{mul-le-mul}
use borrow.Author.Rules.{rules}
use mathlib.Core.Path.{sym, ap₂, ◌∙◌}
use Rattle.outline.specs.Stands.{job_for}
use Rattle.outline.proofs.Laws.{length_profits, profit_at, type_in_range}
use Rattle.choice.proofs.Laws.{dot_more}
use Rattle.choice.proofs.profit.Goals as goal

pub overflow_mul-sum : goal.overflow_mul-sum
overflow_mul-sum c =
    let b : c.from.result ≤ 255 = search rules in
    omega (arith, mul-le-mul b (type_in_range c.args.job c.requires c.loop-i.i (omega arith)).profit.high)

pub overflow_add-sum : goal.overflow_add-sum
overflow_add-sum c =
    let b : c.from.result ≤ 255 = search rules in
    omega (arith, c.requires.count, c.loop-i.invariant.small, mul-le-mul b (type_in_range c.args.job c.requires c.loop-i.i (omega arith)).profit.high)

pub loop-i-preserved : goal.loop-i-preserved
loop-i-preserved c =
    let job = c.args.job in
    let b : c.from.result ≤ 255 = search rules in
    let m = dot_more c.args.o.counts (job_for job).profits c.loop-i.i (omega (arith, c.requires.count)) (omega (arith, length_profits job c.requires)) in
    let p = profit_at job c.requires c.loop-i.i (omega arith) in
    record {
      is = ap₂ ◌+◌ c.loop-i.invariant.is (ap₂ ◌*◌ c.from.ensures (sym p)) ∙ sym m;
      small = omega (arith, c.loop-i.invariant.small, mul-le-mul b (type_in_range c.args.job c.requires c.loop-i.i (omega arith)).profit.high);
    }
