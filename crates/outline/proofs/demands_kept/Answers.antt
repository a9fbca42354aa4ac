use native.Mathlib.Omega.{arith}
use mathlib.Core.Path.{sym}
use borrow.Author.Count.{below_more}
use Rattle.outline.specs.Stands.{job_for}
use Rattle.rules.proofs.Places.{at_most_here, at_most_all}
use Rattle.outline.proofs.Laws.{types_count, demand_at}
use borrow.Author.Rules.{rules}
use Rattle.outline.proofs.demands_kept.Goals as goal

pub returns-then-job-i : goal.returns-then-job-i
returns-then-job-i c =
    let e = demand_at c.args.job c.requires c.loop-i.i (omega arith) in
    sym (at_most_here c.args.job.count c.args.counts (job_for c.args.job).demands c.loop-i.i (omega arith) (search rules) (omega (arith, c.if-job-i.true, c.from.ensures)))

pub loop-i-preserved : goal.loop-i-preserved
loop-i-preserved c =
    let e = demand_at c.args.job c.requires c.loop-i.i (omega arith) in
    below_more _ _ c.loop-i.invariant (omega (arith, c.if-job-i.false, c.from.ensures))

pub returns : goal.returns
returns c = sym (at_most_all c.args.job.count c.args.counts (job_for c.args.job).demands (omega (arith, types_count c.args.job c.requires)) (λ k h. c.loop-i.invariant k (omega arith)))
