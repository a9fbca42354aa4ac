-- `choice::as_good` meets its contract: profit, length, width and counts in turn. Assumes nothing.
use mathlib.Core.Path.{◌≡◌, refl, subst, sym}
use borrow.Author.Rules.{rules}
use Rattle.rules.specs.Limits.{types_most}
use lib.ListN.{length, take, length-take}
use Rattle.choice.specs.Best.{Better}
use Rattle.choice.proofs.Laws.{better}
use Rattle.choice.proofs.as_good.Goals as goal

pub returns : goal.returns
returns c =
    let la : length c.args.a.counts ≡ types_most = search rules in
    let lb : length c.args.b.counts ≡ types_most = search rules in
    let same : length (take c.args.job.count c.args.a.counts) ≡ length (take c.args.job.count c.args.b.counts) = simp length-take (rw (la, lb) refl) in
    subst (Better c.args.job c.args.a c.args.b) (sym c.le.ensures) (better c.args.job c.args.a c.args.b c.profit-2.result c.profit.result c.profit-2.ensures c.profit.ensures same)
