-- `listing::add_more` meets its contract. Assumes nothing.
use mathlib.Core.Path.{refl, sym, subst, ◌∙◌}
use native.Mathlib.Omega.{arith}
use Rattle.outline.proofs.Laws.{type_in_range}
use Rattle.listing.specs.Queue.{Target}
use Rattle.listing.proofs.Laws.{followed_self, none_more, source_target, more_follows}
use Rattle.listing.proofs.add_more.Goals as goal

pub returns-then-job-t : goal.returns-then-job-t
returns-then-job-t c = followed_self c.requires.0.classed (none_more c.requires.0 c.args.t c.requires.1 _ c.from.result refl (c.from.ensures ∙ c.count_at.ensures) c.if-job-t.true _)

pub more_at-counts-requires : goal.more_at-counts-requires
more_at-counts-requires c =
    let r = type_in_range _ c.requires.0.classed.ready.range c.args.t c.requires.1 in
    (omega (arith, c.requires.0.here, c.requires.0.classed.ready.held.room), c.requires.0.classed.ready.range.count, c.requires.1, omega (arith, c.if-job-t.false, c.from.ensures, c.count_at.ensures, r.demand.high))

pub add_target-requires : goal.add_target-requires
add_target-requires c = subst (Target _ c.args.least c.args.arena.now c.args.n c.args.half) (sym c.more_at-counts.ensures) (source_target c.requires.0 c.args.t c.requires.1)

pub returns : goal.returns
returns c = more_follows c.requires.0 c.args.t c.requires.1 _ c.more_at-counts.ensures c.add_target.new.arena c.add_target.result c.add_target.ensures
