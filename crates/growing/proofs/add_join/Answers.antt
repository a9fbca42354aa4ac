-- `growing::add_join` meets its contract. Assumes nothing.
use mathlib.Core.Path.{sym, ◌∙◌}
use Rattle.outline.specs.Stands.{way_of}
use Rattle.growing.proofs.Laws.{join_there, pair_growable, pair_comes, pair_not}
use Rattle.growing.proofs.add_join.Goals as goal

pub returns-then-join_there : goal.returns-then-join_there
returns-then-join_there c = join_there c.args.job c.args.arena.now c.args.start c.args.n c.args.i c.args.q c.requires (way_of c.args.way) (c.join_there.ensures c.if-join_there.true)

pub add-requires : goal.add-requires
add-requires c = pair_growable c.args.job c.args.arena.now c.args.start c.args.n c.args.i c.args.q c.requires c.args.way _ _ c.load-a.ensures c.load-b.ensures _ c.joined-o.ensures (sym c.fits.ensures ∙ c.if-fits.true)

pub returns-then-fits : goal.returns-then-fits
returns-then-fits c = pair_comes c.args.job c.args.arena.now c.args.start c.args.n c.args.i c.args.q c.requires c.args.way _ _ c.load-a.ensures c.load-b.ensures _ c.joined-o.ensures c.add.new.arena c.add.result c.add.ensures

pub returns : goal.returns
returns c = pair_not c.args.job c.args.arena.now c.args.start c.args.n c.args.i c.args.q c.requires c.args.way _ _ c.load-a.ensures c.load-b.ensures _ c.joined-o.ensures (sym c.fits.ensures ∙ c.if-fits.false)
