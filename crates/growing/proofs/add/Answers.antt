-- `growing::add` meets its contract. Assumes nothing.
use mathlib.Core.Path.{sym, ◌∙◌}
use Rattle.outlines.proofs.Laws.{full_with}
use Rattle.growing.proofs.Laws.{absent, appendable, comes}
use Rattle.growing.proofs.add.Goals as goal

pub holds_from-requires : goal.holds_from-requires
holds_from-requires c = absent c.args.job c.args.arena.now c.args.start c.args.n c.args.build c.requires

pub returns-then-n-room : goal.returns-then-n-room
returns-then-n-room c = full_with c.args.job c.args.arena.now c.args.n c.args.build c.requires.addable (c.if-n-room.true ∙ c.room.ensures) (c.holds_from.ensures.no_if c.if-holds_from.false)

pub append-requires : goal.append-requires
append-requires c = appendable c.args.job c.args.arena.now c.args.start c.args.n c.args.build c.requires (λ p. c.if-n-room.false (p ∙ sym c.room.ensures))

pub returns : goal.returns
returns c = comes c.args.job c.args.arena.now c.args.start c.args.n c.args.build c.requires _ (λ p. c.if-n-room.false (p ∙ sym c.room.ensures)) (c.holds_from.ensures.no_if c.if-holds_from.false) c.append.ensures
