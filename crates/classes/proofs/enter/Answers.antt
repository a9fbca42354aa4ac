-- `classes::enter` meets its contract. Assumes nothing.
use mathlib.Core.Path.{ap₂, ◌∙◌, subst}
use native.Mathlib.Numerals.{add-one}
use Rattle.arena.specs.Records.{Linked}
use Rattle.weighing.specs.Weights.{spread}
use Rattle.classes.specs.Directory.{chain_link, head_link}
use Rattle.classes.proofs.Laws.{written, entered}
use Rattle.classes.proofs.enter.Goals as goal

pub returns : goal.returns
returns c =
    let s = c.args.arena.now in
    let start = c.args.start in
    let h = c.bucket-h.result in
    entered c.requires.0 (c.bucket-h.ensures.0 ∙ ap₂ spread c.room-room.ensures c.weight_of.ensures.0)
    (written s c.put_link.new.arena c.put_link-2.new.arena c.put_link-3.new.arena start c.args.n h
    (subst (λ v. Linked start chain_link v s c.put_link.new.arena) c.link_at-was.ensures.0 c.put_link.ensures) c.put_link-2.ensures
    (subst (λ v. Linked h head_link v c.put_link-2.new.arena c.put_link-3.new.arena) (add-one start) c.put_link-3.ensures))
