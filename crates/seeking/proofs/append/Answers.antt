-- `seeking::append` meets its contract. Assumes nothing.
use mathlib.Core.Path.{subst}
use Rattle.arena.specs.Records.{Linked}
use Rattle.classes.specs.Directory.{head_link, end_link}
use Rattle.seeking.proofs.Opened.{notable, appended}
use Rattle.seeking.proofs.append.Goals as goal

pub note-requires : goal.note-requires
note-requires c =
    let hd = subst (λ k. Linked c.args.n head_link k c.store.new.arena c.put_link.new.arena) c.link_at-head.ensures.0 c.put_link.ensures in
    let ed = subst (λ k. Linked c.args.n end_link k c.put_link.new.arena c.put_link-2.new.arena) c.link_at-end.ensures.0 c.put_link-2.ensures in
    notable c.requires c.store.ensures hd ed

pub returns : goal.returns
returns c =
    let hd = subst (λ k. Linked c.args.n head_link k c.store.new.arena c.put_link.new.arena) c.link_at-head.ensures.0 c.put_link.ensures in
    let ed = subst (λ k. Linked c.args.n end_link k c.put_link.new.arena c.put_link-2.new.arena) c.link_at-end.ensures.0 c.put_link-2.ensures in
    appended c.requires c.store.ensures hd ed c.note.ensures
