-- `seeking::note` meets its contract. Assumes nothing.
use mathlib.Core.Path.{◌≡◌, ◌∙◌, subst}
use native.Mathlib.Numerals.{add-one}
use Rattle.arena.specs.Records.{Linked}
use Rattle.classes.specs.Directory.{end_link}
use Rattle.seeking.specs.Opened.{place_of, place_at}
use Rattle.seeking.proofs.Opened.{noted}
use Rattle.seeking.proofs.note.Goals as goal

pub returns : goal.returns
returns c =
    let s = c.args.arena.now in
    let start = c.args.start in
    let n = c.args.n in
    let e : c.place-at.result ≡ place_at s start n = c.place-at.ensures.0 ∙ (λ i. place_of (c.room-room.ensures i) start (c.size_at-long.ensures.0 i) (c.size_at-wide.ensures.0 i)) in
    noted c.requires e c.head_at-was.ensures c.put_link.ensures (subst (λ v. Linked c.place-at.result end_link v c.put_link.new.arena c.put_link-2.new.arena) (add-one n) c.put_link-2.ensures)
