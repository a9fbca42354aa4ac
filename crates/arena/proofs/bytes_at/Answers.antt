-- `arena::bytes_at` meets its contract. Assumes nothing.
use mathlib.Core.Path.{◌≡◌, ap, ◌∙◌}
use lib.ListN.{take}
use Rattle.rules.specs.Limits.{types_most}
use borrow.Author.Rules.{rules}
use Rattle.arena.specs.Bytes.{chunk}
use Rattle.arena.proofs.Laws.{counts_in}
use Rattle.arena.proofs.bytes_at.Goals as goal

pub returns : goal.returns
unfolding chunk
returns c =
    let e : c.unwrap.result.now ≡ chunk c.args.arena.now c.args.i = search rules in
    record { bytes = e; counts = ap (take types_most) e ∙ counts_in c.args.arena.now c.args.i }
