-- `arena::write` meets its contract: the counts, and what stands behind them. Assumes nothing.
use native.Mathlib.Omega.{arith}
use mathlib.Core.Path.{◌≡◌, ap, ap₂, ◌∙◌}
use mathlib.Core.List.{◌++◌}
use lib.ListN.{length, drop, length-drop}
use Rattle.arena.specs.Bytes.{encode, behind}
use Rattle.arena.proofs.Codec.{put_behind}
use borrow.Author.Rules.{rules}
use Rattle.rules.specs.Limits.{types_most}
use Rattle.arena.proofs.write.Goals as goal

pub returns : goal.returns
unfolding encode
returns c =
    let hc : length c.args.r.outline.counts ≡ types_most = search rules in
    put_behind c.copy_from_slice.new.self (drop types_most c.args.s.now) c.write_behind.new.s (ap length c.copy_from_slice.ensures.after ∙ hc) (simp length-drop (omega (arith, c.requires.0)))
    ∙ ap₂ ◌++◌ c.copy_from_slice.ensures.after (c.write_behind.ensures ∙ ap (behind c.args.r.outline.length.0 c.args.r.outline.width.0) c.from.ensures)
