use native.Mathlib.Omega.{arith}
use mathlib.Core.Path.{◌≡◌, sym, ◌∙◌}
use lib.ListN.{length}
use lib.Seq.{ext_get_or}
use Rattle.outline.specs.Stands.{sums}
use Rattle.outline.proofs.Laws.{length_sums, get_or_sums}
use borrow.Author.Rules.{rules}
use Rattle.outline.proofs.added.Goals as goal

pub returns : goal.returns
returns c =
    let a = c.args.a in
    let b = c.args.b in
    let e : length a ≡ length b = search rules in
    let l : length (sums a b) ≡ length c.loop-i.r = length_sums a b e ∙ search rules in
    ext_get_or 0 _ _ (sym l) (λ k h. c.loop-i.invariant.1 k (omega (arith, h, c.loop-i.invariant.0)) ∙ sym (get_or_sums a b e k (omega (arith, h, l, length_sums a b e))))
