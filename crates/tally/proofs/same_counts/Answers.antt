-- `tally::same_counts` meets its contract. Assumes nothing.
use mathlib.Core.Path.{◌≡◌, refl, sym, ap, ◌∙◌}
use mathlib.Core.List.{List, [], ◌∷◌}
use Prim.Native.Nat.{ℕ}
use mathlib.Core.Bool.{◌&&◌}
use lib.Dec.{eqb}
use lib.ListN.{take}
use lib.Pointwise.{pointwise}
use lib.Seq.{take-take}
use Rattle.rules.specs.Limits.{types_most}
use Rattle.rules.proofs.Outlines.{same_list}
use Rattle.tally.proofs.same_counts.Goals as goal

-- std's test whether lists are the same
pointwise_same : (a b : List ℕ) → pointwise eqb a b ≡ same_list a b
pointwise_same [] [] = refl
pointwise_same [] (y ∷ b) = refl
pointwise_same (x ∷ a) [] = refl
pointwise_same (x ∷ a) (y ∷ b) = ap (λ r. eqb x y && r) (pointwise_same a b)

pub returns : goal.returns
returns c =
    let a = take c.args.n c.args.counts.now in
    let s = c.args.s.now in
    c.eq.ensures ∙ pointwise_same a (take c.args.n s) ∙ ap (same_list a) (sym (take-take c.args.n types_most s c.requires))
