use mathlib.Core.Path.{sym, ap, ◌∙◌, subst}
use native.Mathlib.Omega.{arith}
use lib.ListN.{take}
use Rattle.rules.specs.Limits.{types_most}
use Rattle.weighing.specs.Weights.{weighed}
use Rattle.parts.proofs.Parts.{left_falls}
use Rattle.parts.proofs.Portions.{zero_digit, portion_start}
use Rattle.growing.specs.Growing.{Comes}
use Rattle.halving.specs.Halves.{PartPairs}
use Rattle.halving.proofs.Odometer.{portion_whole, parts_start, parts_trying, parts_next, parts_end}
use borrow.Author.Rules.{rules}
use Rattle.halving.proofs.grow_by_parts.Goals as goal

pub loop-n-init : goal.loop-n-init
loop-n-init c = parts_start _ c.requires.0 _ (portion_start _ (search rules) (search rules) (zero_digit types_most) _ c.pieces_of.ensures.0 c.pieces_of.ensures.1) (zero_digit types_most)

pub add_part-requires : goal.add_part-requires
add_part-requires c =
    let o = c.loop-n.invariant.of in
    (parts_trying _ c.requires.0 c.loop-n.invariant (sym ((portion_whole c.loop-n.invariant.of c.requires.0.ready.range.count (search rules)))), record { long = o.long; long_rest = o.long_rest; part_weighs = o.weighs; whole_weighs = c.requires.1 ∙ ap (weighed 0) (sym ((portion_whole c.loop-n.invariant.of c.requires.0.ready.range.count (search rules)))) })

pub returns-in-None : goal.returns-in-None
returns-in-None c = parts_end _ c.requires.0 c.loop-n.invariant (rw c.in_ok-n.was at (subst (λ k. Comes c.args.job c.args.start k (PartPairs c.args.job c.args.least c.loop-n.arena c.args.start c.args.half k (take c.args.job.count c.loop-n.part)) c.loop-n.arena c.loop-n.n c.add_part.new.arena c.add_part.result) (portion_whole c.loop-n.invariant.of c.requires.0.ready.range.count (search rules)) c.add_part.ensures)) ((rw c.in-None.is at c.next.ensures).1)

pub loop-n-smaller : goal.loop-n-smaller
loop-n-smaller c =
    let b = (rw c.in-Some.is at c.next.ensures).1 in
    left_falls b _ (omega arith) b.among

pub loop-n-preserved : goal.loop-n-preserved
loop-n-preserved c = parts_next _ c.requires.0 c.loop-n.invariant (rw c.in_ok-n.was at (subst (λ k. Comes c.args.job c.args.start k (PartPairs c.args.job c.args.least c.loop-n.arena c.args.start c.args.half k (take c.args.job.count c.loop-n.part)) c.loop-n.arena c.loop-n.n c.add_part.new.arena c.add_part.result) (portion_whole c.loop-n.invariant.of c.requires.0.ready.range.count (search rules)) c.add_part.ensures)) (rw c.in-Some.is at c.next.ensures).0 ((rw c.in-Some.is at c.next.ensures).1)
