use mathlib.Core.Path.{refl, ap, ◌∙◌}
use borrow.Author.Rules.{rules}
use Rattle.reading.proofs.Flat.{in_placements_start, in_placements_next, in_placements_stops, in_placements_end}
use Rattle.reading.proofs.Walks.{told}
use Rattle.reading.proofs.placement_lines.Goals as goal

pub loop-i-init : goal.loop-i-init
loop-i-init c = (refl, in_placements_start)

pub returns-in_err-line-clause-read : goal.returns-in_err-line-clause-read
returns-in_err-line-clause-read c = told (in_placements_stops c.loop-i.invariant.1 c.loop-i-test.true (ap (λ b. b.now) c.loop-i.invariant.0) c.in_err-line.ensures.read) _ c.from_residual.result c.from_residual.ensures

pub loop-i-preserved : goal.loop-i-preserved
loop-i-preserved c = (
  c.line.ensures.text ∙ c.loop-i.invariant.0,
  in_placements_next c.loop-i.invariant.1 c.loop-i-test.true (ap (λ b. b.now) c.loop-i.invariant.0) c.requires c.in_ok-line.line (search rules) c.in_ok-line.ensures.read _ (rw c.copy_from_slice.ensures.after refl) (search rules),
)

pub returns-clause-read : goal.returns-clause-read
returns-clause-read c = in_placements_end c.loop-i.invariant.1 c.loop-i-test.false
