use Prim.Native.Nat.{◌-◌}
use mathlib.Core.Path.{refl, ap, ◌∙◌}
use native.Mathlib.Omega.{arith}
use Rattle.reading.proofs.Lines.{in_line_start, in_line_next, in_line_stops, in_line_end, Next, next_of}
use Rattle.reading.proofs.Walks.{told}
use Rattle.reading.proofs.line.Goals.{then-j, else-j}
use Rattle.reading.proofs.line.Goals as goal

pub loop-j-init : goal.loop-j-init
loop-j-init g c = (refl, in_line_start g.row.W)

pub returns-in_err-numbers-clause-read : goal.returns-in_err-numbers-clause-read
returns-in_err-numbers-clause-read g c =
    let n = elim c.if-j.branch as (λ _. Next (g.row.W - c.loop-j.j) c.if-j.end) [
      | then-j w ↦ next_of (g.row.W - c.loop-j.j) c.if-j.end (omega arith) (λ _. w.end-is) (λ h. absurd (omega arith))
      | else-j w ↦ next_of (g.row.W - c.loop-j.j) c.if-j.end (omega arith) (λ h. absurd (omega arith)) (λ _. w.end-is)
    ] in
    told (in_line_stops c.loop-j.invariant.1 (ap (λ b. b.now) c.loop-j.invariant.0) c.loop-j-test.true n _ c.in_err-numbers.ensures.number) _ c.from_residual.result c.from_residual.ensures

pub loop-j-preserved : goal.loop-j-preserved
loop-j-preserved g c =
    let n = elim c.if-j.branch as (λ _. Next (g.row.W - c.loop-j.j) c.if-j.end) [
      | then-j w ↦ next_of (g.row.W - c.loop-j.j) c.if-j.end (omega arith) (λ _. w.end-is) (λ h. absurd (omega arith))
      | else-j w ↦ next_of (g.row.W - c.loop-j.j) c.if-j.end (omega arith) (λ h. absurd (omega arith)) (λ _. w.end-is)
    ] in
    (c.number.ensures.text ∙ c.loop-j.invariant.0, in_line_next c.loop-j.invariant.1 (ap (λ b. b.now) c.loop-j.invariant.0) c.loop-j-test.true n c.in_ok-numbers.field-0 c.number.new.self.at c.in_ok-numbers.ensures.number)

pub returns-clause-read : goal.returns-clause-read
returns-clause-read g c = in_line_end c.loop-j.invariant.1 c.loop-j-test.false
