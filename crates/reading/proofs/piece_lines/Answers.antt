use mathlib.Core.Path.{refl, ap, ◌∙◌}
use borrow.Author.Rules.{rules}
use Rattle.reading.proofs.Types.{in_pieces_start, in_pieces_next, in_pieces_stops, in_pieces_end}
use Rattle.reading.proofs.Walks.{told}
use Rattle.reading.proofs.piece_lines.Goals as goal

pub loop-i-init : goal.loop-i-init
loop-i-init c = (refl, in_pieces_start)

pub returns-in_err-length-clause-read : goal.returns-in_err-length-clause-read
returns-in_err-length-clause-read c = told (in_pieces_stops c.loop-i.invariant.1 c.requires c.loop-i-test.true (ap (λ b. b.now) c.loop-i.invariant.0) c.in_err-length.ensures.read) _ c.from_residual.result c.from_residual.ensures

pub loop-i-preserved : goal.loop-i-preserved
loop-i-preserved c = (c.line.ensures.text ∙ c.loop-i.invariant.0, in_pieces_next c.loop-i.invariant.1 c.requires c.loop-i-test.true (ap (λ b. b.now) c.loop-i.invariant.0) c.in_ok-length.field-0 (search rules) c.in_ok-length.ensures.read)

pub returns-clause-read : goal.returns-clause-read
returns-clause-read c = in_pieces_end c.loop-i.invariant.1 c.loop-i-test.false
