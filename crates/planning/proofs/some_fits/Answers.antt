use native.Mathlib.Omega.{arith}
use mathlib.Core.Path.{sym, ◌∙◌}
use mathlib.Core.Bool.{true≢false}
use mathlib.Core.List.{[]}
use borrow.Author.Count.{below_more}
use Rattle.outlines.specs.Listing.{SingleIn}
use Rattle.outlines.proofs.Laws.{single_not}
use Rattle.planning.proofs.Laws.{this_fits, none_fit}
use Rattle.planning.proofs.some_fits.Goals as goal

pub returns-then-fits : goal.returns-then-fits
returns-then-fits c = record { yes_if = λ _. this_fits c.args.job c.requires c.loop-t.t (omega arith) _ c.single.ensures (sym c.fits.ensures ∙ c.if-fits.true); no_if = λ e. absurd (true≢false e) }

pub loop-t-preserved : goal.loop-t-preserved
loop-t-preserved c = below_more (λ u. SingleIn c.args.job u []) c.loop-t.t c.loop-t.invariant (single_not c.args.job c.loop-t.t _ c.single.ensures (sym c.fits.ensures ∙ c.if-fits.false) [])

pub returns : goal.returns
returns c = record { yes_if = λ e. absurd (true≢false (sym e)); no_if = λ _. none_fit c.args.job c.requires (λ t h. c.loop-t.invariant t (omega arith)) }
