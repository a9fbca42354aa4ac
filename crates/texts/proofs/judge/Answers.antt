-- `texts::judge` meets its contract. Assumes nothing.
use mathlib.Core.Path.{refl, sym, ap, ◌∙◌}
use Rattle.jobs.specs.Item.{item_place}
use Rattle.texts.specs.Told.{judged}
use Rattle.texts.proofs.judge.Goals as goal

pub returns-in_default : goal.returns-in_default
returns-in_default c = (0, ap judged c.in_default.is, refl)

pub returns-in-Some-first_out_of_range : goal.returns-in-Some-first_out_of_range
returns-in-Some-first_out_of_range c = (c.in-Some-first_out_of_range.item, (ap judged c.in-Some.is ∙ sym c.first_out_of_range.ensures ∙ ap item_place c.in-Some-first_out_of_range.is), refl)

pub returns-in-None : goal.returns-in-None
returns-in-None c = (c.in-Some.is, ap judged c.in-Some.is ∙ sym c.first_out_of_range.ensures ∙ ap item_place c.in-None.is)
