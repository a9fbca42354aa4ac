-- `plantext::plan_input` meets its contract: the length is tested first. Assumes nothing.
use Rattle.rules.specs.Answers.{too_long, a_length}
use Rattle.plantext.proofs.plan_input.Goals as goal

pub returns-then-input-gt-INPUT_MOST : goal.returns-then-input-gt-INPUT_MOST
returns-then-input-gt-INPUT_MOST c = too_long c.if-input-gt-INPUT_MOST.true

pub returns : goal.returns
returns c = a_length c.if-input-gt-INPUT_MOST.false c.plan_text.ensures
