-- `checktext::check_text` meets its contract: what was read is checked, or its refusal is the answer. Assumes nothing.
use mathlib.Core.Path.{refl, sym}
use native.Mathlib.Omega.{arith}
use lib.Seq.{length-take-le}
use Rattle.rules.specs.Answers.{CheckText}
use Rattle.shapes.specs.Answer.{check_answer}
use Rattle.texts.proofs.JobTexts.{handed_on}
use Rattle.checktext.proofs.Laws.{refuses_told, fits, answers}
use Rattle.checktext.proofs.check_text.Goals as goal

pub returns-in_err-read : goal.returns-in_err-read
returns-in_err-read c = handed_on (λ r. CheckText c.args.text.now (check_answer r)) c.from_residual.result c.from_residual.ensures (refuses_told refl c.in_err-read.field-0.0 c.in_err-read.ensures)

pub overflow_mul-end : goal.overflow_mul-end
overflow_mul-end c = omega (arith, (fits c.in_ok-read.ensures refl).room)

pub slice_bounds-numbers-end : goal.slice_bounds-numbers-end
slice_bounds-numbers-end c = let f = fits c.in_ok-read.ensures refl in omega (arith, f.room, f.size)

pub slice_bounds-check_list-end : goal.slice_bounds-check_list-end
slice_bounds-check_list-end c = let f = fits c.in_ok-read.ensures refl in sym (length-take-le _ _ (omega (arith, f.room, f.size)))

pub returns : goal.returns
returns c = answers c.in_ok-read.ensures refl c.check_list.ensures
