-- `writing::check_line` meets its contract: the line of the answer's numbers. Assumes nothing.
use mathlib.Core.Path.{subst}
use Rattle.writing.specs.Answer.{Writes, LineOf}
use Rattle.writing.proofs.check_line.Goals as goal

pub returns : goal.returns
returns c = subst (λ numbers. Writes (LineOf numbers) c.args.out.now c.args.at c.line.new.out c.line.result) c.numbers.ensures c.line.ensures
