-- `texts::read_job` meets its contract: the two sections are read, nothing follows them, and the items are in range. Assumes nothing.
use mathlib.Core.Path.{sym, ap, ◌∙◌, subst}
use Prim.Native.Nat.{◌≤◌, ◌<◌}
use lib.ListN.{length}
use Rattle.std.specs.Prelude.{Err}
use Rattle.reading.specs.Walked.{Strays, Arrives}
use Rattle.reading.specs.Sections.{sheets_and_pieces, Holds}
use Rattle.texts.specs.Told.{JobRead, job_answer}
use Rattle.texts.proofs.JobTexts.{handed_on, at_front, job_stops, job_behind, job_told}
use Rattle.texts.proofs.read_job.Goals as goal

pub returns-in_err-sheet_and_pieces : goal.returns-in_err-sheet_and_pieces
returns-in_err-sheet_and_pieces c = handed_on (λ r. JobRead c.args.text.now (job_answer r)) c.from_residual.result c.from_residual.ensures (job_stops (at_front (λ t at. Strays sheets_and_pieces t at c.in_err-sheet_and_pieces.field-0.0) (ap (λ b. b.now) c.new-r.ensures.0) c.new-r.ensures.1 c.in_err-sheet_and_pieces.ensures.read))

pub returns-in_err-at_end : goal.returns-in_err-at_end
returns-in_err-at_end c =
    let k = c.in_err-at_end.ensures in
    handed_on (λ r. JobRead c.args.text.now (job_answer r)) c.from_residual-in_err-at_end.result c.from_residual-in_err-at_end.ensures
    (subst (λ z. JobRead c.args.text.now (job_answer (Err z))) (sym k.1) (job_behind (at_front (λ t at. Arrives sheets_and_pieces t at Holds c.in_ok-sheet_and_pieces.sheet_and_pieces c.two_sections.new.r.at) (ap (λ b. b.now) c.new-r.ensures.0) c.new-r.ensures.1 c.in_ok-sheet_and_pieces.ensures.read) (subst (λ t. c.two_sections.new.r.at < length t) (ap (λ b. b.now) (c.two_sections.ensures.text ∙ c.new-r.ensures.0)) k.0)))

pub returns : goal.returns
returns c = job_told (at_front (λ t at. Arrives sheets_and_pieces t at Holds c.in_ok-sheet_and_pieces.sheet_and_pieces c.two_sections.new.r.at) (ap (λ b. b.now) c.new-r.ensures.0) c.new-r.ensures.1 c.in_ok-sheet_and_pieces.ensures.read) (subst (λ t. length t ≤ c.two_sections.new.r.at) (ap (λ b. b.now) (c.two_sections.ensures.text ∙ c.new-r.ensures.0)) c.in_ok-at_end.ensures) c.judge.result c.judge.ensures
