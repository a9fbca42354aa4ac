-- `texts::read_plan` meets its contract: the three sections, nothing behind them, and then what they hold. Assumes nothing.
use mathlib.Core.Path.{sym, ap, ◌∙◌, subst}
use Prim.Native.Nat.{◌≤◌, ◌<◌}
use lib.ListN.{length}
use borrow.Author.Rules.{rules}
use Rattle.std.specs.Prelude.{Ok, Err}
use Rattle.rules.specs.Text.{section}
use Rattle.reading.specs.Walked.{Strays, Arrives}
use Rattle.reading.specs.Sections.{sheets_and_pieces, Holds}
use Rattle.reading.specs.Placements.{PlacementsOf}
use Rattle.texts.specs.Told.{judged}
use Rattle.texts.specs.Plan.{PlanRead, plan_left}
use Rattle.texts.proofs.Judged.{judged_count}
use Rattle.texts.proofs.JobTexts.{handed_on, at_front}
use Rattle.texts.proofs.PlanTexts.{plan_stops, list_stops, plan_behind, plan_out, plan_told}
use Rattle.texts.proofs.read_plan.Goals as goal

pub returns-in_err-sections : goal.returns-in_err-sections
returns-in_err-sections c = handed_on (λ r. PlanRead c.args.buffer.now c.args.text.now (plan_left r c.args.buffer.now)) c.from_residual.result c.from_residual.ensures (plan_stops (at_front (λ t at. Strays sheets_and_pieces t at c.in_err-sections.field-0.0) (ap (λ b. b.now) c.new-r.ensures.0) c.new-r.ensures.1 c.in_err-sections.ensures.read))

pub returns-in_err-list : goal.returns-in_err-list
returns-in_err-list c =
    let y = subst (λ t. Strays (section 3) t c.two_sections.new.r.at c.in_err-list.field-0.0) (ap (λ b. b.now) (c.two_sections.ensures.text ∙ c.new-r.ensures.0)) c.in_err-list.ensures.read in
    handed_on (λ r. PlanRead c.args.buffer.now c.args.text.now (plan_left r c.args.buffer.now)) c.from_residual-in_err-list.result c.from_residual-in_err-list.ensures (list_stops (at_front (λ t at. Arrives sheets_and_pieces t at Holds c.in_ok-sections.sections c.two_sections.new.r.at) (ap (λ b. b.now) c.new-r.ensures.0) c.new-r.ensures.1 c.in_ok-sections.ensures.read) y)

pub returns-in_err-at_end : goal.returns-in_err-at_end
returns-in_err-at_end c =
    let k = c.in_err-at_end.ensures in
    let h = subst (λ t. c.placement_section.new.r.at < length t) (ap (λ b. b.now) (c.placement_section.ensures.text ∙ (c.two_sections.ensures.text ∙ c.new-r.ensures.0))) k.0 in
    handed_on (λ r. PlanRead c.args.buffer.now c.args.text.now (plan_left r c.args.buffer.now)) c.from_residual-in_err-at_end.result c.from_residual-in_err-at_end.ensures (subst (λ z. PlanRead c.args.buffer.now c.args.text.now (plan_left (Err z) c.args.buffer.now)) (sym k.1) (plan_behind (at_front (λ t at. Arrives sheets_and_pieces t at Holds c.in_ok-sections.sections c.two_sections.new.r.at) (ap (λ b. b.now) c.new-r.ensures.0) c.new-r.ensures.1 c.in_ok-sections.ensures.read) (subst (λ t. Arrives (section 3) t c.two_sections.new.r.at PlacementsOf c.in_ok-list.list c.placement_section.new.r.at) (ap (λ b. b.now) (c.two_sections.ensures.text ∙ c.new-r.ensures.0)) c.in_ok-list.ensures.read) h))

pub returns-in_err-job : goal.returns-in_err-job
returns-in_err-job c =
    let k = c.in_err-job.ensures in
    handed_on (λ r. PlanRead c.args.buffer.now c.args.text.now (plan_left r c.args.buffer.now)) c.from_residual-in_err-job.result c.from_residual-in_err-job.ensures (subst (λ z. PlanRead c.args.buffer.now c.args.text.now (plan_left (Err z) c.args.buffer.now)) (sym k.2) (plan_out (at_front (λ t at. Arrives sheets_and_pieces t at Holds c.in_ok-sections.sections c.two_sections.new.r.at) (ap (λ b. b.now) c.new-r.ensures.0) c.new-r.ensures.1 c.in_ok-sections.ensures.read) (subst (λ t. Arrives (section 3) t c.two_sections.new.r.at PlacementsOf c.in_ok-list.list c.placement_section.new.r.at) (ap (λ b. b.now) (c.two_sections.ensures.text ∙ c.new-r.ensures.0)) c.in_ok-list.ensures.read) (subst (λ t. length t ≤ c.placement_section.new.r.at) (ap (λ b. b.now) (c.placement_section.ensures.text ∙ (c.two_sections.ensures.text ∙ c.new-r.ensures.0))) c.in_ok-at_end.ensures) k.1))

pub kept_plan-requires : goal.kept_plan-requires
kept_plan-requires c = (judged_count c.in_ok-job.job (ap judged (sym c.in_ok-job.ensures.0) ∙ c.in_ok-job.ensures.1), search rules)

pub returns-in_err-placements : goal.returns-in_err-placements
returns-in_err-placements c =
    let j = c.in_ok-job.ensures in
    handed_on (λ r. PlanRead c.args.buffer.now c.args.text.now (plan_left r c.kept_plan.new.buffer)) c.from_residual-in_err-placements.result c.from_residual-in_err-placements.ensures
    (plan_told (at_front (λ t at. Arrives sheets_and_pieces t at Holds c.in_ok-sections.sections c.two_sections.new.r.at) (ap (λ b. b.now) c.new-r.ensures.0) c.new-r.ensures.1 c.in_ok-sections.ensures.read) (subst (λ t. Arrives (section 3) t c.two_sections.new.r.at PlacementsOf c.in_ok-list.list c.placement_section.new.r.at) (ap (λ b. b.now) (c.two_sections.ensures.text ∙ c.new-r.ensures.0)) c.in_ok-list.ensures.read) (subst (λ t. length t ≤ c.placement_section.new.r.at) (ap (λ b. b.now) (c.placement_section.ensures.text ∙ (c.two_sections.ensures.text ∙ c.new-r.ensures.0))) c.in_ok-at_end.ensures) j.0 j.1 (Err c.in_err-placements.field-0.0) c.in_err-placements.ensures)

pub returns : goal.returns
returns c =
    let j = c.in_ok-job.ensures in
    plan_told (at_front (λ t at. Arrives sheets_and_pieces t at Holds c.in_ok-sections.sections c.two_sections.new.r.at) (ap (λ b. b.now) c.new-r.ensures.0) c.new-r.ensures.1 c.in_ok-sections.ensures.read) (subst (λ t. Arrives (section 3) t c.two_sections.new.r.at PlacementsOf c.in_ok-list.list c.placement_section.new.r.at) (ap (λ b. b.now) (c.two_sections.ensures.text ∙ c.new-r.ensures.0)) c.in_ok-list.ensures.read) (subst (λ t. length t ≤ c.placement_section.new.r.at) (ap (λ b. b.now) (c.placement_section.ensures.text ∙ (c.two_sections.ensures.text ∙ c.new-r.ensures.0))) c.in_ok-at_end.ensures) j.0 j.1 (Ok c.in_ok-placements.placements) c.in_ok-placements.ensures
