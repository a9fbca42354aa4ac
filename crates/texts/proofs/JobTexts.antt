-- The answer to a job text, from the walk over its sections. Assumes nothing.
use mathlib.Core.Path.{◌≡◌, refl, sym, ap, ◌∙◌, subst}
use mathlib.Core.Option.{none}
use mathlib.Core.List.{List, [], ◌++◌, append-nil}
use Prim.Native.Nat.{ℕ, ◌≤◌, ◌<◌}
use lib.ListN.{length}
use Rattle.std.specs.Prelude.{Result, Ok, Err, IsErr, IsErrAnd}
use Rattle.rules.specs.Text.{Script, job_text}
use Rattle.rules.specs.Items.{out_of_range}
use Rattle.rules.specs.Answers.{no_text, a_text, outside, within}
use Rattle.shapes.specs.declared.Job.{Job}
use Rattle.shapes.specs.declared.Refusal.{Refusal}
use Rattle.shapes.specs.declared.Refusal.TheVariants.{NotInGrammar}
use Rattle.reader.specs.declared.Stray.{Stray}
use Rattle.reading.specs.declared.Sections.{Sections}
use Rattle.reading.specs.Walked.{Walking, Strays, Arrives, Reads}
use Rattle.reading.specs.Sections.{sheets_and_pieces, Holds}
use Rattle.reading.proofs.Walks.{arrived}
use Rattle.texts.specs.Told.{job_answer, JobRead, Judged}
use Rattle.texts.proofs.Ends.{leaves_within, leaves_behind, is_text}
use Rattle.texts.proofs.Judged.{judged_out, judged_fine}

-- what holds of a refusal holds of the answer that hands it on
pub handed_on : {A : Type 0} (P : Result A Refusal → Type 0) {refusal : Refusal} (r : Result A Refusal) → IsErr r × IsErrAnd r (λ e. e ≡ refusal) → P (Err refusal) → P r
handed_on P (Ok a) e p = absurd e.1
handed_on P (Err z) e p = subst (λ x. P (Err x)) (sym e.1) p

-- what is so of the text from the reader's place on is so of it from the front on, where the reader stands there
pub at_front : {t u : List ℕ} {at : ℕ} (P : List ℕ → ℕ → Type 0) → u ≡ t → at ≡ 0 → P u at → P t 0
at_front {u = u} P e z x = subst (λ v. P v 0) e (subst (P u) z x)

-- what is known of the two sections behind the items `before`, where it is known that they were read
pub record Ended (f : Script → Script) (before t : List ℕ) (from : ℕ) (sections : Sections) (next : ℕ) : Type 0 where
  pub numbers : List ℕ
  pub walking : Walking f t from numbers (λ s. s) next
  pub holds : Holds sections (before ++ numbers)

pub part_whole : (f : Script → Script) (before t : List ℕ) (from next : ℕ) {r : Result Sections Stray} → Reads f t from (λ sections vs. Holds sections (before ++ vs)) r next → {sections : Sections} → r ≡ Ok sections → Ended f before t from sections next
part_whole f before t from next x e =
    let y = arrived f t from next (λ sections vs. Holds sections (before ++ vs)) x e in
    record { numbers = y.numbers; walking = y.walked; holds = y.told }

module _ {t : List ℕ} where
  pub job_stops : {stray : Stray} → Strays sheets_and_pieces t 0 stray → JobRead t (job_answer (Err (NotInGrammar stray.place)))
  unfolding job_text
  job_stops x = no_text (leaves_within sheets_and_pieces t x)

  module _ {sections : Sections} {last : ℕ} (x : Arrives sheets_and_pieces t 0 Holds sections last) where
    pub job_behind : last < length t → JobRead t (job_answer (Err (NotInGrammar last)))
    unfolding job_text
    job_behind h = no_text (leaves_behind sheets_and_pieces t x.walked h)

    pub job_told : length t ≤ last → (r : Result Job Refusal) → Judged sections.job r → JobRead t (job_answer r)
    unfolding job_text
    job_told h (Err e) o = subst (λ z. JobRead t (job_answer (Err z))) (sym o.2) (a_text (is_text sheets_and_pieces t x.walked h) (outside (ap out_of_range (sym (append-nil x.numbers)) ∙ judged_out x.told [] o.1)))
    job_told h (Ok j) o =
        let i = judged_fine o.0 x.told o.1 in
        a_text (is_text sheets_and_pieces t x.walked h) (within (subst (λ vs. out_of_range vs ≡ none) i.items i.fine) (record { number = refl; place = refl; items = i.items; size = i.size; others = i.others }))
