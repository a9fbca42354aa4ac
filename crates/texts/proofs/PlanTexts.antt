-- The answer to a plan text, from the walks over its sections. Assumes nothing.
use mathlib.Core.Path.{◌≡◌, refl, sym, ap, ◌∙◌}
use mathlib.Core.Option.{none, some}
use mathlib.Core.List.{List, ◌∷◌, ◌++◌}
use Prim.Native.Nat.{ℕ, ◌≤◌, ◌<◌}
use native.Mathlib.Omega.{arith}
use lib.ListN.{length, take, drop, length-drop, length-append}
use lib.Seq.{take_at, drop_at, length-take-le}
use Rattle.std.specs.Prelude.{Some, Result, Ok, Err}
use Rattle.rules.specs.Text.{Script, section, Text, plan_text}
use Rattle.rules.specs.Items.{out_of_range}
use Rattle.rules.specs.Answers.{no_text, a_text, outside, within}
use Rattle.shapes.specs.Handed.{items_of}
use Rattle.shapes.specs.declared.Job.{Job}
use Rattle.shapes.specs.declared.Refusal.{Refusal}
use Rattle.shapes.specs.declared.Refusal.TheVariants.{NotInGrammar, OutOfRange}
use Rattle.reader.specs.declared.Stray.{Stray}
use Rattle.reading.specs.declared.Placements.{Placements}
use Rattle.reading.specs.declared.Sections.{Sections}
use Rattle.reading.specs.Walked.{Walking, Strays, Arrives}
use Rattle.reading.specs.Sections.{sheets_and_pieces, Holds}
use Rattle.reading.specs.Placements as placements
use Rattle.reading.specs.Placements.{numbers_of_placements, PlacementsOf}
use Rattle.reading.proofs.Walks.{walk_on, before, strays_before, strays_behind}
use Rattle.texts.specs.declared.PlanText.{PlanText}
use Rattle.texts.specs.Told.{judged}
use Rattle.texts.specs.Plan.{plan_left, kept, short, PlanRead, PlanKept, many, no_room, copied}
use Rattle.texts.proofs.Ends.{leaves_within, leaves_behind, is_text}
use Rattle.texts.proofs.Judged.{Items, judged_out, judged_fine, count_fine, count_out}

-- a copy of the numbers in front of what was there
module _ (numbers was : List ℕ) (n : ℕ) (h : n ≤ length numbers) (k : n ≤ length was) where
  pub copy_front : take n (take n numbers ++ drop n was) ≡ take n numbers
  copy_front = take_at (take n numbers) (drop n was) n (length-take-le n numbers h)

  pub copy_rest : drop n (take n numbers ++ drop n was) ≡ drop n was
  copy_rest = drop_at (take n numbers) (drop n was) n (length-take-le n numbers h)

  pub copy_length : length (take n numbers ++ drop n was) ≡ length was
  copy_length = omega (arith, length-append (take n numbers) (drop n was), length-take-le n numbers h, length-drop n was)

abbrev pub plan_sections : Script → Script
plan_sections s = sheets_and_pieces (section 3 s)

abbrev pub plan_of : Job → Result ℕ Refusal → Result PlanText Refusal
plan_of job (Ok n) = Ok (record { job = job; placements = n })
plan_of job (Err r) = Err r

-- what is kept of a text whose first two sections are in range
module _ {job : Job} {vs : List ℕ} (i : Items job vs) where
  items_with : (ws : List ℕ) → vs ++ ws ≡ items_of job ++ ws
  items_with ws = ap (λ l. l ++ ws) (sym i.items)

  -- the items of all three
  items_of_lem : {us ws : List ℕ} {count : ℕ} → us ≡ count ∷ ws → vs ++ us ≡ items_of job ++ count ∷ ws
  items_of_lem {us} e = items_with us ∙ ap (λ l. items_of job ++ l) e

  kept_read : {t was ws : List ℕ} {list : Placements} → Text plan_text t (vs ++ ws) → PlacementsOf list ws → {now : List ℕ} (r : Result ℕ Refusal) → PlanKept job list.count list.numbers was now r → PlanRead was t (plan_left (plan_of job r) now)
  kept_read tx (placements.outside {count = n} {vs = us} h z) _ (many k) = a_text tx (outside (ap out_of_range (items_with (n ∷ us)) ∙ count_out job i.size i.fine n us k))
  kept_read tx (placements.outside h z) _ (no_room k l) = absurd (omega arith)
  kept_read tx (placements.outside h z) _ (copied k l c) = absurd (omega arith)
  kept_read tx (placements.inside h l) _ (many k) = absurd (omega arith)
  kept_read tx (placements.inside {count = n} {numbers = numbers} {vs = us} h l) _ (no_room k m) =
      let s : length us ≡ numbers_of_placements n = ap length l.front ∙ length-take-le (numbers_of_placements n) numbers (omega (arith, l.size)) in
      a_text tx (within (ap out_of_range (items_with (n ∷ us)) ∙ count_fine job i.size i.fine n us k) (short job n us (items_with (n ∷ us)) i.size s m))
  kept_read {was = was} tx (placements.inside {count = n} {numbers = numbers} {vs = us} h l) _ (copied {now = now} k m c) =
      let g : numbers_of_placements n ≤ length numbers = omega (arith, l.size) in
      let f : take (numbers_of_placements n) now ≡ us = ap (take (numbers_of_placements n)) c ∙ copy_front numbers was (numbers_of_placements n) g m ∙ sym l.front in
      a_text tx (within (ap out_of_range (items_with (n ∷ us)) ∙ count_fine job i.size i.fine n us k)
      (kept (items_of_lem (ap (λ q. n ∷ q) (sym f))) i.size i.others m (ap length c ∙ copy_length numbers was (numbers_of_placements n) g m) (ap (drop (numbers_of_placements n)) c ∙ copy_rest numbers was (numbers_of_placements n) g m)))

-- the first two sections are left within
pub plan_stops : {t was : List ℕ} {stray : Stray} → Strays sheets_and_pieces t 0 stray → PlanRead was t (plan_left (Err (NotInGrammar stray.place)) was)
unfolding plan_text
plan_stops {t} x = no_text (leaves_within plan_sections t (strays_before sheets_and_pieces (section 3) x))

module _ {t : List ℕ} {sections : Sections} {next : ℕ} (x : Arrives sheets_and_pieces t 0 Holds sections next) where
  on : Walking plan_sections t 0 x.numbers (section 3) next
  on = before sheets_and_pieces (section 3) x.walked

  -- the placement section is left within
  pub list_stops : {was : List ℕ} {stray : Stray} → Strays (section 3) t next stray → PlanRead was t (plan_left (Err (NotInGrammar stray.place)) was)
  unfolding plan_text
  list_stops y = no_text (leaves_within plan_sections t (strays_behind on refl y))

  module _ {list : Placements} {last : ℕ} (y : Arrives (section 3) t next PlacementsOf list last) where
    walk : Walking plan_sections t 0 (x.numbers ++ y.numbers) (λ s. s) last
    walk = walk_on on (section 3) (λ s. s) (λ s. refl) y.numbers last y.walked

    pub plan_behind : {was : List ℕ} → last < length t → PlanRead was t (plan_left (Err (NotInGrammar last)) was)
    unfolding plan_text
    plan_behind h = no_text (leaves_behind plan_sections t walk h)

    module _ (h : length t ≤ last) where
      whole : Text plan_text t (x.numbers ++ y.numbers)
      unfolding plan_text
      whole = is_text plan_sections t walk h

      -- an item of the first two sections is out of range
      pub plan_out : {was : List ℕ} {item : ℕ} → judged sections.job ≡ some item → PlanRead was t (plan_left (Err (OutOfRange item)) was)
      plan_out o = a_text whole (outside (judged_out x.told y.numbers o))

      -- the placements are kept, or not
      pub plan_told : {was now : List ℕ} {j : Job} → sections.job ≡ Some j → judged sections.job ≡ none → (r : Result ℕ Refusal) → PlanKept j list.count list.numbers was now r → PlanRead was t (plan_left (plan_of j r) now)
      plan_told e o r k = kept_read (judged_fine e x.told o) whole y.told r k
