-- The answers put together: what each test found, or that the pieces can be parted or not. Assumes nothing.
use mathlib.Core.Path.{◌≡◌, refl, sym, ap, ◌∙◌, subst}
use mathlib.Core.Bool.{Bool, true, false}
use mathlib.Core.Option.{none, some}
use mathlib.Core.List.{List, [], ◌∷◌, map}
use Prim.Native.Nat.{ℕ, suc, ◌≤◌, ◌<◌}
use native.Mathlib.Omega.{arith}
use lib.ListN.{length, get_or, take}
use lib.Seq.{get_or-take, length-take-le}
use Rattle.rules.specs.Bag.{All}
use Rattle.rules.specs.Box.{Box}
use Rattle.rules.specs.Parted.{CanBeParted}
use Rattle.rules.specs.Placed.{boxes, worth}
use Rattle.rules.specs.Numbers.{Numbers, Entry, entries, job_of, placed, lying}
use Rattle.rules.specs.Planner.{slots_of}
use Rattle.rules.specs.Checker.{CheckAnswer, refused, not_a_type, off_sheet, above_demand, overlaps, first_place, tests, first_refusal, nothing, Checked, refusal, not_parted, accepted}
use Rattle.rules.proofs.Bags.{index_all}
use Rattle.rules.specs.Items.{out_of_range, numbers_from}
use Rattle.rules.specs.Answers.{within, CheckNumbers}
use Rattle.shapes.specs.Handed.{items_of, numbers_of}
use Rattle.shapes.specs.declared.Job.{Job}
use Rattle.parting.specs.Region.{box_at, boxes_of, Listed, Answers}
use Rattle.placing.specs.Place.{no_entry, place_in, FirstAt, NoneAt}
use Rattle.std.specs.Prelude.{Option, Some, None}
use Rattle.parting.specs.declared.Lines.{Lines}
use Rattle.placing.proofs.Entries.{length_entries}
use Rattle.laying.specs.Laid.{Laid, Ready, FirstOverlap, Counted}

-- what a test found
pub found_none : (f : List Entry → Entry → Bool) (flat : List ℕ) {r : Option ℕ} → FirstAt f flat r → r ≡ None → NoneAt f flat
found_none f flat a e = sym a ∙ ap place_in e

found_at : (f : List Entry → Entry → Bool) (flat : List ℕ) {r : Option ℕ} {i : ℕ} → FirstAt f flat r → r ≡ Some i → first_place f 0 [] (entries flat) ≡ some i
found_at f flat a e = sym a ∙ ap place_in e

module _ (n : Numbers) (flat : List ℕ) {r : Option ℕ} {i : ℕ} where
  pub rejected_6 : FirstAt (not_a_type n) flat r → r ≡ Some i → Checked n (entries flat) (refused 6 i)
  rejected_6 f e = refusal {number = 6} {place = i} (rw (found_at (not_a_type n) flat f e) refl)

  module _ (six : NoneAt (not_a_type n) flat) where
    pub rejected_7 : FirstAt (off_sheet n) flat r → r ≡ Some i → Checked n (entries flat) (refused 7 i)
    rejected_7 f e = refusal {number = 7} {place = i} (rw (six, found_at (off_sheet n) flat f e) refl)

    module _ (seven : NoneAt (off_sheet n) flat) where
      pub rejected_8 : FirstAt (above_demand n) flat r → r ≡ Some i → Checked n (entries flat) (refused 8 i)
      rejected_8 f e = refusal {number = 8} {place = i} (rw (six, seven, found_at (above_demand n) flat f e) refl)

      pub rejected_9 : NoneAt (above_demand n) flat → FirstAt (overlaps n) flat r → r ≡ Some i → Checked n (entries flat) (refused 9 i)
      rejected_9 eight f e = refusal {number = 9} {place = i} (rw (six, seven, eight, found_at (overlaps n) flat f e) refl)

nothing_found : (n : Numbers) (flat : List ℕ) → NoneAt (not_a_type n) flat → NoneAt (off_sheet n) flat → NoneAt (above_demand n) flat → NoneAt (overlaps n) flat → first_refusal (tests n) (entries flat) ≡ nothing
nothing_found n flat six seven eight nine = rw (six, seven, eight, nine) refl

-- two lists whose boxes agree place by place
same_boxes : (f : ℕ → Box) (n : Numbers) (order : List ℕ) (l : List Entry) → length order ≡ length l → ((i : ℕ) → i < length l → f (get_or order i 0) ≡ (placed n (get_or l i no_entry)).box) → map f order ≡ boxes (lying n l)
same_boxes f n [] [] e h = refl
same_boxes f n [] (u ∷ l) e h = absurd (omega arith)
same_boxes f n (v ∷ order) [] e h = absurd (omega arith)
same_boxes f n (v ∷ order) (u ∷ l) e h = λ d. h 0 (omega arith) d ∷ same_boxes f n order l (omega arith) (λ i k. h (suc i) (omega arith)) d

module _ {n : Numbers} {flat : List ℕ} {s : List Lines} {was order : List ℕ} {k : ℕ} (laid : Laid n flat s) (up : Counted was order) (e : k ≡ slots_of (length flat)) (h : k ≤ length order) where
  number_at : (i : ℕ) → i < k → get_or (take k order) i 0 ≡ i
  number_at i l = get_or-take k order i 0 l ∙ up.up i (omega arith)

  -- the order names every box
  pub order_listed : All (Listed s) (take k order)
  order_listed = index_all 0 (take k order) (λ i l.
      let m : i < k = omega (arith, length-take-le k order h) in
      subst (Listed s) (sym (number_at i m)) (laid.boxed.listed i (omega arith)))

  pub order_boxes : boxes_of s (take k order) ≡ boxes (lying n (entries flat))
  order_boxes = same_boxes (box_at s) n (take k order) (entries flat) (length-take-le k order h ∙ e ∙ sym (length_entries flat)) (λ i l.
      let m : i < k = omega (arith, length_entries flat) in
      ap (box_at s) (number_at i m) ∙ laid.at i (omega arith))

module _ {j : Job} {flat : List ℕ} {s : List Lines} {was order out : List ℕ} {k : ℕ} {r : Option ℕ} {b : Bool} (ready : Ready j flat) (laid : Laid (numbers_of j) flat s) (nine : FirstOverlap s k r) (e : k ≡ slots_of (length flat)) (up : Counted was order) (h : k ≤ length order) (answers : Answers s (take k order) out b) where
  abbrev n : Numbers
  n = numbers_of j

  passed : r ≡ None → first_refusal (tests n) (entries flat) ≡ nothing
  passed f = nothing_found n flat ready.on_sheet.typed.typed ready.on_sheet.sheet ready.demanded.demand (found_none (overlaps n) flat (nine.first n flat e laid) f)

  pub verdict_parted : r ≡ None → b ≡ true → {profit : ℕ} → profit ≡ worth (job_of n) (lying n (entries flat)) → Checked n (entries flat) (record { number = 0; place = 0; profit = profit; pieces = k })
  verdict_parted f t p =
      let pieces : length (entries flat) ≡ k = length_entries flat ∙ sym e in
      subst (Checked n (entries flat)) (λ d. record { number = 0; place = 0; profit = sym p d; pieces = pieces d }) (accepted (passed f) (subst CanBeParted (order_boxes laid up e h) (answers.yes_if t)))

  pub verdict_stuck : r ≡ None → b ≡ false → Checked n (entries flat) (refused 10 0)
  verdict_stuck f t = not_parted (passed f) (λ p. answers.no_if t (subst CanBeParted (sym (order_boxes laid up e h)) p))

-- the job's own numbers are those of its items
pub verdict_in_range : (j : Job) (flat : List ℕ) {a : CheckAnswer} → out_of_range (items_of j) ≡ none → numbers_from (items_of j) ≡ numbers_of j → Checked (numbers_of j) (entries flat) a → CheckNumbers flat (items_of j) a
verdict_in_range j flat {a} fine same c = within fine (subst (λ (n : Numbers). Checked n (entries flat) a) (sym same) c)
