-- The range of a text's items, from its sheet count and its job. Assumes nothing.
use mathlib.Core.Path.{◌≡◌, refl, sym, ap, ◌∙◌, subst}
use mathlib.Core.Bool.{Bool, true, false, ◌&&◌}
use mathlib.Core.Logic.{◌≢◌}
use mathlib.Core.Option.{Option, none, some}
use mathlib.Core.List.{List, [], ◌∷◌, ◌++◌, map}
use Prim.Native.Nat.{ℕ, zero, suc, ◌+◌, ◌*◌, ◌≤◌, ◌<◌}
use native.Mathlib.Omega.{arith}
use lib.ListN.{length, drop, length-map}
use lib.Dec.{leb}
use borrow.Author.Tests.{leb-true, le-leb, lt-leb}
use Rattle.std.specs.Prelude.{Some}
use Rattle.rules.specs.Limits.{size_most, kerf_most, types_most, profit_most, demand_most, pieces_most}
use Rattle.rules.specs.Items.{Range, from, piece_ranges, ranges, first_out, piece_count, out_of_range}
use Rattle.rules.proofs.Bools.{and_both, both_and, and_false_right}
use Rattle.rules.proofs.Ranges.{kept, this, those, item_in, item_out, handed_length}
use Rattle.shapes.specs.Handed.{type_of, items_of}
use Rattle.shapes.specs.declared.Job.{Job}
use Rattle.reading.specs.declared.Sections.{Sections}
use Rattle.reading.specs.Pieces.{no_types}
use Rattle.reading.specs.Sections.{Holds, all, too_many, not_one}
use Rattle.texts.specs.Told.{judged}

none_some : {A : Type 0} {i : ℕ} → ◌≡◌ {A = Option ℕ} none (some i) → A
none_some e = absurd (let z : ◌≡◌ {A = ℕ} 0 1 = cc in omega arith)

-- what the first items decide, no item behind them changes
pub out_early : (i : ℕ) (rs : List Range) (vs ws : List ℕ) {k : ℕ} → first_out i rs vs ≡ some k → first_out i rs (vs ++ ws) ≡ some k
out_early i [] vs ws e = none_some e
out_early i (r ∷ rs) [] ws e = none_some e
out_early i (r ∷ rs) (v ∷ vs) ws {k} e = go (leb r.low v && leb v r.high) refl (out_early (suc i) rs vs ws) e
  where
    go : (t : Bool) → (leb r.low v && leb v r.high) ≡ t → (first_out (suc i) rs vs ≡ some k → first_out (suc i) rs (vs ++ ws) ≡ some k) →
        ◌≡◌ {A = Option ℕ} (elim t as (λ (t : Bool). Option ℕ) [ true ↦ first_out (suc i) rs vs | false ↦ some i ]) (some k) →
        ◌≡◌ {A = Option ℕ} (elim t as (λ (t : Bool). Option ℕ) [ true ↦ first_out (suc i) rs (vs ++ ws) | false ↦ some i ]) (some k)
    go true p r e = r e
    go false p r e = e

-- the ranges behind the sheet count
abbrev behind : ℕ → List Range
behind n = drop 1 (ranges n)

-- a sheet count that is not 1
not_one_out : (n : ℕ) → n ≢ 1 → (leb 1 n && leb n 1) ≡ false
not_one_out n h = go (leb 1 n && leb n 1) refl
  where
    go : (b : Bool) → (leb 1 n && leb n 1) ≡ b → b ≡ false
    go true e = let p = and_both (leb 1 n) (leb n 1) e in absurd (h (omega (arith, leb-true 1 n p.0, leb-true n 1 p.1)))
    go false e = refl

-- a piece count that the job has no room for is out of range, if nothing before it is: no item behind it matters
many_same : (l w k n : ℕ) (vs ws : List ℕ) → types_most < n → out_of_range (1 ∷ l ∷ w ∷ k ∷ n ∷ vs) ≡ out_of_range (1 ∷ l ∷ w ∷ k ∷ n ∷ ws)
many_same l w k n vs ws h = go (first_out 0 (ranges n) (1 ∷ l ∷ w ∷ k ∷ n ∷ [])) refl
  where
    go : (o : Option ℕ) → first_out 0 (ranges n) (1 ∷ l ∷ w ∷ k ∷ n ∷ []) ≡ o → out_of_range (1 ∷ l ∷ w ∷ k ∷ n ∷ vs) ≡ out_of_range (1 ∷ l ∷ w ∷ k ∷ n ∷ ws)
    go none e = absurd (omega (arith, (this (those (those (those (those (kept 0 (ranges n) (1 ∷ l ∷ w ∷ k ∷ n ∷ []) e)))))).high))
    go (some i) e = out_early 0 (ranges n) (1 ∷ l ∷ w ∷ k ∷ n ∷ []) vs e ∙ sym (out_early 0 (ranges n) (1 ∷ l ∷ w ∷ k ∷ n ∷ []) ws e)

many_out : (l w k n : ℕ) (vs : List ℕ) → types_most < n → out_of_range (1 ∷ l ∷ w ∷ k ∷ n ∷ vs) ≡ none → ⊥
many_out l w k n vs h e = omega (arith, (this (those (those (those (those (kept 0 (ranges n) (1 ∷ l ∷ w ∷ k ∷ n ∷ vs) e)))))).high)

-- an item of the two sections is out of range, whatever stands behind them
pub judged_out : {sections : Sections} {vs : List ℕ} → Holds sections vs → (ws : List ℕ) → {item : ℕ} → judged sections.job ≡ some item → out_of_range (vs ++ ws) ≡ some item
judged_out (all {job = job} s o h) ws e = out_early 0 (ranges job.count) (items_of job) ws e
judged_out (too_many {job = job} {vs = vs} h) ws e = many_same job.length job.width job.kerf job.count (vs ++ ws) _ h ∙ e
judged_out (not_one {sheets = n} {vs = vs} h) ws e = item_out 0 (from 1 1) (behind (piece_count (n ∷ vs ++ ws))) n (vs ++ ws) (not_one_out n h) ∙ e

-- the items are those of the job
pub record Items (job : Job) (vs : List ℕ) : Type 0 where
  pub items : items_of job ≡ vs
  pub size : length job.types ≡ types_most
  pub others : drop job.count job.types ≡ drop job.count no_types
  pub fine : out_of_range (items_of job) ≡ none

pub judged_fine : {sections : Sections} {job : Job} {vs : List ℕ} → sections.job ≡ Some job → Holds sections vs → judged sections.job ≡ none → Items job vs
judged_fine {sections} {vs = vs} e h k = go (subst (λ j. Holds (record { sheets = sections.sheets; job = j }) vs) e h) (subst (λ j. judged j ≡ none) e k)
  where
    go : {sheets : ℕ} {job : Job} {vs : List ℕ} → Holds (record { sheets = sheets; job = Some job }) vs → judged (Some job) ≡ none → Items job vs
    go (all s o h) e = record { items = refl; size = s; others = o; fine = e }
    go {job = job} (too_many h) e = absurd (many_out job.length job.width job.kerf job.count _ h e)

-- a job that is fine has room for its types
pub judged_count : (job : Job) → out_of_range (items_of job) ≡ none → job.count ≤ types_most
judged_count job e = (this (those (those (those (those (kept 0 (ranges job.count) (items_of job) e)))))).high

-- the items behind those of a job that is fine
ranges_split : (n : ℕ) (rs : List Range) → piece_ranges n rs ≡ piece_ranges n [] ++ rs
ranges_split zero rs = refl
ranges_split (suc n) rs = λ i. from 1 size_most ∷ from 1 size_most ∷ from 1 profit_most ∷ from 1 demand_most ∷ ranges_split n rs i

length_ranges : (n : ℕ) → length (piece_ranges n []) ≡ 4 * n
length_ranges zero = refl
length_ranges (suc n) = omega (arith, length_ranges n)

pass : (i : ℕ) (rs qs : List Range) (vs ws : List ℕ) → length rs ≡ length vs → first_out i (rs ++ qs) vs ≡ none → first_out i (rs ++ qs) (vs ++ ws) ≡ first_out (i + length vs) qs ws
pass i [] qs [] ws l e = let z : i + 0 ≡ i = omega arith in ap (λ k. first_out k qs ws) (sym z)
pass i [] qs (v ∷ vs) ws l e = absurd (omega arith)
pass i (r ∷ rs) qs [] ws l e = absurd (omega arith)
pass i (r ∷ rs) qs (v ∷ vs) ws l e = go (leb r.low v && leb v r.high) refl (pass (suc i) rs qs vs ws (omega arith)) e
  where
    go : (t : Bool) → (leb r.low v && leb v r.high) ≡ t → (first_out (suc i) (rs ++ qs) vs ≡ none → first_out (suc i) (rs ++ qs) (vs ++ ws) ≡ first_out (suc i + length vs) qs ws) →
        ◌≡◌ {A = Option ℕ} (elim t as (λ (t : Bool). Option ℕ) [ true ↦ first_out (suc i) (rs ++ qs) vs | false ↦ some i ]) none →
        ◌≡◌ {A = Option ℕ} (elim t as (λ (t : Bool). Option ℕ) [ true ↦ first_out (suc i) (rs ++ qs) (vs ++ ws) | false ↦ some i ]) (first_out (i + suc (length vs)) qs ws)
    go true p f e = let k : suc i + length vs ≡ i + suc (length vs) = omega arith in f e ∙ ap (λ m. first_out m qs ws) k
    go false p f e = none_some (sym e)

module _ (job : Job) (size : length job.types ≡ types_most) (fine : out_of_range (items_of job) ≡ none) where
  length_items : length (items_of job) ≡ 5 + 4 * job.count
  length_items = omega (arith, handed_length job.length job.width job.kerf job.count (map type_of job.types) (omega (arith, judged_count job fine, size, length-map job.types type_of)))

  abbrev front : List Range
  front = from 1 1 ∷ from 1 size_most ∷ from 1 size_most ∷ from 0 kerf_most ∷ from 1 types_most ∷ piece_ranges job.count []

  split : ranges job.count ≡ front ++ (from 0 pieces_most ∷ [])
  split = ap (λ rs. from 1 1 ∷ from 1 size_most ∷ from 1 size_most ∷ from 0 kerf_most ∷ from 1 types_most ∷ rs) (ranges_split job.count (from 0 pieces_most ∷ []))

  -- the next item is the placement count
  pub count_next : (ws : List ℕ) → out_of_range (items_of job ++ ws) ≡ first_out (5 + 4 * job.count) (from 0 pieces_most ∷ []) ws
  count_next ws =
      let e : 0 + length (items_of job) ≡ 5 + 4 * job.count = omega (arith, length_items) in
      ap (λ rs. first_out 0 rs (items_of job ++ ws)) split
      ∙ pass 0 front (from 0 pieces_most ∷ []) (items_of job) ws (omega (arith, length_items, length_ranges job.count)) (ap (λ rs. first_out 0 rs (items_of job)) (sym split) ∙ fine)
      ∙ ap (λ k. first_out k (from 0 pieces_most ∷ []) ws) e

  pub count_fine : (n : ℕ) (ws : List ℕ) → n ≤ pieces_most → out_of_range (items_of job ++ n ∷ ws) ≡ none
  count_fine n ws h = count_next (n ∷ ws) ∙ item_in (5 + 4 * job.count) (from 0 pieces_most) [] n ws (both_and (le-leb 0 n (omega arith)) (le-leb n pieces_most h))

  pub count_out : (n : ℕ) (ws : List ℕ) → pieces_most < n → out_of_range (items_of job ++ n ∷ ws) ≡ some (5 + 4 * job.count)
  count_out n ws h = count_next (n ∷ ws) ∙ item_out (5 + 4 * job.count) (from 0 pieces_most) [] n ws (and_false_right (leb 0 n) (lt-leb n pieces_most h))
