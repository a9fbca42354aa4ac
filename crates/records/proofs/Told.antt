-- What is found of a list of records, one placement after the other, and the answer at its end. Assumes nothing.
use mathlib.Core.Path.{◌≡◌, refl, sym, ap, ◌∙◌, subst}
use mathlib.Core.Bool.{Bool, true, false, true≢false}
use mathlib.Core.List.{List, [], ◌∷◌, ◌++◌}
use Prim.Native.Nat.{ℕ, zero, suc, ◌+◌, ◌*◌, ◌-◌, ◌≤◌, ◌<◌}
use native.Mathlib.Omega.{arith}
use lib.ListN.{length, get_or, take, replicate, length-append, length-replicate}
use lib.Dec.{eqb}
use borrow.Author.Tests.{le-leb, lt-leb}
use Rattle.rules.specs.Limits.{types_most, pieces_most}
use Rattle.rules.specs.Bag.{count}
use Rattle.rules.specs.Items.{out_of_range, numbers_from}
use Rattle.rules.specs.Placed.{of_type}
use Rattle.rules.specs.Numbers.{Numbers, PieceType, Entry, no_type}
use Rattle.rules.specs.Checker.{not_a_type, off_sheet, above_demand}
use Rattle.rules.specs.Answers.{outside, CheckNumbers}
use Rattle.shapes.specs.Answer.{check_answer}
use Rattle.shapes.specs.Handed.{items_of, numbers_of, entry_of, JobInRange}
use Rattle.shapes.specs.declared.Job.{Job}
use Rattle.shapes.specs.declared.Placement.{Placement}
use Rattle.shapes.specs.declared.PieceType as declared
use Rattle.std.specs.Prelude.{Option, Some, None, Result, Err, is_some, MatchOption, IsSomeAnd}
use Rattle.shapes.specs.declared.Drawing.{Drawing}
use Rattle.shapes.specs.declared.Refusal.{Refusal}
use Rattle.shapes.specs.declared.Refusal.TheVariants.{OutOfRange, NotAType, OffSheet}
use Rattle.jobs.specs.Item.{item_place}
use Rattle.jobs.proofs.Fine.{count_fine, same_numbers, job_in_range}
use Rattle.placing.specs.Place.{NoneAt, OfJob, TypeOf}
use Rattle.placing.proofs.Types.{of_type_lem, few_entries}
use Rattle.checking.proofs.Verdict.{rejected_6, rejected_7, rejected_8, verdict_in_range}
use Rattle.records.specs.declared.Scan.{Scan}
use Rattle.records.specs.Scan.{flat_of, behind, InRange, Began, bad, good, of_job, Tested, no_type_lem, off, above, passes, sooner_of, Keeps, Kept, Alive, Holding, FirstIs, Told, out, six, seven, eight, clean, Scanning, Reached, Steps, Ends}
use Rattle.records.proofs.Places.{length-flat, place_kept, place_none, place_here}
use Rattle.records.proofs.Kept.{holding_next}

module _ (j : Job) (ps : List Placement) (s : Scan) (p : Placement) where
  abbrev n : Numbers
  n = numbers_of j

  -- how many of the placement's type came before, as the state has it
  had : Holding ps s → OfJob j p.kind → get_or s.counts (p.kind - 1) 0 ≡ count (λ u. eqb u.type p.kind) (behind ps)
  had h o =
      let e : suc (p.kind - 1) ≡ p.kind = omega (arith, o.low) in
      h.held (p.kind - 1) (omega (arith, o.low, o.high, o.fine.count)) ∙ ap (λ t. count (λ u. eqb u.type t) (behind ps)) e

  demand_is : {t : declared.PieceType} → TypeOf j p.kind t → t.demand ≡ (of_type no_type n.types p.kind).demand
  demand_is is = ap (λ (q : PieceType). q.demand) is.is

  none_6 : NoneAt (not_a_type n) (flat_of ps) → not_a_type n [] (entry_of p) ≡ false → NoneAt (not_a_type n) (flat_of (ps ++ (p ∷ [])))
  none_6 h e = place_none (not_a_type n) ps p h e

  none_7 : NoneAt (off_sheet n) (flat_of ps) → off_sheet n [] (entry_of p) ≡ false → NoneAt (off_sheet n) (flat_of (ps ++ (p ∷ [])))
  none_7 h e = place_none (off_sheet n) ps p h e

  none_8 : {t : declared.PieceType} → Alive j ps s → Holding ps s → NoneAt (above_demand n) (flat_of ps) → not_a_type n [] (entry_of p) ≡ false → TypeOf j p.kind t → get_or s.counts (p.kind - 1) 0 < t.demand → NoneAt (above_demand n) (flat_of (ps ++ (p ∷ [])))
  none_8 a g h e is l = place_none (above_demand n) ps p h (lt-leb (of_type no_type n.types p.kind).demand (count (λ u. eqb u.type p.kind) (behind ps)) (omega (arith, had g (of_type_lem j a.fine p e), demand_is is)))

  -- the state r, in which one placement more is seen
  module _ (r : Scan) (next : r.seen ≡ s.seen + 1) where
    alive_next : Alive j ps s → Alive j (ps ++ (p ∷ [])) r
    alive_next a = record { fine = a.fine; in_range = a.in_range; seen = omega (arith, a.seen, length-append ps (p ∷ [])) }

    here : (f : List Entry → Entry → Bool) → Alive j ps s → NoneAt f (flat_of ps) → f (behind ps) (entry_of p) ≡ true → FirstIs f (ps ++ (p ∷ [])) s.seen
    here f a h e = subst (FirstIs f (ps ++ (p ∷ []))) (sym a.seen) (place_here f ps p h e)

    here_6 : Alive j ps s → NoneAt (not_a_type n) (flat_of ps) → not_a_type n [] (entry_of p) ≡ true → Told j (ps ++ (p ∷ [])) r (Some (NotAType s.seen))
    here_6 a h e = six (alive_next a) (here (not_a_type n) a h e)

    here_7 : Alive j ps s → NoneAt (not_a_type n) (flat_of ps) → NoneAt (off_sheet n) (flat_of ps) → not_a_type n [] (entry_of p) ≡ false → off_sheet n [] (entry_of p) ≡ true → Told j (ps ++ (p ∷ [])) r (Some (OffSheet s.seen))
    here_7 a h k e f = seven (alive_next a) (none_6 h e) (here (off_sheet n) a k f)

    -- the old finding and the new one: the sooner of the two
    pub told_next : {old new : Option Refusal} → Told j ps s old → Tested j s.counts p s.seen new → (old ≡ None → new ≡ None → Holding (ps ++ (p ∷ [])) r) → Told j (ps ++ (p ∷ [])) r (sooner_of old new)
    told_next (out e) (no_type_lem f) h = out e
    told_next (out e) (off f g) h = out e
    told_next (out e) (above f g is l) h = out e
    told_next (out e) (passes f g is l) h = out e
    told_next (six a e) (no_type_lem f) h = six (alive_next a) (place_kept (not_a_type n) ps p e)
    told_next (six a e) (off f g) h = six (alive_next a) (place_kept (not_a_type n) ps p e)
    told_next (six a e) (above f g is l) h = six (alive_next a) (place_kept (not_a_type n) ps p e)
    told_next (six a e) (passes f g is l) h = six (alive_next a) (place_kept (not_a_type n) ps p e)
    told_next (seven a b e) (no_type_lem f) h = here_6 a b f
    told_next (seven a b e) (off f g) h = seven (alive_next a) (none_6 b f) (place_kept (off_sheet n) ps p e)
    told_next (seven a b e) (above f g is l) h = seven (alive_next a) (none_6 b f) (place_kept (off_sheet n) ps p e)
    told_next (seven a b e) (passes f g is l) h = seven (alive_next a) (none_6 b f) (place_kept (off_sheet n) ps p e)
    told_next (eight a b c e) (no_type_lem f) h = here_6 a b f
    told_next (eight a b c e) (off f g) h = here_7 a b c f g
    told_next (eight a b c e) (above f g is l) h = eight (alive_next a) (none_6 b f) (none_7 c g) (place_kept (above_demand n) ps p e)
    told_next (eight a b c e) (passes f g is l) h = eight (alive_next a) (none_6 b f) (none_7 c g) (place_kept (above_demand n) ps p e)
    told_next (clean a b c d k) (no_type_lem f) h = here_6 a b f
    told_next (clean a b c d k) (off f g) h = here_7 a b c f g
    told_next (clean a b c d k) (above f g is l) h =
        eight (alive_next a) (none_6 b f) (none_7 c g) (here (above_demand n) a d
        (le-leb (of_type no_type n.types p.kind).demand (count (λ u. eqb u.type p.kind) (behind ps)) (omega (arith, had k (of_type_lem j a.fine p f), demand_is is))))
    told_next (clean a b c d k) (passes f g is l) h = clean (alive_next a) (none_6 b f) (none_7 c g) (none_8 a k d f is l) (h refl refl)

  -- a clean list with one placement more that passes is still short
  pub keeps_one : Told j ps s None → Tested j s.counts p s.seen None → Keeps s p
  keeps_one (clean a b c d k) (passes f g is l) =
      let o = of_type_lem j a.fine p f in
      let few = few_entries {j = j} {flat = flat_of (ps ++ (p ∷ []))} (record { typed = record { fine = a.fine; typed = none_6 b f }; demand = none_8 a k d f is l }) in
      record {
        low = o.low;
        high = omega (arith, o.high, a.fine.count);
        few = omega (arith, l, is.range.demand.high);
        room = omega (arith, few, length-flat (ps ++ (p ∷ [])), length-append ps (p ∷ []), a.seen);
      }

-- the sooner of two findings is nothing only if both are
both_none : (old new : Option Refusal) → sooner_of old new ≡ None → (old ≡ None) × (new ≡ None)
both_none None new e = (refl, e)
both_none (Some a) None e = absurd (true≢false (ap is_some e))
both_none (Some a) (Some b) e = absurd (true≢false (ap is_some e))

-- a job out of range: nothing is looked at
pub steps_out : (s : Scan) {p : Placement} → of_job s.found ≡ true → Steps s p s
steps_out s {p} e = record { next = λ j ps c. record { job = c.job; told = same s.found e c.told } }
  where
    same : (f : Option Refusal) → of_job f ≡ true → {j : Job} {ps : List Placement} → Told j ps s f → Told j (ps ++ (p ∷ [])) s f
    same f e (out h) = out h
    same f e (six a h) = absurd (true≢false (sym e))
    same f e (seven a b h) = absurd (true≢false (sym e))
    same f e (eight a b c h) = absurd (true≢false (sym e))
    same f e (clean a b c d h) = absurd (true≢false (sym e))

-- a refusal of no job is of a list whose job is in range
not_out : {j : Job} {ps : List Placement} {s : Scan} {f : Option Refusal} → Told j ps s f → of_job f ≡ false → InRange j
not_out (out h) e = absurd (true≢false e)
not_out (six a h) e = a.in_range
not_out (seven a b h) e = a.in_range
not_out (eight a b c h) e = a.in_range
not_out (clean a b c d h) e = a.in_range

pub job_in : {s : Scan} → Reached s → of_job s.found ≡ false → InRange s.job
job_in {s} c e = subst InRange (sym c.scanning.job) (not_out c.scanning.told e)

alive : {j : Job} {ps : List Placement} {s : Scan} {f : Option Refusal} → Told j ps s f → InRange j → Alive j ps s
alive (out h) e = let z = sym h ∙ e in absurd cc
alive (six a h) e = a
alive (seven a b h) e = a
alive (eight a b c h) e = a
alive (clean a b c d h) e = a

alive_now : {s : Scan} (c : Reached s) → InRange s.job → Alive c.job c.seen s
alive_now c e = alive c.scanning.told (subst InRange c.scanning.job e)

pub job_fine : {s : Scan} → Reached s → InRange s.job → JobInRange s.job
job_fine c e = subst JobInRange (sym c.scanning.job) (alive_now c e).fine

pub seen_is : {s : Scan} (c : Reached s) → InRange s.job → s.seen ≡ length c.seen
seen_is c e = (alive_now c e).seen

module _ (s : Scan) {p : Placement} {t b : Option Refusal} (tested : Tested s.job s.counts p s.seen t) (best : b ≡ sooner_of s.found t) where
  tested_for : {j : Job} {ps : List Placement} → Scanning j ps s → Tested j s.counts p s.seen t
  tested_for c = subst (λ (k : Job). Tested k s.counts p s.seen t) c.job tested

  both : b ≡ None → (s.found ≡ None) × (t ≡ None)
  both e = both_none s.found t (sym best ∙ e)

  pub step_keeps : Reached s → b ≡ None → Keeps s p
  step_keeps c e =
      let x = both e in
      keeps_one c.job c.seen s p (subst (Told c.job c.seen s) x.0 c.scanning.told) (subst (Tested c.job s.counts p s.seen) x.1 (tested_for c.scanning))

  holding : {j : Job} {ps : List Placement} → Told j ps s None → Holding ps s × Alive j ps s
  holding (clean a b c d k) = (k, a)

  pub steps_keep : b ≡ None → {r : Scan} → Kept s p r → Steps s p r
  steps_keep e {r} k = record {
    next = λ j ps c.
        let x = both e in
        let told = subst (Told j ps s) x.0 c.told in
        let y = holding told in
        let keeps = keeps_one j ps s p told (subst (Tested j s.counts p s.seen) x.1 (tested_for c)) in
        let z : sooner_of s.found t ≡ r.found = sym best ∙ e ∙ sym x.0 ∙ sym k.found in
        record {
          job = k.job ∙ c.job;
          told = subst (Told j (ps ++ (p ∷ [])) r) z (told_next j ps s p r k.seen c.told (tested_for c) (λ _ _. holding_next y.0 y.1.seen keeps k));
        };
  }

  pub steps_other : {f : Refusal} → b ≡ Some f → Steps s p (record { job = s.job; found = b; seen = s.seen + 1; counts = s.counts; flat = s.flat })
  steps_other e =
      let r : Scan = record { job = s.job; found = b; seen = s.seen + 1; counts = s.counts; flat = s.flat } in
      record {
        next = λ j ps c. record {
          job = c.job;
          told = subst (Told j (ps ++ (p ∷ [])) r) (sym best) (told_next j ps s p r refl c.told (tested_for c) (λ f g. absurd (true≢false (ap is_some (sym e ∙ best ∙ ap (sooner_of s.found) g ∙ ap (λ h. sooner_of h None) f)))));
        };
      }

-- the beginning
pub began : {j : Job} (o : Option ℕ) (f : Option Refusal) → item_place o ≡ out_of_range (items_of j) → MatchOption o (f ≡ None) (λ i. IsSomeAnd f (λ r. r ≡ OutOfRange i)) → Began j f
began None f e h = rw h (good (sym e))
began (Some i) None e h = absurd h
began (Some i) (Some r) e h = rw h (bad (sym e))

pub scanning_start : (j : Job) {f : Option Refusal} → length j.types ≡ types_most → Began j f → Scanning j [] (record { job = j; found = f; seen = 0; counts = replicate types_most 0; flat = replicate (3 * pieces_most) 0 })
scanning_start j {f} room b = record { job = refl; told = go f b }
  where
    zeros : (m k : ℕ) → ◌≡◌ {A = ℕ} (get_or (replicate m 0) k 0) 0
    zeros zero k = refl
    zeros (suc m) zero = refl
    zeros (suc m) (suc k) = zeros m k

    go : (f : Option Refusal) → Began j f → Told j [] (record { job = j; found = f; seen = 0; counts = replicate types_most 0; flat = replicate (3 * pieces_most) 0 }) f
    go f (bad e) = out e
    go f (good e) =
        clean (record { fine = record { types = room; count = count_fine j room e; numbers = job_in_range j room e }; in_range = e; seen = refl }) refl refl refl
        (record { types = length-replicate {A = ℕ} types_most 0; held = λ k h. zeros types_most k; room = length-replicate {A = ℕ} (3 * pieces_most) 0; flat = refl })

-- a job in which nothing is found is in range, and any other is refused whatever is placed
pub none_found : {j : Job} → Began j None → InRange j
none_found (good h) = h

pub refused_out : (j : Job) (flat : List ℕ) {f : Option Refusal} {r : Refusal} → Began j f → f ≡ Some r → CheckNumbers flat (items_of j) (check_answer (Err r))
refused_out j flat {r = r} b e = go r (subst (Began j) e b)
  where
    go : (r : Refusal) → Began j (Some r) → CheckNumbers flat (items_of j) (check_answer (Err r))
    go r (bad h) = outside h

-- the end
module _ {s : Scan} where
  checked_in : {j : Job} {ps : List Placement} (a : Alive j ps s) → numbers_from (items_of j) ≡ numbers_of j
  checked_in {j} a = same_numbers j a.fine.types a.in_range

  pub ends_found : {f : Refusal} → s.found ≡ Some f → Ends s (Err f)
  ends_found {f} e = record { answer = λ j ps c. go j ps f (subst (Told j ps s) e c.told) }
    where
      go : (j : Job) (ps : List Placement) (f : Refusal) → Told j ps s (Some f) → CheckNumbers (flat_of ps) (items_of j) (check_answer (Err f))
      go j ps f (out h) = outside h
      go j ps f (six {i = i} a h) = verdict_in_range j (flat_of ps) a.in_range (checked_in a) (rejected_6 (numbers_of j) (flat_of ps) {r = Some i} (sym h) refl)
      go j ps f (seven {i = i} a b h) = verdict_in_range j (flat_of ps) a.in_range (checked_in a) (rejected_7 (numbers_of j) (flat_of ps) {r = Some i} b (sym h) refl)
      go j ps f (eight {i = i} a b c h) = verdict_in_range j (flat_of ps) a.in_range (checked_in a) (rejected_8 (numbers_of j) (flat_of ps) {r = Some i} b c (sym h) refl)

  -- the flat numbers have room for what was seen
  pub short : Reached s → s.found ≡ None → (s.seen ≤ pieces_most) × (length s.flat ≡ 3 * pieces_most)
  short c e = go c.job c.seen (subst (Told c.job c.seen s) e c.scanning.told)
    where
      go : (j : Job) (ps : List Placement) → Told j ps s None → (s.seen ≤ pieces_most) × (length s.flat ≡ 3 * pieces_most)
      go j ps (clean a b c d k) = (omega (arith, a.seen, length-flat ps, few_entries {j = j} {flat = flat_of ps} (record { typed = record { fine = a.fine; typed = b }; demand = d })), k.room)

  pub ends_clean : s.found ≡ None → {r : Result Drawing Refusal} → CheckNumbers (take (s.seen * 3) s.flat) (items_of s.job) (check_answer r) → Ends s r
  ends_clean e {r} x = record { answer = λ j ps c. go j ps c.job (subst (Told j ps s) e c.told) }
    where
      go : (j : Job) (ps : List Placement) → s.job ≡ j → Told j ps s None → CheckNumbers (flat_of ps) (items_of j) (check_answer r)
      go j ps q (clean a b c d k) =
          let f : take (s.seen * 3) s.flat ≡ flat_of ps = ap (λ m. take (m * 3) s.flat) a.seen ∙ k.flat in
          subst (λ (j : Job). CheckNumbers (flat_of ps) (items_of j) (check_answer r)) q (subst (λ (l : List ℕ). CheckNumbers l (items_of s.job) (check_answer r)) f x)
