-- The list of all outlines of a job, computed: so every job has a number N of them. Assumes nothing.
use mathlib.Core.Path.{◌≡◌, refl, sym, ap, ◌∙◌}
use mathlib.Core.Bool.{Bool, true, false, ◌&&◌, true≢false}
use mathlib.Core.List.{List, [], ◌∷◌, map, Memᴰ}
use Prim.Native.Nat.{ℕ}
use native.Mathlib.Omega.{arith}
use lib.ListN.{length}
use lib.Dec.{eqb, leb}
use borrow.Author.Tests.{leb-true, le-leb, eqb-true, eq-eqb}
use Rattle.rules.specs.Bag.{sum, All}
use Rattle.rules.specs.Made.{one, beside, above}
use Rattle.rules.specs.Job.{Job, Outline, Fits, Build, AllOutlines, AtMost, types, alone, horizontal, vertical}
use Rattle.rules.proofs.Bools.{and_both, both_and}
use Rattle.rules.proofs.Bags.{all_at, from_map}
use Rattle.rules.proofs.Rounds.{held, held_mem, rounds, rounds_enumerate}
use Rattle.rules.proofs.Tally.{Typed, length_table, length_plus, sum_plus, sum_unit, sum-at_most}

-- the tests
abbrev pub same_list : List ℕ → List ℕ → Bool
same_list [] [] = true
same_list [] (b ∷ bs) = false
same_list (a ∷ l) [] = false
same_list (a ∷ l) (b ∷ bs) = eqb a b && same_list l bs

abbrev pub same_outline : Outline → Outline → Bool
same_outline o u = eqb o.long u.long && (eqb o.wide u.wide && same_list o.counts u.counts)

abbrev pub at_most : List ℕ → List ℕ → Bool
at_most [] ds = true
at_most (c ∷ cs) [] = false
at_most (c ∷ cs) (d ∷ ds) = leb c d && at_most cs ds

abbrev pub fits : Job → Outline → Bool
fits j o = leb o.long j.long && (leb o.wide j.wide && at_most o.counts j.demands)

same_list_eq : (a b : List ℕ) → same_list a b ≡ true → a ≡ b
same_list_eq [] [] e = refl
same_list_eq [] (b ∷ bs) e = absurd (true≢false (sym e))
same_list_eq (a ∷ l) [] e = absurd (true≢false (sym e))
same_list_eq (a ∷ l) (b ∷ bs) e = let p = and_both (eqb a b) (same_list l bs) e in λ i. eqb-true a b p.0 i ∷ same_list_eq l bs p.1 i

same_list_refl : (a : List ℕ) → same_list a a ≡ true
same_list_refl [] = refl
same_list_refl (a ∷ l) = both_and (eq-eqb a a refl) (same_list_refl l)

pub same_eq : (o u : Outline) → same_outline o u ≡ true → o ≡ u
same_eq o u e =
    let p = and_both (eqb o.long u.long) (eqb o.wide u.wide && same_list o.counts u.counts) e in
    let q = and_both (eqb o.wide u.wide) (same_list o.counts u.counts) p.1 in
    λ i. record { long = eqb-true o.long u.long p.0 i; wide = eqb-true o.wide u.wide q.0 i; counts = same_list_eq o.counts u.counts q.1 i }

pub eq_same : (o : Outline) → same_outline o o ≡ true
eq_same o = both_and (eq-eqb o.long _ refl) (both_and (eq-eqb o.wide _ refl) (same_list_refl o.counts))

at_most_true : (c d : List ℕ) → at_most c d ≡ true → AtMost c d
at_most_true [] d e = tt
at_most_true (c ∷ cs) [] e = true≢false (sym e)
at_most_true (c ∷ cs) (d ∷ ds) e = let p = and_both (leb c d) (at_most cs ds) e in (leb-true c d p.0, at_most_true cs ds p.1)

true_at_most : (c d : List ℕ) → AtMost c d → at_most c d ≡ true
true_at_most [] d h = refl
true_at_most (c ∷ cs) [] h = absurd h
true_at_most (c ∷ cs) (d ∷ ds) h = both_and (le-leb c d h.0) (true_at_most cs ds h.1)

pub fits_true : (j : Job) (o : Outline) → fits j o ≡ true → Fits j o
fits_true j o e =
    let p = and_both (leb o.long j.long) (leb o.wide j.wide && at_most o.counts j.demands) e in
    let q = and_both (leb o.wide j.wide) (at_most o.counts j.demands) p.1 in
    record { long = leb-true _ _ p.0; wide = leb-true _ _ q.0; counts = at_most_true o.counts j.demands q.1 }

pub true_fits : (j : Job) (o : Outline) → Fits j o → fits j o ≡ true
true_fits j o f = both_and (le-leb _ _ f.long) (both_and (le-leb _ _ f.wide) (true_at_most o.counts j.demands f.counts))

pub counts_length : {j : Job} {o : Outline} → Build j o → length o.counts ≡ types j
counts_length {j} (one m k) = let t = from_map (alone j) j.singles m in ap (λ o. length o.counts) t.2 ∙ length_table (types j) _
counts_length (beside {a = a} {b = b} p q k) = length_plus a.counts b.counts (counts_length p ∙ sym (counts_length q)) ∙ counts_length p
counts_length (above {a = a} {b = b} p q k) = length_plus a.counts b.counts (counts_length p ∙ sym (counts_length q)) ∙ counts_length p

-- all outlines of a job
abbrev pub outlines : Job → List Outline
outlines j = rounds (map (alone j) j.singles) horizontal vertical same_outline (fits j) (sum j.demands)

pub outlines_enumerate : (j : Job) → All (λ p. Typed j p.type) j.singles → AllOutlines j (outlines j)
outlines_enumerate j h =
    rounds_enumerate (map (alone j) j.singles) horizontal vertical same_outline (fits j) (Fits j) same_eq eq_same (fits_true j) (true_fits j)
    (λ o. sum o.counts)
    (λ a b p q. sum_plus a.counts b.counts (counts_length p ∙ sym (counts_length q)))
    (λ a b p q. sum_plus a.counts b.counts (counts_length p ∙ sym (counts_length q)))
    (λ o m.
    let t = from_map (alone j) j.singles m in
    let k = all_at h t.1 in
    omega (arith, sum_unit (types j) t.0.type k.low k.high, ap (λ u. sum u.counts) t.2))
    (sum j.demands) (λ o f. sum-at_most o.counts j.demands f.counts)

-- whether an outline is among them, as a test
abbrev pub is_outline : Job → Outline → Bool
is_outline j o = held (map (alone j) j.singles) horizontal vertical same_outline (fits j) o (outlines j)

pub is_outline_lem : (j : Job) (o : Outline) → is_outline j o ≡ true → Memᴰ o (outlines j)
is_outline_lem j o e = held_mem (map (alone j) j.singles) horizontal vertical same_outline (fits j) (Fits j) same_eq eq_same (fits_true j) (true_fits j) o (outlines j) e
