-- The marked examples hold: a test of a row that antt computes, and that a row that passes holds. Assumes nothing.
use mathlib.Core.Path.{◌≡◌, refl, sym, ap, ◌∙◌, subst}
use mathlib.Core.Bool.{Bool, true, false, not, ◌&&◌, ◌||◌, true≢false}
use mathlib.Core.Logic.{◌⊎◌, inl, inr}
use mathlib.Core.Option.{Option, none, some}
use mathlib.Core.List.{List, [], ◌∷◌}
use Prim.Native.Nat.{ℕ}
use native.Mathlib.Omega.{arith}
use lib.ListN.{length}
use lib.Dec.{eqb, ltb}
use borrow.Author.Tests.{ltb-true, eqb-true}
use Rattle.rules.specs.Bag.{All}
use Rattle.rules.specs.Job.{Piece, Job, Outline, profit, pieces, tie_order, AtLeastAsGood, NotAfter, Best, alone}
use Rattle.rules.specs.Numbers.{job_of, entries}
use Rattle.rules.specs.Items.{out_of_range, numbers_from}
use Rattle.rules.specs.Checker.{CheckAnswer, Checked}
use Rattle.rules.specs.Planner.{FitsAlone, Planned, none_fits, done}
use Rattle.rules.specs.Text.{job_text}
use Rattle.rules.specs.Answers.{within, no_text}
use Rattle.rules.specs.Table.{Row, plan, no_fit, check, text, Holds, rows}
use Rattle.rules.proofs.Bools.{and_both, or_cases, every, every_all}
use Rattle.rules.proofs.Bags.{all_at, all_map}
use Rattle.rules.proofs.Outlines.{outlines, outlines_enumerate, is_outline, is_outline_lem, fits, true_fits}
use Rattle.rules.proofs.Checking.{checked, checked_is}
use Rattle.rules.proofs.Accept.{job_typed}
use Rattle.rules.proofs.Reading.{Read, ok, stop, read, leaves}

-- the order of outlines as a test
abbrev not_after : List ℕ → List ℕ → Bool
not_after [] bs = true
not_after (a ∷ l) [] = false
not_after (a ∷ l) (b ∷ bs) = ltb a b || (eqb a b && not_after l bs)

not_after_lem : (a b : List ℕ) → not_after a b ≡ true → NotAfter a b
not_after_lem [] b e = tt
not_after_lem (x ∷ xs) [] e = true≢false (sym e)
not_after_lem (x ∷ xs) (y ∷ ys) e = go (not_after_lem xs ys) (or_cases (ltb x y) (eqb x y && not_after xs ys) e)
  where
    go : (not_after xs ys ≡ true → NotAfter xs ys) → (ltb x y ≡ true) ⊎ ((ltb x y ≡ false) × ((eqb x y && not_after xs ys) ≡ true)) → NotAfter (x ∷ xs) (y ∷ ys)
    go r (inl p) = inl (ltb-true x y p)
    go r (inr p) = let q = and_both (eqb x y) (not_after xs ys) p.1 in inr (eqb-true x y q.0, r q.1)

abbrev good : Job → Outline → Outline → Bool
good j o u = ltb (profit j u) (profit j o) || (eqb (profit j u) (profit j o) && not_after (tie_order o) (tie_order u))

good_true : (j : Job) (o u : Outline) → good j o u ≡ true → AtLeastAsGood j o u
good_true j o u e = go (or_cases (ltb (profit j u) (profit j o)) (eqb (profit j u) (profit j o) && not_after (tie_order o) (tie_order u)) e)
  where
    go : (ltb (profit j u) (profit j o) ≡ true) ⊎ ((ltb (profit j u) (profit j o) ≡ false) × ((eqb (profit j u) (profit j o) && not_after (tie_order o) (tie_order u)) ≡ true)) → AtLeastAsGood j o u
    go (inl p) = inl (ltb-true _ _ p)
    go (inr p) =
        let q = and_both (eqb (profit j u) (profit j o)) (not_after (tie_order o) (tie_order u)) p.1 in
        inr (eqb-true _ _ q.0, not_after_lem (tie_order o) (tie_order u) q.1)

-- tests of answers
abbrev is_none : Option ℕ → Bool
is_none none = true
is_none (some i) = false

is_none_lem : (o : Option ℕ) → is_none o ≡ true → o ≡ none
is_none_lem none e = refl
is_none_lem (some i) e = absurd (true≢false (sym e))

abbrev same : CheckAnswer → CheckAnswer → Bool
same a b = eqb a.number b.number && (eqb a.place b.place && (eqb a.profit b.profit && eqb a.pieces b.pieces))

same_true : (a b : CheckAnswer) → same a b ≡ true → a ≡ b
same_true a b e =
    let p = and_both (eqb a.number b.number) (eqb a.place b.place && (eqb a.profit b.profit && eqb a.pieces b.pieces)) e in
    let q = and_both (eqb a.place b.place) (eqb a.profit b.profit && eqb a.pieces b.pieces) p.1 in
    let r = and_both (eqb a.profit b.profit) (eqb a.pieces b.pieces) q.1 in
    λ i. record { number = eqb-true a.number b.number p.0 i; place = eqb-true a.place b.place q.0 i; profit = eqb-true a.profit b.profit r.0 i; pieces = eqb-true a.pieces b.pieces r.1 i }

abbrev stops_at : Read → ℕ → Bool
stops_at (ok vs) k = false
stops_at (stop i) k = eqb i k

stops_at_lem : (r : Read) (k : ℕ) → stops_at r k ≡ true → r ≡ stop k
stops_at_lem (ok vs) k e = absurd (true≢false (sym e))
stops_at_lem (stop i) k e = ap stop (eqb-true i k e)

abbrev job : List ℕ → Job
job vs = job_of (numbers_from vs)

-- the test of a row
abbrev pub passes : Row → Bool
passes (plan vs o p n) = is_none (out_of_range vs) && (eqb (profit (job vs) o) p && (eqb (length (outlines (job vs))) n && (is_outline (job vs) o && every (good (job vs) o) (outlines (job vs)))))
passes (no_fit vs) = is_none (out_of_range vs) && every (λ s. not (fits (job vs) (alone (job vs) s))) (job vs).singles
passes (check vs flat a) = is_none (out_of_range vs) && same (checked (numbers_from vs) (entries flat)) a
passes (text t k) = stops_at (read job_text 0 0 0 t) k

plan_holds : (vs : List ℕ) (o : Outline) (p n : ℕ) → passes (plan vs o p n) ≡ true → Holds (plan vs o p n)
plan_holds vs o p n e room slots hr hs =
    let j : Job = job vs in
    let z = and_both (is_none (out_of_range vs)) (eqb (profit j o) p && (eqb (length (outlines j)) n && (is_outline j o && every (good j o) (outlines j)))) e in
    let a = and_both (eqb (profit j o) p) (eqb (length (outlines j)) n && (is_outline j o && every (good j o) (outlines j))) z.1 in
    let b = and_both (eqb (length (outlines j)) n) (is_outline j o && every (good j o) (outlines j)) a.1 in
    let c = and_both (is_outline j o) (every (good j o) (outlines j)) b.1 in
    let all = outlines_enumerate j (job_typed (numbers_from vs)) in
    let best : Best j o = record { build = all_at all.only (is_outline_lem j o c.0); top = λ u x. good_true j o u (all_at (every_all (good j o) (outlines j) c.1) (all.each u x)) } in
    let pe = eqb-true (profit j o) p a.0 in
    let ne = eqb-true (length (outlines j)) n b.0 in
    within (is_none_lem (out_of_range vs) z.0)
    (subst (Planned j room slots) (λ i. record { number = 0; place = 0; profit = pe i; long = o.long; wide = o.wide; pieces = pieces o; outlines = ne i })
    (done all (omega (arith, ne, hr)) best hs))

no_fit_holds : (vs : List ℕ) → passes (no_fit vs) ≡ true → Holds (no_fit vs)
no_fit_holds vs e room slots =
    let z = and_both (is_none (out_of_range vs)) (every (λ s. not (fits (job vs) (alone (job vs) s))) (job vs).singles) e in
    within (is_none_lem (out_of_range vs) z.0) (none_fits (all_map (λ s h. unfit s h) (every_all (λ s. not (fits (job vs) (alone (job vs) s))) (job vs).singles z.1)))
  where
    unfit : (s : Piece) → not (fits (job vs) (alone (job vs) s)) ≡ true → ¬ FitsAlone (job vs) s
    unfit s h f = true≢false (sym h ∙ ap not (true_fits (job vs) (alone (job vs) s) f))

check_holds : (vs flat : List ℕ) (a : CheckAnswer) → passes (check vs flat a) ≡ true → Holds (check vs flat a)
check_holds vs flat a e =
    let z = and_both (is_none (out_of_range vs)) (same (checked (numbers_from vs) (entries flat)) a) e in
    within (is_none_lem (out_of_range vs) z.0) (subst (Checked (numbers_from vs) (entries flat)) (same_true (checked (numbers_from vs) (entries flat)) a z.1) (checked_is (numbers_from vs) (entries flat)))

pub passes_holds : (r : Row) → passes r ≡ true → Holds r
passes_holds (plan vs o p n) e = plan_holds vs o p n e
passes_holds (no_fit vs) e = no_fit_holds vs e
passes_holds (check vs flat a) e = check_holds vs flat a e
passes_holds (text t k) e = λ arena buffer. no_text (leaves job_text t k (stops_at_lem (read job_text 0 0 0 t) k e))

pub table_holds : (rs : List Row) → every passes rs ≡ true → All Holds rs
table_holds rs e = all_map passes_holds (every_all passes rs e)

-- the marked examples hold of the definitions
pub examples : All Holds rows
unfolding job_text
examples = table_holds rows refl
