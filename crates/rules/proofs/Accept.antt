-- The checker accepts a list exactly if its pieces keep to sheet and demands and can be parted: tests 6 to 9 find nothing, and the other way round. Assumes nothing.
use mathlib.Core.Path.{◌≡◌, refl, sym, ap, ◌∙◌, subst}
use mathlib.Core.Bool.{Bool, true, false, not}
use mathlib.Core.Logic.{◌↔◌}
use mathlib.Core.Option.{Option, none, some}
use mathlib.Core.List.{List, [], ◌∷◌, Memᴰ}
use Prim.Native.Nat.{ℕ, zero, suc, ◌+◌, ◌≤◌, ◌<◌}
use native.Mathlib.Omega.{arith}
use lib.ListN.{length, get_or, length-map, get_or-map}
use lib.Dec.{eqb, leb, ltb}
use borrow.Author.Tests.{leb-true, leb-false, le-leb, lt-leb, ltb-false, le-ltb, eqb-true, eqb-false, eq-eqb, ne_eqb}
use Rattle.rules.specs.Bag.{tick, count, All, nil, cons}
use Rattle.rules.specs.Box.{along, across, far, Apart, Disjoint, more, overlap}
use Rattle.rules.specs.Parted.{CanBeParted}
use Rattle.rules.specs.Job.{AtMost, table, types}
use Rattle.rules.specs.Placed.{boxes, Of, OnSheet, counts_of, of_type, Accepted}
use Rattle.rules.specs.Numbers.{Numbers, PieceType, no_type, grown, singles_from, job_of, Entry, placed, lying}
use Rattle.rules.specs.Checker.{CheckAnswer, not_a_type, off_sheet, above_demand, overlaps, first_place, tests, Found, nothing, found, or_else, first_refusal, Checked, refusal, not_parted, accepted}
use Rattle.rules.proofs.Bools.{and_both, both_and, or_false, both_false, not_false}
use Rattle.rules.proofs.Bags.{all_at, all_map, all_zip, all_image, image_all, count_map}
use Rattle.rules.proofs.Boxes.{apart_sym, of_apart}
use Rattle.rules.proofs.Sides.{parted_apart}
use Rattle.rules.proofs.Tally.{Typed}

-- a test that holds nowhere
pub data Clean (f : List Entry → Entry → Bool) : List Entry → List Entry → Type 0 where
  end : {es : List Entry} → Clean f es []
  next : {es : List Entry} {e : Entry} {l : List Entry} → f es e ≡ false → Clean f (e ∷ es) l → Clean f es (e ∷ l)

pub clean : (f : List Entry → Entry → Bool) (i : ℕ) (es l : List Entry) → first_place f i es l ≡ none → Clean f es l
clean f i es [] h = end
clean f i es (e ∷ l) h = go (f es e) refl (λ k. clean f (suc i) (e ∷ es) l k) h
  where
    go : (b : Bool) → f es e ≡ b → (first_place f (suc i) (e ∷ es) l ≡ none → Clean f (e ∷ es) l) → ◌≡◌ {A = Option ℕ} (elim b as (λ (b : Bool). Option ℕ) [ true ↦ some i | false ↦ first_place f (suc i) (e ∷ es) l ]) none → Clean f es (e ∷ l)
    go true p r h = absurd (let z : ◌≡◌ {A = ℕ} 0 1 = cc in omega arith)
    go false p r h = next p (r h)

pub clean_none : {f : List Entry → Entry → Bool} (i : ℕ) {es l : List Entry} → Clean f es l → first_place f i es l ≡ none
clean_none i end = refl
clean_none {f} i (next {es = es} {e = e} {l = l} p c) = rw (p, first_place) (clean_none (suc i) c)

or_nothing : (m : ℕ) (o : Option ℕ) (r : Found) → or_else m o r ≡ nothing → (o ≡ none) × (r ≡ nothing)
or_nothing m none r e = (refl, e)
or_nothing m (some i) r e = (cc, cc)

or_something : (m : ℕ) (o : Option ℕ) (r : Found) {number place : ℕ} → or_else m o r ≡ found number place → 0 < m → (r ≡ found number place → 0 < number) → 0 < number
or_something m none r e p k = k e
or_something m (some i) r {number} e p k = let z : m ≡ number = cc in omega arith

-- a refusal has a number
pub refusal_number : (n : Numbers) (l : List Entry) {number place : ℕ} → first_refusal (tests n) l ≡ found number place → 0 < number
refusal_number n l e =
    or_something 6 (first_place (not_a_type n) 0 [] l) _ e (omega arith) (λ f.
    or_something 7 (first_place (off_sheet n) 0 [] l) _ f (omega arith) (λ g.
    or_something 8 (first_place (above_demand n) 0 [] l) _ g (omega arith) (λ h.
    or_something 9 (first_place (overlaps n) 0 [] l) _ h (omega arith) (λ k. never k))))
  where
    never : {number place : ℕ} → nothing ≡ found number place → 0 < number
    never e = absurd (let z : ◌≡◌ {A = ℕ} 0 1 = cc in omega arith)

-- the types of a job
pub types_of : (n : Numbers) → types (job_of n) ≡ length n.types
types_of n = length-map n.types (λ p. p.demand)

pub profits_of : (n : Numbers) → length (job_of n).profits ≡ types (job_of n)
profits_of n = length-map n.types (λ p. p.profit) ∙ sym (types_of n)

typed_from : (k t : ℕ) (ps : List PieceType) → All (λ p. (t ≤ p.type) × (p.type < t + length ps)) (singles_from k t ps)
typed_from k t [] = nil
typed_from k t (p ∷ ps) = cons {x = grown k t p} (omega arith, omega arith) (all_map (λ q h. (omega (arith, h.0), omega (arith, h.1))) (typed_from k (suc t) ps))

pub job_typed : (n : Numbers) → All (λ p. Typed (job_of n) p.type) (job_of n).singles
job_typed n = all_map (λ p h. record { low = omega (arith, h.0); high = omega (arith, h.1, types_of n) }) (typed_from n.kerf 1 n.types)

single_at : (k t i : ℕ) (ps : List PieceType) → i < length ps → Memᴰ (grown k (t + i) (get_or ps i no_type)) (singles_from k t ps)
single_at k t i [] h = absurd (omega arith)
single_at k t zero (p ∷ ps) h = Memᴰ.head (let e : t + 0 ≡ t = omega arith in λ j. grown k (e j) p)
single_at k t (suc i) (p ∷ ps) h =
    let e : suc t + i ≡ t + suc i = omega arith in
    Memᴰ.tail (rw e at (single_at k (suc t) i ps (omega arith)))

-- an entry of a type of the job is one of its pieces, and nothing else is
pub of_job : (n : Numbers) (e : Entry) → Typed (job_of n) e.type → Of (job_of n) (placed n e)
of_job n e h = go e.type h.low h.high
  where
    go : (t : ℕ) → 0 < t → t ≤ types (job_of n) → Memᴰ (grown n.kerf t (of_type no_type n.types t)) (job_of n).singles
    go zero l h = absurd (omega arith)
    go (suc i) l h =
        let z : 1 + i ≡ suc i = omega arith in
        rw z at (single_at n.kerf 1 i n.types (omega (arith, types_of n)))

pub job_of_lem : (n : Numbers) (e : Entry) → Of (job_of n) (placed n e) → Typed (job_of n) e.type
job_of_lem n e m = all_at (job_typed n) m

-- 6
types_ok : (n : Numbers) {es l : List Entry} → Clean (not_a_type n) es l → All (λ e. Typed (job_of n) e.type) l
types_ok n end = nil
types_ok n (next {e = e} p c) =
    let q = or_false (eqb e.type 0) (ltb (length n.types) e.type) p in
    let z = eqb-false e.type 0 q.0 in
    cons {x = e} (record { low = positive e.type z; high = omega (arith, ltb-false (length n.types) e.type q.1, types_of n) }) (types_ok n c)
  where
    positive : (t : ℕ) → ¬ (t ≡ 0) → 0 < t
    positive zero h = absurd (h refl)
    positive (suc t) h = omega arith

ok_types : (n : Numbers) (es : List Entry) {l : List Entry} → All (λ e. Typed (job_of n) e.type) l → Clean (not_a_type n) es l
ok_types n es nil = end
ok_types n es (cons {x = e} r a) =
    next (both_false (ne_eqb e.type 0 (λ z. omega (arith, r.low, z))) (le-ltb (length n.types) e.type (omega (arith, r.high, types_of n)))) (ok_types n (e ∷ es) a)

-- 7
inside_ok : (n : Numbers) {es l : List Entry} → Clean (off_sheet n) es l → All (λ e. OnSheet (job_of n) (placed n e)) l
inside_ok n end = nil
inside_ok n (next {e = e} p c) =
    let b = (placed n e).box in
    let q = and_both (leb (far along b) (job_of n).long) (leb (far across b) (job_of n).wide) (not_false _ p) in
    cons {x = e} (record { left = omega arith; right = leb-true (far along b) (job_of n).long q.0; low = omega arith; high = leb-true (far across b) (job_of n).wide q.1 }) (inside_ok n c)

ok_inside : (n : Numbers) (es : List Entry) {l : List Entry} → All (λ e. OnSheet (job_of n) (placed n e)) l → Clean (off_sheet n) es l
ok_inside n es nil = end
ok_inside n es (cons {x = e} r a) = next (ap not (both_and (le-leb _ _ r.right) (le-leb _ _ r.high))) (ok_inside n (e ∷ es) a)

-- 8
abbrev is_type : ℕ → Entry → Bool
is_type t u = eqb u.type t

abbrev demand_of : Numbers → ℕ → ℕ
demand_of n t = (of_type no_type n.types t).demand

demand_ok : (n : Numbers) (t : ℕ) {es l : List Entry} → Clean (above_demand n) es l → count (is_type t) es ≤ demand_of n t → count (is_type t) es + count (is_type t) l ≤ demand_of n t
demand_ok n t end h = omega arith
demand_ok n t (next {es = es} {e = e} {l = l} p c) h = go (eqb e.type t) refl (demand_ok n t c)
  where
    go : (b : Bool) → eqb e.type t ≡ b → (tick b (count (is_type t) es) ≤ demand_of n t → tick b (count (is_type t) es) + count (is_type t) l ≤ demand_of n t) → count (is_type t) es + tick b (count (is_type t) l) ≤ demand_of n t
    go true q r =
        let s : count (is_type t) es < demand_of n t = subst (λ x. count (is_type x) es < demand_of n x) (eqb-true e.type t q) (leb-false _ _ p) in
        omega (arith, r s)
    go false q r = r h

ok_demand : (n : Numbers) (es l : List Entry) → ((t : ℕ) → 0 < count (is_type t) l → count (is_type t) es + count (is_type t) l ≤ demand_of n t) → Clean (above_demand n) es l
ok_demand n es [] h = end
ok_demand n es (e ∷ l) h = next (lt-leb _ _ here) (ok_demand n (e ∷ es) l later)
  where
    here : count (is_type e.type) es < demand_of n e.type
    here =
        let g : count (is_type e.type) (e ∷ l) ≡ suc (count (is_type e.type) l) = rw (eq-eqb e.type e.type refl) in
        omega (arith, g, h e.type (omega (arith, g)))

    shift : (t : ℕ) (b : Bool) → 0 < count (is_type t) l → (0 < tick b (count (is_type t) l) → count (is_type t) es + tick b (count (is_type t) l) ≤ demand_of n t) → tick b (count (is_type t) es) + count (is_type t) l ≤ demand_of n t
    shift t true z r = omega (arith, r (omega arith))
    shift t false z r = r z

    later : (t : ℕ) → 0 < count (is_type t) l → count (is_type t) (e ∷ es) + count (is_type t) l ≤ demand_of n t
    later t z = shift t (eqb e.type t) z (h t)

-- counts of a table are at most a list, and the other way round
pub at_most_of : (ds : List ℕ) (f : ℕ → ℕ) → ((i : ℕ) → i < length ds → f (suc i) ≤ get_or ds i 0) → AtMost (table (length ds) f) ds
at_most_of [] f h = tt
at_most_of (d ∷ ds) f h = (h 0 (omega arith), at_most_of ds (λ t. f (suc t)) (λ i l. h (suc i) (omega arith)))

pub at_most_at : (ds : List ℕ) (f : ℕ → ℕ) → AtMost (table (length ds) f) ds → (i : ℕ) → i < length ds → f (suc i) ≤ get_or ds i 0
at_most_at [] f h i l = absurd (omega arith)
at_most_at (d ∷ ds) f h zero l = h.0
at_most_at (d ∷ ds) f h (suc i) l = at_most_at ds (λ t. f (suc t)) h.1 i (omega arith)

demand_at : (n : Numbers) (i : ℕ) → get_or (job_of n).demands i 0 ≡ demand_of n (suc i)
demand_at n i = get_or-map (λ p. p.demand) n.types i no_type

some_typed : (n : Numbers) (t : ℕ) {l : List Entry} → All (λ e. Typed (job_of n) e.type) l → 0 < count (is_type t) l → Typed (job_of n) t
some_typed n t nil h = absurd (omega arith)
some_typed n t (cons {x = e} {xs = l} k a) h = go (eqb e.type t) refl (some_typed n t a) h
  where
    go : (b : Bool) → eqb e.type t ≡ b → (0 < count (is_type t) l → Typed (job_of n) t) → 0 < tick b (count (is_type t) l) → Typed (job_of n) t
    go true q r h = subst (Typed (job_of n)) (eqb-true e.type t q) k
    go false q r h = r h

keeps_demand : (n : Numbers) (l : List Entry) → Clean (above_demand n) [] l → AtMost (table (types (job_of n)) (λ t. count (λ p. eqb p.type t) (lying n l))) (job_of n).demands
keeps_demand n l c = at_most_of (job_of n).demands (λ t. count (λ p. eqb p.type t) (lying n l))
    (λ i h. omega (arith, count_map (placed n) (λ p. eqb p.type (suc i)) l, demand_ok n (suc i) c (omega arith), demand_at n i))

demand_kept : (n : Numbers) (l : List Entry) → All (λ e. Typed (job_of n) e.type) l → AtMost (table (types (job_of n)) (λ t. count (λ p. eqb p.type t) (lying n l))) (job_of n).demands → Clean (above_demand n) [] l
demand_kept n l a d = ok_demand n [] l (λ t z. go t (some_typed n t a z))
  where
    go : (t : ℕ) → Typed (job_of n) t → count (is_type t) [] + count (is_type t) l ≤ demand_of n t
    go zero k = absurd (omega (arith, k.low))
    go (suc i) k = omega (arith, at_most_at (job_of n).demands (λ t. count (λ p. eqb p.type t) (lying n l)) d i (omega (arith, k.high)), count_map (placed n) (λ p. eqb p.type (suc i)) l, demand_at n i)

-- 9
ok_apart : (n : Numbers) (es l : List Entry) → All (λ e. All (λ u. Apart (placed n e).box (placed n u).box) es) l → Disjoint (boxes (lying n l)) → Clean (overlaps n) es l
ok_apart n es [] a d = end
ok_apart n es (e ∷ l) (cons h a) (more k d) =
    next (le-ltb _ _ (none_over es h)) (ok_apart n (e ∷ es) l (all_map (λ u x. cons {x = e} (apart_sym (placed n e).box (placed n u).box x.1) x.0) (all_zip a (image_all (placed n) l (image_all (λ p. p.box) (lying n l) k)))) d)
  where
    none_over : (us : List Entry) → All (λ u. Apart (placed n e).box (placed n u).box) us → count (λ u. overlap (placed n u).box (placed n e).box) us ≤ 0
    none_over [] nil = omega arith
    none_over (u ∷ us) (cons x b) = rw (of_apart (placed n u).box (placed n e).box x) (none_over us b)

-- together
pub tests_pass : (n : Numbers) (l : List Entry) → first_refusal (tests n) l ≡ nothing → CanBeParted (boxes (lying n l)) → Accepted (job_of n) (lying n l)
tests_pass n l e p =
    let a = or_nothing 6 (first_place (not_a_type n) 0 [] l) _ e in
    let b = or_nothing 7 (first_place (off_sheet n) 0 [] l) _ a.1 in
    let c = or_nothing 8 (first_place (above_demand n) 0 [] l) _ b.1 in
    record {
      known = all_image (placed n) (all_map (λ e h. of_job n e h) (types_ok n (clean (not_a_type n) 0 [] l a.0)));
      inside = all_image (placed n) (inside_ok n (clean (off_sheet n) 0 [] l b.0));
      demand = keeps_demand n l (clean (above_demand n) 0 [] l c.0);
      parted = p;
    }

pub accepted_passes : (n : Numbers) (l : List Entry) → Accepted (job_of n) (lying n l) → first_refusal (tests n) l ≡ nothing
accepted_passes n l a =
    let t = all_map (λ e h. job_of_lem n e h) (image_all (placed n) l a.known) in
    rw (clean_none 0 (ok_types n [] t), clean_none 0 (ok_inside n [] (image_all (placed n) l a.inside)), clean_none 0 (demand_kept n l t a.demand), clean_none 0 (ok_apart n [] l (none_yet l) (parted_apart a.parted)))
  where
    none_yet : (l : List Entry) → All (λ e. All (λ u. Apart (placed n e).box (placed n u).box) []) l
    none_yet [] = nil
    none_yet (e ∷ l) = cons {x = e} nil (none_yet l)

-- "The checker accepts it exactly if the pieces keep to the job's sheet and demands and some sequence of through cuts parts them all."
pub accepts_exactly : (n : Numbers) (l : List Entry) (a : CheckAnswer) → Checked n l a → (a.number ≡ 0) ↔ Accepted (job_of n) (lying n l)
accepts_exactly n l a (refusal {number = m} {place = i} e) = (
  (λ z. absurd (omega (arith, refusal_number n l e, z))),
  (λ h. absurd (never (sym (accepted_passes n l h) ∙ e))),
)
  where
    never : {m i : ℕ} → nothing ≡ found m i → ⊥
    never e = let z : ◌≡◌ {A = ℕ} 0 1 = cc in omega arith
accepts_exactly n l a (not_parted e p) = ((λ z. absurd (omega (arith, z))), (λ h. absurd (p h.parted)))
accepts_exactly n l a (accepted e p) = ((λ z. tests_pass n l e p), (λ h. refl))

-- what tests 6, 7 and 8 show, each by itself, where they find nothing
pub types_kept : (n : Numbers) (l : List Entry) → first_place (not_a_type n) 0 [] l ≡ none → All (λ e. Typed (job_of n) e.type) l
types_kept n l e = types_ok n (clean (not_a_type n) 0 [] l e)

pub sheet_kept : (n : Numbers) (l : List Entry) → first_place (off_sheet n) 0 [] l ≡ none → All (λ e. OnSheet (job_of n) (placed n e)) l
sheet_kept n l e = inside_ok n (clean (off_sheet n) 0 [] l e)

pub demands_kept : (n : Numbers) (l : List Entry) → first_place (above_demand n) 0 [] l ≡ none → AtMost (counts_of (job_of n) (lying n l)) (job_of n).demands
demands_kept n l e = keeps_demand n l (clean (above_demand n) 0 [] l e)
