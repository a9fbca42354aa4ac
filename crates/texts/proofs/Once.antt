-- There is one answer to a text, and every byte and number that a reader leaves is determined by it. Assumes nothing.
use mathlib.Core.Path.{◌≡◌, refl, sym, ap, ◌∙◌}
use mathlib.Core.List.{List, [], ◌∷◌, ◌++◌, map, head-eq_of_cons-eq, tail-eq_of_cons-eq}
use Prim.Native.Nat.{ℕ, zero, suc}
use native.Mathlib.Omega.{arith}
use lib.ListN.{length, take, drop, take-append-drop}
use Rattle.rules.specs.Items.{type_items}
use Rattle.rules.proofs.Answers.{read_once}
use Rattle.shapes.specs.Handed.{type_of, items_of}
use Rattle.shapes.specs.declared.PieceType.{PieceType}
use Rattle.shapes.specs.declared.Job.{Job}
use Rattle.reading.specs.Pieces.{no_types}
use Rattle.reading.specs.Placements.{numbers_of_placements}
use Rattle.texts.specs.Told.{JobAnswer, JobOf, JobRead}
use Rattle.texts.specs.Plan.{PlanTextLeft, PlanOf, kept, short, PlanRead}

-- types that have the same items are the same
same_types : (n : ℕ) (ts us : List PieceType) → length ts ≡ length us → type_items (take n (map type_of ts)) ≡ type_items (take n (map type_of us)) → take n ts ≡ take n us
same_types zero ts us l e = refl
same_types (suc n) [] [] l e = refl
same_types (suc n) [] (u ∷ us) l e = absurd (omega arith)
same_types (suc n) (t ∷ ts) [] l e = absurd (omega arith)
same_types (suc n) (t ∷ ts) (u ∷ us) l e =
    let e₁ = tail-eq_of_cons-eq e in
    let e₂ = tail-eq_of_cons-eq e₁ in
    let e₃ = tail-eq_of_cons-eq e₂ in
    let r = same_types n ts us (omega arith) (tail-eq_of_cons-eq e₃) in
    λ i. record { length = head-eq_of_cons-eq e i; width = head-eq_of_cons-eq e₁ i; profit = head-eq_of_cons-eq e₂ i; demand = head-eq_of_cons-eq e₃ i } ∷ r i

-- a job is its items, and no types past them
pub same_job : (j k : Job) → length j.types ≡ length k.types → drop j.count j.types ≡ drop j.count no_types → drop k.count k.types ≡ drop k.count no_types → items_of j ≡ items_of k → j ≡ k
same_job j k l d f e =
    let e₁ = tail-eq_of_cons-eq e in
    let e₂ = tail-eq_of_cons-eq e₁ in
    let e₃ = tail-eq_of_cons-eq e₂ in
    let e₄ = tail-eq_of_cons-eq e₃ in
    let c : j.count ≡ k.count = head-eq_of_cons-eq e₄ in
    let items : type_items (take j.count (map type_of j.types)) ≡ type_items (take j.count (map type_of k.types)) = tail-eq_of_cons-eq e₄ ∙ ap (λ n. type_items (take n (map type_of k.types))) (sym c) in
    let front = same_types j.count j.types k.types l items in
    let back : drop j.count j.types ≡ drop j.count k.types = d ∙ ap (λ n. drop n no_types) c ∙ sym f ∙ ap (λ n. drop n k.types) (sym c) in
    let t : j.types ≡ k.types = sym (take-append-drop j.count j.types) ∙ (λ i. front i ++ back i) ∙ take-append-drop j.count k.types in
    λ i. record { length = head-eq_of_cons-eq e₁ i; width = head-eq_of_cons-eq e₂ i; kerf = head-eq_of_cons-eq e₃ i; count = c i; types = t i }

job_of_once : (vs : List ℕ) (a b : JobAnswer) → JobOf vs a → JobOf vs b → a ≡ b
job_of_once vs a b p q =
    let n : a.number ≡ b.number = p.number ∙ sym q.number in
    let k : a.place ≡ b.place = p.place ∙ sym q.place in
    let j : a.job ≡ b.job = same_job a.job b.job (p.size ∙ sym q.size) p.others q.others (p.items ∙ sym q.items) in
    λ i. record { number = n i; place = k i; job = j i }

pub job_read_once : {t : List ℕ} {a b : JobAnswer} → JobRead t a → JobRead t b → a ≡ b
job_read_once x y = read_once (λ a b. a ≡ b) (λ a. refl) job_of_once x y

-- lists in two parts of the same lengths
same_parts : (a b c d : List ℕ) → length a ≡ length c → a ++ b ≡ c ++ d → (a ≡ c) × (b ≡ d)
same_parts [] b [] d l e = (refl, e)
same_parts [] b (y ∷ c) d l e = absurd (omega arith)
same_parts (x ∷ a) b [] d l e = absurd (omega arith)
same_parts (x ∷ a) b (y ∷ c) d l e =
    let r = same_parts a b c d (omega arith) (tail-eq_of_cons-eq e) in
    let h = head-eq_of_cons-eq e in
    ((λ i. h i ∷ r.0 i), r.1)

length_of_items : (n : ℕ) (ts us : List PieceType) → length ts ≡ length us → length (type_items (take n (map type_of ts))) ≡ length (type_items (take n (map type_of us)))
length_of_items zero ts us l = refl
length_of_items (suc n) [] [] l = refl
length_of_items (suc n) [] (u ∷ us) l = absurd (omega arith)
length_of_items (suc n) (t ∷ ts) [] l = absurd (omega arith)
length_of_items (suc n) (t ∷ ts) (u ∷ us) l = omega (arith, length_of_items n ts us (omega arith))

-- the items of two plan texts that agree: the jobs' and those behind them
split_items : (j k : Job) → length j.types ≡ length k.types → (vs ws : List ℕ) → items_of j ++ vs ≡ items_of k ++ ws → (items_of j ≡ items_of k) × (vs ≡ ws)
split_items j k l vs ws e =
    let e₁ = tail-eq_of_cons-eq e in
    let e₂ = tail-eq_of_cons-eq e₁ in
    let e₃ = tail-eq_of_cons-eq e₂ in
    let e₄ = tail-eq_of_cons-eq e₃ in
    let c : j.count ≡ k.count = head-eq_of_cons-eq e₄ in
    let n : length (items_of j) ≡ length (items_of k) = omega (arith, length_of_items j.count j.types k.types l, ap (λ n. length (type_items (take n (map type_of k.types)))) c) in
    same_parts (items_of j) vs (items_of k) ws n e

plan_of_once : {buffer : List ℕ} (vs : List ℕ) (a b : PlanTextLeft) → PlanOf buffer vs a → PlanOf buffer vs b → a ≡ b
plan_of_once {buffer} vs a b (kept {job = j} {n = n} {now = l} e s d h z r) (kept {job = k} {n = m} {now = u} f t g i y q) =
    let p = split_items j k (s ∙ sym t) (n ∷ take (numbers_of_placements n) l) (m ∷ take (numbers_of_placements m) u) (sym e ∙ f) in
    let c : n ≡ m = head-eq_of_cons-eq p.1 in
    let job : j ≡ k = same_job j k (s ∙ sym t) d g p.0 in
    let front : take (numbers_of_placements n) l ≡ take (numbers_of_placements n) u = tail-eq_of_cons-eq p.1 ∙ ap (λ x. take (numbers_of_placements x) u) (sym c) in
    let back : drop (numbers_of_placements n) l ≡ drop (numbers_of_placements n) u = r ∙ ap (λ x. drop (numbers_of_placements x) buffer) c ∙ sym q ∙ ap (λ x. drop (numbers_of_placements x) u) (sym c) in
    let now : l ≡ u = sym (take-append-drop (numbers_of_placements n) l) ∙ (λ x. front x ++ back x) ∙ take-append-drop (numbers_of_placements n) u in
    λ x. record { number = 0; place = 0; job = job x; placements = c x; buffer = now x }
plan_of_once vs a b (kept {job = j} {n = n} e s d h z r) (short k m flat f t g i) =
    let p = split_items j k (s ∙ sym t) _ _ (sym e ∙ f) in
    let c : n ≡ m = head-eq_of_cons-eq p.1 in absurd (omega arith)
plan_of_once vs a b (short k m flat f t g i) (kept {job = j} {n = n} e s d h z r) =
    let p = split_items j k (s ∙ sym t) _ _ (sym e ∙ f) in
    let c : n ≡ m = head-eq_of_cons-eq p.1 in absurd (omega arith)
plan_of_once vs a b (short j n flat e s g h) (short k m flat' f t g' i) = refl

pub plan_read_once : {buffer t : List ℕ} {a b : PlanTextLeft} → PlanRead buffer t a → PlanRead buffer t b → a ≡ b
plan_read_once x y = read_once (λ a b. a ≡ b) (λ a. refl) plan_of_once x y
