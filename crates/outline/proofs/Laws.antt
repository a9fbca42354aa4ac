-- Laws of counts, of a job's types, of its least sizes, and of one piece's counts. Assumes nothing.
use mathlib.Core.Path.{◌≡◌, refl, sym, ap, ◌∙◌, subst}
use mathlib.Core.Logic.{◌⊎◌, inl, inr}
use mathlib.Core.List.Memᴰ
use mathlib.Core.List.{List, [], ◌∷◌, map, Memᴰ}
use Prim.Native.Nat.{ℕ, zero, suc, ◌+◌, ◌%◌, ◌≤◌, ◌<◌}
use native.Mathlib.Omega.{arith}
use native.Mathlib.Decide.{ℕ_discrete}
use lib.Dec.{eqb}
use lib.ListN.{length, get_or, take, set, replicate, length-set, length-map, length-replicate, get_or-replicate, get_or-map}
use lib.Seq.{ext_get_or, get_or-take, get_or-set_same, get_or-set_other, length-take-le}
use borrow.Author.Tests.{eq-eqb, ne_eqb}
use Rattle.rules.specs.Limits.{types_most, demand_most}
use Rattle.rules.specs.Bag.{tick, All, nil, cons}
use Rattle.rules.specs.Box.{Way, along, across}
use Rattle.rules.specs.Job.{AtMost, Piece, plus, table, types, alone}
use Rattle.rules.specs.Numbers.{PieceType, no_type, grown, singles_from}
use Rattle.rules.proofs.Tally.{length_table}
use Rattle.rules.proofs.Least.{Least, size_by}
use Rattle.rules.proofs.Ranges.{TypeInRange}
use Rattle.shapes.specs.declared.Job.{Job}
use Rattle.shapes.specs.declared.PieceType as shapes
use Rattle.shapes.specs.Handed.{type_of, numbers_of, JobInRange}
use Rattle.outline.specs.declared.Least as code
use Rattle.outline.specs.Stands.{job_for, piece_at, Few, sums, Alone, LeastOf, least_by}

-- counts added in bytes
pub length_sums : (a b : List ℕ) → length a ≡ length b → length (sums a b) ≡ length a
length_sums [] b h = refl
length_sums (x ∷ a) [] h = absurd (omega arith)
length_sums (x ∷ a) (y ∷ b) h = ap suc (length_sums a b (omega arith))

pub get_or_sums : (a b : List ℕ) → length a ≡ length b → (k : ℕ) → k < length a → get_or (sums a b) k 0 ≡ (get_or a k 0 + get_or b k 0) % 256
get_or_sums [] b h k l = absurd (omega arith)
get_or_sums (x ∷ a) [] h k l = absurd (omega arith)
get_or_sums (x ∷ a) (y ∷ b) h zero l = refl
get_or_sums (x ∷ a) (y ∷ b) h (suc k) l = get_or_sums a b (omega arith) k (omega arith)

pub take_sums : (n : ℕ) (a b : List ℕ) → Few n a → Few n b → take n (sums a b) ≡ plus (take n a) (take n b)
take_sums zero a b p q = refl
take_sums (suc n) [] b p q = refl
take_sums (suc n) (x ∷ a) [] p q = refl
take_sums (suc n) (x ∷ a) (y ∷ b) (cons p ps) (cons q qs) = let e : (x + y) % 256 ≡ x + y = omega arith in λ i. e i ∷ take_sums n a b ps qs i

-- counts that keep to demands are few
pub at_most_few : (c ds : List ℕ) → AtMost c ds → All (λ x. x ≤ demand_most) ds → All (λ x. x ≤ demand_most) c
at_most_few [] ds h a = nil
at_most_few (c ∷ cs) [] h a = absurd h
at_most_few (c ∷ cs) (d ∷ ds) h (cons p a) = cons {x = c} (omega (arith, h.0)) (at_most_few cs ds h.1 a)

pub get_or_table : (n : ℕ) (f : ℕ → ℕ) (i : ℕ) → i < n → get_or (table n f) i 0 ≡ f (suc i)
get_or_table zero f i h = absurd (omega arith)
get_or_table (suc n) f zero h = refl
get_or_table (suc n) f (suc i) h = get_or_table n (λ t. f (suc t)) i (omega arith)

-- one piece of type t, counted from 0
unit_at : (n t : ℕ) → t < length (replicate {A = ℕ} n 0) → (k : ℕ) → k < n → get_or (set (replicate n 0) t 1) k 0 ≡ tick (eqb (suc t) (suc k)) 0
unit_at n t h k l = go (ℕ_discrete k t)
  where
    go : Dec (k ≡ t) → get_or (set (replicate n 0) t 1) k 0 ≡ tick (eqb (suc t) (suc k)) 0
    go (yes e) = subst (λ u. get_or (set (replicate n 0) t 1) u 0 ≡ tick (eqb (suc t) (suc u)) 0) (sym e) (get_or-set_same (replicate n 0) t 1 0 h ∙ ap (λ b. tick b 0) (sym (eq-eqb (suc t) (suc t) refl)))
    go (no e) = get_or-set_other (replicate n 0) t k 1 0 e ∙ get_or-replicate n k 0 0 l ∙ ap (λ b. tick b 0) (sym (ne_eqb (suc t) (suc k) (λ p. e (omega arith))))

pub unit_counts : (m n t : ℕ) → t < m → n ≤ m → take n (set (replicate m 0) t 1) ≡ table n (λ u. tick (eqb (suc t) u) 0)
unit_counts m n t h l =
    let lm = length-replicate {A = ℕ} m 0 in
    let ls = length-set {A = ℕ} (replicate m 0) t 1 in
    let e : length (take n (set (replicate {A = ℕ} m 0) t 1)) ≡ n = length-take-le n (set (replicate m 0) t 1) (omega arith) in
    ext_get_or 0 _ _ (e ∙ sym (length_table n _)) (λ k hk. get_or-take n (set (replicate m 0) t 1) k 0 (omega arith) ∙ unit_at m t (omega arith) k (omega arith) ∙ sym (get_or_table n _ k (omega arith)))

-- a job's types as the code reads them
abbrev pub no_piece : shapes.PieceType
no_piece = record { length = 0; width = 0; profit = 0; demand = 0 }

module _ (job : Job) (r : JobInRange job) where
  pub count_types : length (numbers_of job).types ≡ job.count
  count_types = length-take-le job.count (map type_of job.types) (omega (arith, r.count, r.types, length-map job.types type_of))

  pub types_count : types (job_for job) ≡ job.count
  types_count = length-map (numbers_of job).types (λ p. p.demand) ∙ count_types

  pub length_profits : length (job_for job).profits ≡ job.count
  length_profits = length-map (numbers_of job).types (λ p. p.profit) ∙ count_types

  module _ (i : ℕ) (h : i < job.count) where
    pub type_at : get_or (numbers_of job).types i no_type ≡ type_of (get_or job.types i no_piece)
    type_at = get_or-take job.count (map type_of job.types) i no_type h ∙ get_or-map type_of job.types i no_piece

    pub type_in_range : TypeInRange (type_of (get_or job.types i no_piece))
    type_in_range = subst TypeInRange type_at (at (numbers_of job).types i (omega (arith, count_types)) r.numbers.types)
      where
        at : (l : List PieceType) (i : ℕ) → i < length l → All TypeInRange l → TypeInRange (get_or l i no_type)
        at [] i h a = absurd (omega arith)
        at (p ∷ l) zero h (cons q a) = q
        at (p ∷ l) (suc i) h (cons q a) = at l i (omega arith) a

    pub demand_at : get_or (job_for job).demands i 0 ≡ (get_or job.types i no_piece).demand
    demand_at = get_or-map (λ (p : PieceType). p.demand) (numbers_of job).types i no_type ∙ ap (λ (p : PieceType). p.demand) type_at

    pub profit_at : get_or (job_for job).profits i 0 ≡ (get_or job.types i no_piece).profit
    profit_at = get_or-map (λ (p : PieceType). p.profit) (numbers_of job).types i no_type ∙ ap (λ (p : PieceType). p.profit) type_at

  -- what fits the job has few of each type
  pub fits_few : (c : List ℕ) → AtMost c (job_for job).demands → All (λ x. x ≤ demand_most) c
  fits_few c h = at_most_few c (job_for job).demands h (demands (numbers_of job).types r.numbers.types)
    where
      demands : (l : List PieceType) → All TypeInRange l → All (λ x. x ≤ demand_most) (map (λ (p : PieceType). p.demand) l)
      demands [] a = nil
      demands (p ∷ l) (cons q a) = cons {x = p.demand} q.demand.high (demands l a)

-- the pieces of a job are those of its types
singles_index : (k t : ℕ) (ps : List PieceType) {s : Piece} → Memᴰ s (singles_from k t ps) → (i : ℕ) × (i < length ps) × (s ≡ grown k (t + i) (get_or ps i no_type))
singles_index k t [] m = absurd (Memᴰ.not-nil m)
singles_index k t (p ∷ ps) {s} m = go (singles_index k (suc t) ps) (Memᴰ.cases_cons m)
  where
    go : (Memᴰ s (singles_from k (suc t) ps) → (i : ℕ) × (i < length ps) × (s ≡ grown k (suc t + i) (get_or ps i no_type))) → (s ≡ grown k t p) ⊎ Memᴰ s (singles_from k (suc t) ps) → (i : ℕ) × (i < length (p ∷ ps)) × (s ≡ grown k (t + i) (get_or (p ∷ ps) i no_type))
    go r (inl e) = (0, omega arith, e ∙ (let z : t ≡ t + 0 = omega arith in λ j. grown k (z j) p))
    go r (inr n) =
        let q = r n in
        let z : suc t + q.0 ≡ t + suc q.0 = omega arith in
        (suc q.0, omega (arith, q.1), q.2 ∙ (λ j. grown k (z j) (get_or ps q.0 no_type)))

pub single_at : (job : Job) → JobInRange job → {p : Piece} → Memᴰ p (job_for job).singles → (t : ℕ) × (t < job.count) × (p ≡ piece_at job t)
single_at job r m =
    let q = singles_index job.kerf 1 (numbers_of job).types m in
    let z : 1 + q.0 ≡ suc q.0 = omega arith in
    (q.0, omega (arith, q.1, count_types job r), q.2 ∙ (λ j. grown job.kerf (z j) (get_or (numbers_of job).types q.0 no_type)))

-- the least sizes bound those of each piece
pub least_of : (job : Job) → JobInRange job → (w : Way) (r : code.Least) → LeastOf job r → Least (job_for job) w (least_by w r)
least_of job range w r l = record { each = λ p m. go w p (single_at job range m) }
  where
    go : (w : Way) (p : Piece) → (t : ℕ) × (t < job.count) × (p ≡ piece_at job t) → least_by w r ≤ size_by w (alone (job_for job) p)
    go along p q = omega (arith, l.long q.0 q.1, ap (λ (u : Piece). u.long) q.2)
    go across p q = omega (arith, l.wide q.0 q.1, ap (λ (u : Piece). u.wide) q.2)

-- one piece of type t as the code makes it
pub alone_of : (job : Job) → JobInRange job → (t : ℕ) → t < job.count → (l w : ℕ) → l ≡ (get_or job.types t no_piece).length + job.kerf → w ≡ (get_or job.types t no_piece).width + job.kerf → Alone job t (record { length = record { 0 = l }; width = record { 0 = w }; counts = set (replicate types_most 0) t 1 })
alone_of job r t h l w p q =
    let e = type_at job r t h in
    let cl : l ≡ (piece_at job t).long = p ∙ ap (λ (u : PieceType). u.long + job.kerf) (sym e) in
    let cw : w ≡ (piece_at job t).wide = q ∙ ap (λ (u : PieceType). u.wide + job.kerf) (sym e) in
    let cc : take job.count (set (replicate types_most 0) t 1) ≡ table (types (job_for job)) (λ u. tick (eqb (suc t) u) 0) = unit_counts types_most job.count t (omega (arith, r.count)) r.count ∙ ap (λ n. table n (λ u. tick (eqb (suc t) u) 0)) (sym (types_count job r)) in
    record { alone = λ i. record { long = cl i; wide = cw i; counts = cc i } }
