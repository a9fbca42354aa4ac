-- A plan of a build as numbers: its placements as entries, put in order, and flat. So every outline's plan can be written. Assumes nothing.
use mathlib.Core.Path.{◌≡◌, refl, sym, ap, ◌∙◌, subst}
use mathlib.Core.Bool.{Bool, true, false}
use mathlib.Core.Logic.{◌⊎◌, inl, inr}
use mathlib.Core.List.Memᴰ
use mathlib.Core.List.{List, [], ◌∷◌, ◌++◌, map, Memᴰ}
use Prim.Native.Nat.{ℕ, suc, ◌+◌, ◌*◌, ◌≤◌, ◌<◌}
use native.Mathlib.Omega.{arith}
use native.Mathlib.Decide.{dec_lt, dec_le}
use lib.ListN.{length, get_or, drop, length-append, length-map, length-drop}
use lib.Seq.{take_at, drop_at}
use Rattle.rules.specs.Limits.{placement_numbers}
use Rattle.rules.specs.Bag.{tick, sum, count, All, nil, cons, Same}
use Rattle.rules.specs.Job.{Piece, Outline, Build, pieces}
use Rattle.rules.specs.Placed.{Placed, put, Of, of_type}
use Rattle.rules.specs.Numbers.{Numbers, PieceType, no_type, grown, singles_from, job_of, Entry, entries, placed, lying}
use Rattle.rules.specs.Planner.{NotBehind, InOrder, none, last, next, PlanFor, numbers_for, Written}
use Rattle.rules.proofs.Bags.{all_at, all_map, same_map}
use Rattle.rules.proofs.Tally.{Typed, counts_same, pieces_counts}
use Rattle.rules.proofs.Lay.{Laid, laid, lay, laid_accepted}
use Rattle.rules.proofs.Reorder.{all_placed, accepted_same}
use Rattle.rules.proofs.Accept.{job_typed}
use Rattle.rules.proofs.Ranges.{InRange, positive}

-- the entry of a placed piece
abbrev pub entry_of : Placed → Entry
entry_of p = record { type = p.type; x = p.box.x; y = p.box.y }

-- a job's pieces are its types, grown
from_singles : (k t : ℕ) (ps : List PieceType) {s : Piece} → Memᴰ s (singles_from k t ps) → (i : ℕ) × (s ≡ grown k (t + i) (get_or ps i no_type))
from_singles k t [] m = absurd (Memᴰ.not-nil m)
from_singles k t (p ∷ ps) {s} m = go (from_singles k (suc t) ps) (Memᴰ.cases_cons m)
  where
    go : (Memᴰ s (singles_from k (suc t) ps) → (i : ℕ) × (s ≡ grown k (suc t + i) (get_or ps i no_type))) → (s ≡ grown k t p) ⊎ Memᴰ s (singles_from k (suc t) ps) → (i : ℕ) × (s ≡ grown k (t + i) (get_or (p ∷ ps) i no_type))
    go r (inl e) = (0, e ∙ (let z : t ≡ t + 0 = omega arith in λ j. grown k (z j) p))
    go r (inr n) =
        let q = r n in
        let z : suc t + q.0 ≡ t + suc q.0 = omega arith in
        (suc q.0, q.1 ∙ (λ j. grown k (z j) (get_or ps q.0 no_type)))

-- a piece of the job that is placed is what its entry stands for
pub placed_entry : (n : Numbers) (p : Placed) → Of (job_of n) p → placed n (entry_of p) ≡ p
placed_entry n p m =
    let f = from_singles n.kerf 1 n.types m in
    let z : 1 + f.0 ≡ suc f.0 = omega arith in
    let s : record { type = p.type; long = p.box.long; wide = p.box.wide } ≡ grown n.kerf (suc f.0) (get_or n.types f.0 no_type) = f.1 ∙ (λ j. grown n.kerf (z j) (get_or n.types f.0 no_type)) in
    let t : p.type ≡ suc f.0 = ap (λ (q : Piece). q.type) s in
    ap (λ q. put q p.box.x p.box.y) (ap (λ t. grown n.kerf t (of_type no_type n.types t)) t ∙ sym s)

pub lying_entries : (n : Numbers) {ps : List Placed} → All (Of (job_of n)) ps → lying n (map entry_of ps) ≡ ps
lying_entries n nil = refl
lying_entries n (cons {x = p} m a) = λ i. placed_entry n p m i ∷ lying_entries n a i

-- putting entries in order
order : (e u : Entry) → NotBehind e u ⊎ NotBehind u e
order e u = go (dec_lt e.y u.y) (dec_lt u.y e.y) (dec_le e.x u.x)
  where
    go : Dec (e.y < u.y) → Dec (u.y < e.y) → Dec (e.x ≤ u.x) → NotBehind e u ⊎ NotBehind u e
    go (yes p) q r = inl (inl p)
    go (no p) (yes q) r = inr (inl q)
    go (no p) (no q) (yes r) = inl (inr (omega arith, r))
    go (no p) (no q) (no r) = inr (inr (omega arith, omega arith))

-- a list in order with one entry more, which goes in front or behind the first
pub record Inserted (e : Entry) (l : List Entry) : Type 0 where
  pub list : List Entry
  pub same : Same list (e ∷ l)
  pub ordered : InOrder list
  pub front : (u : Entry) → NotBehind u e → InOrder (u ∷ l) → InOrder (u ∷ list)

insert : (e : Entry) (l : List Entry) → InOrder l → Inserted e l
insert e [] o = record { list = e ∷ []; same = λ f. refl; ordered = last; front = λ u h k. next h last }
insert e (v ∷ l) o = go (order e v) (insert e l (tail o)) o
  where
    tail : {v : Entry} {l : List Entry} → InOrder (v ∷ l) → InOrder l
    tail last = none
    tail (next h k) = k

    first : {u v : Entry} {l : List Entry} → InOrder (u ∷ v ∷ l) → NotBehind u v
    first (next h k) = h

    swap : (a b : Bool) (n : ℕ) → tick a (tick b n) ≡ tick b (tick a n)
    swap true true n = refl
    swap true false n = refl
    swap false b n = refl

    go : NotBehind e v ⊎ NotBehind v e → Inserted e l → InOrder (v ∷ l) → Inserted e (v ∷ l)
    go (inl h) r o = record { list = e ∷ v ∷ l; same = λ f. refl; ordered = next h o; front = λ u k p. next k (next h o) }
    go (inr h) r o = record {
      list = v ∷ r.list;
      same = λ f. ap (tick (f v)) (r.same f) ∙ swap (f v) (f e) (count f l);
      ordered = r.front v h o;
      front = λ u k p. next (first p) (r.front v h o);
    }

pub record Sorted (l : List Entry) : Type 0 where
  pub list : List Entry
  pub same : Same list l
  pub ordered : InOrder list

pub sort : (l : List Entry) → Sorted l
sort [] = record { list = []; same = λ f. refl; ordered = none }
sort (e ∷ l) =
    let r = sort l in
    let i = insert e r.list r.ordered in
    record { list = i.list; same = λ f. i.same f ∙ ap (tick (f e)) (r.same f); ordered = i.ordered }

-- entries as flat numbers
abbrev pub flat : List Entry → List ℕ
flat [] = []
flat (e ∷ l) = e.type ∷ e.x ∷ e.y ∷ flat l

pub entries_flat : (l : List Entry) → entries (flat l) ≡ l
entries_flat [] = refl
entries_flat (e ∷ l) = ap {B = List Entry} (λ r. e ∷ r) (entries_flat l)

pub length-flat : (l : List Entry) → length (flat l) ≡ placement_numbers * length l
length-flat [] = refl
length-flat (e ∷ l) = omega (arith, length-flat l)

-- what a build lays out at (0, 0), as entries in any order, is a plan of its outline
pub plan_for : {n : Numbers} {o : Outline} → Build (job_of n) o → {ps : List Placed} → Laid (job_of n) o 0 0 ps → (l : List Entry) → Same (lying n l) ps → InOrder l → PlanFor n o l
plan_for {n} {o} d {ps} p l s k = record {
  accepted = accepted_same (lying n l) s (laid_accepted d p);
  counts = counts_same (job_of n) (lying n l) ps s ∙ p.counts;
  inside = all_placed (lying n l) s (all_map (λ q h. record { left = omega arith; right = omega (arith, h.inside.right); low = omega arith; high = omega (arith, h.inside.high) }) p.known);
  ordered = k;
}

-- a plan has the pieces of its outline
pub plan_pieces : {n : Numbers} {o : Outline} {l : List Entry} → PlanFor n o l → length l ≡ pieces o
plan_pieces {n} {o} {l} p = sym (length-map l (placed n)) ∙ sym (pieces_counts (typed p.accepted.known)) ∙ ap sum p.counts
  where
    typed : {ps : List Placed} → All (Of (job_of n)) ps → All (λ q. Typed (job_of n) q.type) ps
    typed a = all_map (λ q m. all_at (job_typed n) m) a

-- where the buffer has room, the plan of an outline can be written into it
pub written_exists : {n : Numbers} → InRange n → {o : Outline} → Build (job_of n) o → (was : List ℕ) → numbers_for o ≤ length was → (now : List ℕ) × Written n o was now
written_exists {n} r {o} d was h =
    let p = laid (positive r) d 0 0 in
    let back = lying_entries n (all_map (λ q k. k.of) p.known) in
    let s = sort (map entry_of (lay d 0 0)) in
    let l = s.list in
    let same : Same (lying n l) (lay d 0 0) = subst (λ ps. Same (lying n l) ps) back (same_map (placed n) l (map entry_of (lay d 0 0)) s.same) in
    let plan = plan_for d p l same s.ordered in
    let size : length (flat l) ≡ numbers_for o = omega (arith, length-flat l, plan_pieces plan) in (
      flat l ++ drop (numbers_for o) was,
      record {
        same_length = omega (arith, length-append (flat l) (drop (numbers_for o) was), size, length-drop (numbers_for o) was);
        plan = subst (PlanFor n o) (sym (ap entries (take_at (flat l) (drop (numbers_for o) was) (numbers_for o) size) ∙ entries_flat l)) plan;
        rest = drop_at (flat l) (drop (numbers_for o) was) (numbers_for o) size;
      },
    )
