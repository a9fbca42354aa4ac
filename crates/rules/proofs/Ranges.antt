-- Items in range: what is known of the job they hold. Assumes nothing.
use mathlib.Core.Path.{◌≡◌, refl, ap}
use mathlib.Core.Bool.{Bool, true, false, ◌&&◌}
use mathlib.Core.Option.{Option, none, some}
use mathlib.Core.List.{List, [], ◌∷◌}
use Prim.Native.Nat.{ℕ, zero, suc, ◌+◌, ◌*◌, ◌≤◌}
use native.Mathlib.Omega.{arith}
use lib.ListN.{length, take, drop}
use lib.Dec.{leb}
use borrow.Author.Tests.{leb-true}
use Rattle.rules.specs.Limits.{size_most, kerf_most, types_most, profit_most, demand_most, pieces_most}
use Rattle.rules.specs.Bag.{All, nil, cons}
use Rattle.rules.specs.Numbers.{Numbers, PieceType, grown, singles_from, job_of}
use Rattle.rules.specs.Items.{Range, from, piece_ranges, ranges, first_out, piece_count, out_of_range, types_from, numbers_from, type_items, handed_over}
use Rattle.rules.proofs.Bools.{and_both}
use Rattle.rules.proofs.Lay.{Positive}

pub record Between (a b v : ℕ) : Type 0 where
  pub low : a ≤ v
  pub high : v ≤ b

pub record TypeInRange (p : PieceType) : Type 0 where
  pub long : Between 1 size_most p.long
  pub wide : Between 1 size_most p.wide
  pub profit : Between 1 profit_most p.profit
  pub demand : Between 1 demand_most p.demand

-- "Numbers of a job"
pub record InRange (n : Numbers) : Type 0 where
  pub long : Between 1 size_most n.long
  pub wide : Between 1 size_most n.wide
  pub kerf : n.kerf ≤ kerf_most
  pub count : Between 1 types_most (length n.types)
  pub types : All TypeInRange n.types

-- every item that has a range is in it
pub data Kept : List Range → List ℕ → Type 0 where
  no_range : {vs : List ℕ} → Kept [] vs
  no_item : {r : Range} {rs : List Range} → Kept (r ∷ rs) []
  item : {r : Range} {rs : List Range} {v : ℕ} {vs : List ℕ} → Between r.low r.high v → Kept rs vs → Kept (r ∷ rs) (v ∷ vs)

pub kept : (i : ℕ) (rs : List Range) (vs : List ℕ) → first_out i rs vs ≡ none → Kept rs vs
kept i [] vs e = no_range
kept i (r ∷ rs) [] e = no_item
kept i (r ∷ rs) (v ∷ vs) e = go (leb r.low v && leb v r.high) refl (kept (suc i) rs vs) e
  where
    go : (t : Bool) → (leb r.low v && leb v r.high) ≡ t → (first_out (suc i) rs vs ≡ none → Kept rs vs) → ◌≡◌ {A = Option ℕ} (elim t as (λ (t : Bool). Option ℕ) [ true ↦ first_out (suc i) rs vs | false ↦ some i ]) none → Kept (r ∷ rs) (v ∷ vs)
    go true p f e = let q = and_both (leb r.low v) (leb v r.high) p in item (record { low = leb-true r.low v q.0; high = leb-true v r.high q.1 }) (f e)
    go false p f e = absurd (let z : ◌≡◌ {A = ℕ} 0 1 = cc in omega arith)

pub this : {r : Range} {rs : List Range} {v : ℕ} {vs : List ℕ} → Kept (r ∷ rs) (v ∷ vs) → Between r.low r.high v
this (item h k) = h

pub those : {r : Range} {rs : List Range} {v : ℕ} {vs : List ℕ} → Kept (r ∷ rs) (v ∷ vs) → Kept rs vs
those (item h k) = k

types_in : (n : ℕ) (rs : List Range) (vs : List ℕ) → 4 * n ≤ length vs → Kept (piece_ranges n rs) vs → All TypeInRange (types_from n vs)
types_in zero rs vs h e = nil
types_in (suc n) rs [] h e = absurd (omega arith)
types_in (suc n) rs (a ∷ []) h e = absurd (omega arith)
types_in (suc n) rs (a ∷ b ∷ []) h e = absurd (omega arith)
types_in (suc n) rs (a ∷ b ∷ c ∷ []) h e = absurd (omega arith)
types_in (suc n) rs (a ∷ b ∷ c ∷ d ∷ vs) h e =
    cons (record { long = this e; wide = this (those e); profit = this (those (those e)); demand = this (those (those (those e))) }) (types_in n rs vs (omega arith) (those (those (those (those e)))))

length_types : (n : ℕ) (vs : List ℕ) → length (types_from n vs) ≡ n
length_types zero vs = refl
length_types (suc n) vs = ap suc (length_types n (drop 4 vs))

-- the items of all piece types are there
pub record Whole (vs : List ℕ) : Type 0 where
  pub items : 5 + 4 * piece_count vs ≤ length vs

pub in_range : (vs : List ℕ) → Whole vs → out_of_range vs ≡ none → InRange (numbers_from vs)
in_range [] w e = absurd (omega (arith, w.items))
in_range (c ∷ []) w e = absurd (omega (arith, w.items))
in_range (c ∷ l ∷ []) w e = absurd (omega (arith, w.items))
in_range (c ∷ l ∷ b ∷ []) w e = absurd (omega (arith, w.items))
in_range (c ∷ l ∷ b ∷ k ∷ []) w e = absurd (omega (arith, w.items))
in_range (c ∷ l ∷ b ∷ k ∷ n ∷ vs) w e =
    let sheet = those (kept 0 (ranges n) (c ∷ l ∷ b ∷ k ∷ n ∷ vs) e) in
    let count = those (those (those sheet)) in
    record {
      long = this sheet;
      wide = this (those sheet);
      kerf = (this (those (those sheet))).high;
      count = record { low = omega (arith, (this count).low, length_types n vs); high = omega (arith, (this count).high, length_types n vs) };
      types = types_in n (from 0 pieces_most ∷ []) vs (omega (arith, w.items)) (those count);
    }

positive_from : (k t : ℕ) {ps : List PieceType} → All TypeInRange ps → All Positive (singles_from k t ps)
positive_from k t nil = nil
positive_from k t (cons {x = p} r a) = cons {x = grown k t p} (record { long = omega (arith, r.long.low); wide = omega (arith, r.wide.low) }) (positive_from k (suc t) a)

-- pieces of a job in range have a size
pub positive : {n : Numbers} → InRange n → All Positive (job_of n).singles
positive {n} r = positive_from n.kerf 1 r.types

-- a job handed over: its types up to the count are read, and no others
pub length_items : (ps : List PieceType) → length (type_items ps) ≡ 4 * length ps
length_items [] = refl
length_items (p ∷ ps) = omega (arith, length_items ps)

length-take_all : (n : ℕ) (ps : List PieceType) → n ≤ length ps → length (take n ps) ≡ n
length-take_all zero ps h = refl
length-take_all (suc n) [] h = absurd (omega arith)
length-take_all (suc n) (p ∷ ps) h = ap suc (length-take_all n ps (omega arith))

pub handed_length : (l w k n : ℕ) (ps : List PieceType) → n ≤ length ps → length (handed_over l w k n ps) ≡ 5 + 4 * n
handed_length l w k n ps h = omega (arith, length_items (take n ps), length-take_all n ps h)

pub handed_whole : (l w k n : ℕ) (ps : List PieceType) → n ≤ length ps → Whole (handed_over l w k n ps)
handed_whole l w k n ps h = record { items = omega (arith, handed_length l w k n ps h) }

types_back : (n : ℕ) (ps : List PieceType) → n ≤ length ps → types_from n (type_items (take n ps)) ≡ take n ps
types_back zero ps h = refl
types_back (suc n) [] h = absurd (omega arith)
types_back (suc n) (p ∷ ps) h = λ i. p ∷ types_back n ps (omega arith) i

pub handed_numbers : (l w k n : ℕ) (ps : List PieceType) → n ≤ length ps → numbers_from (handed_over l w k n ps) ≡ record { long = l; wide = w; kerf = k; types = take n ps }
handed_numbers l w k n ps h = λ i. record { long = l; wide = w; kerf = k; types = types_back n ps h i }

-- types past the count are not read
pub handed_read : (l w k n : ℕ) (ps qs : List PieceType) → take n ps ≡ take n qs → handed_over l w k n ps ≡ handed_over l w k n qs
handed_read l w k n ps qs e = ap (λ rs. 1 ∷ l ∷ w ∷ k ∷ n ∷ type_items rs) e

-- one step of the search for the first item out of range
pub item_in : (i : ℕ) (r : Range) (rs : List Range) (v : ℕ) (vs : List ℕ) → (leb r.low v && leb v r.high) ≡ true → first_out i (r ∷ rs) (v ∷ vs) ≡ first_out (suc i) rs vs
item_in i r rs v vs e = rw (e, first_out)

pub item_out : (i : ℕ) (r : Range) (rs : List Range) (v : ℕ) (vs : List ℕ) → (leb r.low v && leb v r.high) ≡ false → first_out i (r ∷ rs) (v ∷ vs) ≡ some i
item_out i r rs v vs e = rw (e, first_out)
