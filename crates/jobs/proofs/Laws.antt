-- Piece lines one after the other: where the first number out of range stands. Assumes nothing.
use mathlib.Core.Path.{◌≡◌, refl, sym, ap, ◌∙◌}
use mathlib.Core.Bool.{Bool, true, false, not, ◌&&◌}
use mathlib.Core.Option.{Option, none, some}
use mathlib.Core.List.{List, [], ◌∷◌, map}
use Prim.Native.Nat.{ℕ, suc, ◌+◌, ◌*◌, ◌-◌, ◌≤◌, ◌<◌}
use native.Mathlib.Omega.{arith}
use lib.ListN.{length, take, drop, get_or, length-map, get_or-map}
use lib.Seq.{drop-cons}
use lib.Dec.{leb}
use borrow.Author.Tests.{leb-true}
use Rattle.rules.specs.Limits.{size_most, kerf_most, types_most, profit_most, demand_most, pieces_most}
use Rattle.rules.specs.Numbers.{PieceType}
use Rattle.rules.specs.Items.{Range, from, piece_ranges, first_out, out_of_range, type_items, handed_over}
use Rattle.rules.proofs.Bools.{and_both, not_true, not_false}
use Rattle.rules.proofs.Ranges.{item_in, item_out}
use Rattle.shapes.specs.Handed.{type_of}
use Rattle.shapes.specs.declared.PieceType as Declared
use Rattle.jobs.specs.Item.{item_place, or_next, LineOut, types_out, Passed}
use Rattle.std.specs.Prelude

-- the test of one number, as the code asks it
abbrev pub out : Range → ℕ → Bool
out r v = not (leb r.low v && leb v r.high)

module _ (i : ℕ) (r : Range) (rs : List Range) (v : ℕ) (vs : List ℕ) where
  pub go_on : out r v ≡ false → first_out i (r ∷ rs) (v ∷ vs) ≡ first_out (suc i) rs vs
  go_on e = item_in i r rs v vs (not_false _ e)

  pub stop_here : out r v ≡ true → first_out i (r ∷ rs) (v ∷ vs) ≡ some i
  stop_here e = item_out i r rs v vs (not_true _ e)

abbrev pub sizes : Range
sizes = from 1 size_most

abbrev pub profits : Range
profits = from 1 profit_most

abbrev pub demands : Range
demands = from 1 demand_most

-- a line is fine, or its first number out of range is the first of all
module _ (i n : ℕ) (rs : List Range) (t : PieceType) (vs : List ℕ) where
  abbrev here : Option ℕ
  here = first_out i (piece_ranges (suc n) rs) (t.long ∷ t.wide ∷ t.profit ∷ t.demand ∷ vs)

  pub long_out : out sizes t.long ≡ true → here ≡ some i
  long_out a = stop_here i sizes (sizes ∷ profits ∷ demands ∷ piece_ranges n rs) t.long (t.wide ∷ t.profit ∷ t.demand ∷ vs) a

  module _ (a : out sizes t.long ≡ false) where
    wide : here ≡ first_out (suc i) (sizes ∷ profits ∷ demands ∷ piece_ranges n rs) (t.wide ∷ t.profit ∷ t.demand ∷ vs)
    wide = go_on i sizes (sizes ∷ profits ∷ demands ∷ piece_ranges n rs) t.long (t.wide ∷ t.profit ∷ t.demand ∷ vs) a

    pub wide_out : out sizes t.wide ≡ true → here ≡ some (i + 1)
    wide_out b = wide ∙ stop_here (suc i) sizes (profits ∷ demands ∷ piece_ranges n rs) t.wide (t.profit ∷ t.demand ∷ vs) b ∙ ap some (omega arith)

    module _ (b : out sizes t.wide ≡ false) where
      profit : here ≡ first_out (suc (suc i)) (profits ∷ demands ∷ piece_ranges n rs) (t.profit ∷ t.demand ∷ vs)
      profit = wide ∙ go_on (suc i) sizes (profits ∷ demands ∷ piece_ranges n rs) t.wide (t.profit ∷ t.demand ∷ vs) b

      pub profit_out : out profits t.profit ≡ true → here ≡ some (i + 2)
      profit_out c = profit ∙ stop_here (suc (suc i)) profits (demands ∷ piece_ranges n rs) t.profit (t.demand ∷ vs) c ∙ ap some (omega arith)

      module _ (c : out profits t.profit ≡ false) where
        demand : here ≡ first_out (suc (suc (suc i))) (demands ∷ piece_ranges n rs) (t.demand ∷ vs)
        demand = profit ∙ go_on (suc (suc i)) profits (demands ∷ piece_ranges n rs) t.profit (t.demand ∷ vs) c

        pub demand_out : out demands t.demand ≡ true → here ≡ some (i + 3)
        demand_out d = demand ∙ stop_here (suc (suc (suc i))) demands (piece_ranges n rs) t.demand vs d ∙ ap some (omega arith)

        pub line_fine : out demands t.demand ≡ false → here ≡ first_out (i + 4) (piece_ranges n rs) vs
        line_fine d = demand ∙ go_on (suc (suc (suc i))) demands (piece_ranges n rs) t.demand vs d ∙ ap (λ k. first_out k (piece_ranges n rs) vs) (omega arith)

-- one more line of those up to the count
abbrev pub ends : List Range
ends = from 0 pieces_most ∷ []

pub next_line : (i n : ℕ) (ts : List PieceType) (t : PieceType) (us : List PieceType) (r : Prelude.Option ℕ) → ts ≡ t ∷ us → LineOut i t r → types_out i (suc n) ts ≡ or_next (item_place r) (types_out (i + 4) n us)
next_line i n ts t us r e h = ap (types_out i (suc n)) e ∙ h n ends (type_items (take n us))

-- the loop over the lines
pub passed_start : (count : ℕ) (ts : List PieceType) → Passed count ts 0
passed_start count ts = record { within = omega arith; left = let e : count - 0 ≡ count = omega arith in rw e }

module _ {count : ℕ} {ts : List PieceType} {i : ℕ} (p : Passed count ts i) where
  module _ (h : i < count) (t : PieceType) (e : drop i ts ≡ t ∷ drop (i + 1) ts) (r : Prelude.Option ℕ) (o : LineOut (5 + 4 * i) t r) where
    this_line : types_out 5 count ts ≡ or_next (item_place r) (types_out (5 + 4 * i + 4) (count - (i + 1)) (drop (i + 1) ts))
    this_line =
        let c : count - i ≡ suc (count - (i + 1)) = omega arith in
        p.left ∙ ap (λ n. types_out (5 + 4 * i) n (drop i ts)) c ∙ next_line (5 + 4 * i) (count - (i + 1)) (drop i ts) t (drop (i + 1) ts) r e o

    pub passed_next : item_place r ≡ none → Passed count ts (i + 1)
    passed_next f =
        let k : 5 + 4 * i + 4 ≡ 5 + 4 * (i + 1) = omega arith in
        record { within = omega arith; left = this_line ∙ ap (λ x. or_next x (types_out (5 + 4 * i + 4) (count - (i + 1)) (drop (i + 1) ts))) f ∙ ap (λ x. types_out x (count - (i + 1)) (drop (i + 1) ts)) k }

    pub passed_stop : {k : ℕ} → item_place r ≡ some k → item_place r ≡ types_out 5 count ts
    passed_stop f = f ∙ sym (this_line ∙ ap (λ x. or_next x (types_out (5 + 4 * i + 4) (count - (i + 1)) (drop (i + 1) ts))) f)

  pub passed_end : count ≤ i → types_out 5 count ts ≡ none
  passed_end h =
      let z : count - i ≡ 0 = omega arith in
      p.left ∙ ap (λ n. types_out (5 + 4 * i) n (drop i ts)) z

-- the line at i
pub line_at : (types : List Declared.PieceType) (i : ℕ) (d : Declared.PieceType) → i < length types → drop i (map type_of types) ≡ type_of (get_or types i d) ∷ drop (i + 1) (map type_of types)
line_at types i d h =
    let n : i < length (map type_of types) = omega (arith, length-map types type_of) in
    drop-cons (map type_of types) i (type_of d) n ∙ (let e = get_or-map type_of types i d in let k : suc i ≡ i + 1 = omega arith in λ j. e j ∷ drop (k j) (map type_of types))

-- the sheet and the piece count, one after the other, before the piece lines
module _ (l w k n : ℕ) (ts : List PieceType) where
  abbrev all : Option ℕ
  all = out_of_range (handed_over l w k n ts)

  abbrev behind_kerf : List Range
  behind_kerf = from 1 types_most ∷ piece_ranges n ends

  abbrev items : List ℕ
  items = type_items (take n ts)

  length_step : all ≡ first_out 1 (sizes ∷ sizes ∷ from 0 kerf_most ∷ behind_kerf) (l ∷ w ∷ k ∷ n ∷ items)
  length_step = go_on 0 (from 1 1) (sizes ∷ sizes ∷ from 0 kerf_most ∷ behind_kerf) 1 (l ∷ w ∷ k ∷ n ∷ items) refl

  pub length_out : out sizes l ≡ true → all ≡ some 1
  length_out a = length_step ∙ stop_here 1 sizes (sizes ∷ from 0 kerf_most ∷ behind_kerf) l (w ∷ k ∷ n ∷ items) a

  module _ (a : out sizes l ≡ false) where
    width_step : all ≡ first_out 2 (sizes ∷ from 0 kerf_most ∷ behind_kerf) (w ∷ k ∷ n ∷ items)
    width_step = length_step ∙ go_on 1 sizes (sizes ∷ from 0 kerf_most ∷ behind_kerf) l (w ∷ k ∷ n ∷ items) a

    pub width_out : out sizes w ≡ true → all ≡ some 2
    width_out b = width_step ∙ stop_here 2 sizes (from 0 kerf_most ∷ behind_kerf) w (k ∷ n ∷ items) b

    module _ (b : out sizes w ≡ false) where
      kerf_step : all ≡ first_out 3 (from 0 kerf_most ∷ behind_kerf) (k ∷ n ∷ items)
      kerf_step = width_step ∙ go_on 2 sizes (from 0 kerf_most ∷ behind_kerf) w (k ∷ n ∷ items) b

      pub kerf_out : out (from 0 kerf_most) k ≡ true → all ≡ some 3
      kerf_out c = kerf_step ∙ stop_here 3 (from 0 kerf_most) behind_kerf k (n ∷ items) c

      module _ (c : out (from 0 kerf_most) k ≡ false) where
        count_step : all ≡ first_out 4 behind_kerf (n ∷ items)
        count_step = kerf_step ∙ go_on 3 (from 0 kerf_most) behind_kerf k (n ∷ items) c

        pub count_out : out (from 1 types_most) n ≡ true → all ≡ some 4
        count_out d = count_step ∙ stop_here 4 (from 1 types_most) (piece_ranges n ends) n items d

        pub types_left : out (from 1 types_most) n ≡ false → all ≡ types_out 5 n ts
        types_left d = count_step ∙ go_on 4 (from 1 types_most) (piece_ranges n ends) n items d

-- a number that is not outside is at most the upper end
pub at_most : (r : Range) (v : ℕ) → out r v ≡ false → v ≤ r.high
at_most r v e = leb-true v r.high (and_both (leb r.low v) (leb v r.high) (not_false _ e)).1
