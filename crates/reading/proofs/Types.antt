-- Piece lines read one after the other into the types of a job. Assumes nothing.
use mathlib.Core.Path.{◌≡◌, refl, sym, ap, ◌∙◌, subst}
use mathlib.Core.List.{List, [], ◌∷◌, ◌++◌, map}
use Prim.Native.Nat.{ℕ, zero, suc, ◌+◌, ◌-◌, ◌≤◌, ◌<◌}
use native.Mathlib.Omega.{arith}
use native.Mathlib.Numerals.{add-one}
use lib.ListN.{length, take, drop, set, get_or, length-set}
use lib.Seq.{take-suc-set, drop-set-lt, drop-drop}
use Rattle.rules.specs.Limits.{types_most}
use Rattle.rules.specs.Numbers as rules
use Rattle.rules.specs.Text.{a_line, some_lines}
use Rattle.rules.specs.Items.{type_items}
use Rattle.rules.proofs.Bags.{map-append}
use Rattle.shapes.specs.Handed.{type_of}
use Rattle.shapes.specs.declared.PieceType.{PieceType}
use Rattle.reader.specs.declared.Stray.{Stray}
use Rattle.reading.specs.Walked.{Strays, Arrives}
use Rattle.reading.specs.Pieces.{no_types, numbers_of_types, PieceLines, InPieces}
use Rattle.reading.proofs.Walks.{walk_start, walk_on, walk_stops, walk_same}
use Rattle.reading.proofs.Lines.{asks_lines, no_lines, all_lines}

take-map : {A B : Type 0} (f : A → B) (n : ℕ) (l : List A) → take n (map f l) ≡ map f (take n l)
take-map f zero l = refl
take-map f (suc n) [] = refl
take-map f (suc n) (x ∷ l) = λ i. f x ∷ take-map f n l i

items_append : (ps qs : List rules.PieceType) → type_items (ps ++ qs) ≡ type_items ps ++ type_items qs
items_append [] qs = refl
items_append (p ∷ ps) qs = λ i. p.long ∷ p.wide ∷ p.profit ∷ p.demand ∷ items_append ps qs i

-- the type of a line's four numbers
abbrev pub type_from : List ℕ → PieceType
type_from ns = record { length = get_or ns 0 0; width = get_or ns 1 0; profit = get_or ns 2 0; demand = get_or ns 3 0 }

four : (ns : List ℕ) → length ns ≡ 4 → type_items (type_of (type_from ns) ∷ []) ≡ ns
four [] h = absurd (omega arith)
four (a ∷ []) h = absurd (omega arith)
four (a ∷ b ∷ []) h = absurd (omega arith)
four (a ∷ b ∷ c ∷ []) h = absurd (omega arith)
four (a ∷ b ∷ c ∷ d ∷ []) h = refl
four (a ∷ b ∷ c ∷ d ∷ e ∷ ns) h = absurd (omega arith)

stored : (types : List PieceType) (i : ℕ) (ns : List ℕ) → i < length types → length ns ≡ 4 → numbers_of_types i types ++ ns ≡ numbers_of_types (i + 1) (set types i (type_from ns))
stored types i ns h l =
    let p : PieceType = type_from ns in
    let t : take (i + 1) (map type_of (set types i p)) ≡ take i (map type_of types) ++ (type_of p ∷ []) =
    take-map type_of (i + 1) (set types i p) ∙ ap (map type_of) (ap (λ k. take k (set types i p)) (add-one i) ∙ take-suc-set types i p h) ∙ map-append type_of (take i types) (p ∷ []) ∙ ap (λ q. q ++ (type_of p ∷ [])) (sym (take-map type_of i types)) in
    sym (ap type_items t ∙ items_append (take i (map type_of types)) (type_of p ∷ []) ∙ ap (λ q. numbers_of_types i types ++ q) (four ns l))

pub in_pieces_start : {t : List ℕ} {from n : ℕ} → InPieces t from n no_types from 0
in_pieces_start {t} {from} {n} = record { within = omega arith; size = refl; walking = walk_same (walk_start (some_lines n 4) t from) refl (all_lines 4 n); others = refl }

module _ {t u : List ℕ} {from n at i : ℕ} {types : List PieceType} (x : InPieces t from n types at i) (room : n ≤ types_most) (h : i < n) (same : u ≡ t) where
  pub in_pieces_next : (ns : List ℕ) → length ns ≡ 4 → {next : ℕ} → Arrives (a_line 4) u at (λ us vs. vs ≡ us) ns next → InPieces t from n (set types i (type_from ns)) next (i + 1)
  in_pieces_next ns l {next} z =
      let y = subst (λ v. Arrives (a_line 4) v at (λ us vs. vs ≡ us) ns next) same z in
      record {
        within = omega arith;
        size = length-set types i (type_from ns) ∙ x.size;
        walking = walk_same (walk_on x.walking (a_line 4) (some_lines (n - (i + 1)) 4) (asks_lines 4 n i h) y.numbers next y.walked) (ap (λ q. numbers_of_types i types ++ q) y.told ∙ stored types i ns (omega (arith, x.size)) l) (λ s. refl);
        others = drop-set-lt (i + 1) types i (type_from ns) (omega arith) ∙ sym (drop-drop 1 i types) ∙ ap (drop 1) x.others ∙ drop-drop 1 i no_types;
      }

  pub in_pieces_stops : {stray : Stray} → Strays (a_line 4) u at stray → Strays (some_lines n 4) t from stray
  in_pieces_stops {stray} y = walk_stops x.walking (a_line 4) (some_lines (n - (i + 1)) 4) (asks_lines 4 n i h) (subst (λ v. Strays (a_line 4) v at stray) same y)

pub in_pieces_end : {t : List ℕ} {from n at i : ℕ} {types : List PieceType} → InPieces t from n types at i → n ≤ i → Arrives (some_lines n 4) t from (PieceLines n) types at
in_pieces_end {n = n} {i = i} {types = types} x h =
    let e : i ≡ n = omega (arith, x.within) in
    record {
      numbers = numbers_of_types i types;
      told = record { size = x.size; numbers = ap (λ k. numbers_of_types k types) e; others = ap (λ k. drop k types) (sym e) ∙ x.others ∙ ap (λ k. drop k no_types) e };
      walked = walk_same x.walking refl (no_lines 4 n i h);
    }
