-- A job's house text: its numbers written out, its two sections, and that they are spelled as the rules ask. Assumes nothing.
use mathlib.Core.Path.{◌≡◌, refl, sym, ap, ◌∙◌, subst}
use mathlib.Core.List.{List, [], ◌∷◌, ◌++◌, map}
use Prim.Native.Nat.{ℕ, zero, suc, ◌+◌, ◌*◌, ◌≤◌, ◌<◌}
use native.Mathlib.Omega.{arith}
use lib.ListN.{length, take, drop, set, get_or, length-append, length-take, length-map, get_or-map, drop_of_length-le}
use lib.Seq.{drop-cons, take-nil}
use Rattle.rules.specs.Limits.{types_most}
use Rattle.rules.specs.Numbers.{PieceType}
use Rattle.rules.specs.Items.{type_items, handed_over}
use Rattle.rules.specs.Text.{End, Script, end, num, section, job_text}
use Rattle.rules.specs.Printed.{Spelled, done}
use Rattle.rules.proofs.Ranges.{length_items}
use Rattle.rules.proofs.Writing.{Asked, one, spelled_asked}
use Rattle.rules.proofs.Answers.{asked_line, asked_lines}
use Rattle.shapes.specs.Handed.{type_of}
use Rattle.shapes.specs.declared.PieceType as declared
use Rattle.writing.specs.Answer.{Stored, TooShort, Writes}
use Rattle.writing.specs.Steps.{section_text, needed, Put, Reaches, SectionFits, TwoSections, JobItems}
use Rattle.std.specs.Prelude.{Result}
use Rattle.writing.specs.declared.Unwritten.{Unwritten}
use Rattle.std.specs.Prelude.{Option, Some, None}
use Rattle.writing.proofs.Paste.{OnTheWay, length_pasted, pasted_all, way_start, way_on, way_end, put_four, put_both}
use Rattle.writing.proofs.Lines.{has_room, has_none, reaches_then, section_length, ruled_by, spelled_section, spelled_alone}
use Rattle.writing.proofs.Answers.{is_stored, is_short}

-- the numbers written out, four to a type
type_at : (types : List declared.PieceType) (i : ℕ) (d : declared.PieceType) → i < length types → drop i (map type_of types) ≡ type_of (get_or types i d) ∷ drop (i + 1) (map type_of types)
type_at types i d h =
    let e = get_or-map type_of types i d in
    let k : suc i ≡ i + 1 = omega arith in
    drop-cons (map type_of types) i (type_of d) (omega (arith, length-map types type_of)) ∙ λ j. e j ∷ drop (k j) (map type_of types)

-- the numbers of the types are written out up to type i
pub record Flattening (types : List PieceType) (before now : List ℕ) (i : ℕ) : Type 0 where
  pub within : i ≤ types_most
  pub way : OnTheWay (type_items types) before 0 (type_items (drop i types)) now (4 * i)

pub type_count : (types : List declared.PieceType) → length types ≡ types_most → length (map type_of types) ≡ types_most
type_count types l = length-map types type_of ∙ l

module _ (types : List declared.PieceType) (l : length types ≡ types_most) (o : List ℕ) (s : length o ≡ 4 * types_most) where
  abbrev ts : List PieceType
  ts = map type_of types

  items_fit : length (type_items ts) ≡ length o
  items_fit = omega (arith, length_items ts, length-map types type_of)

  pub flattening_first : Flattening ts o o 0
  flattening_first = record { within = omega arith; way = way_start (type_items ts) o 0 (omega (arith, items_fit)) }

  module _ {now : List ℕ} {i : ℕ} (f : Flattening ts o now i) where
    pub flattening_size : length now ≡ 4 * types_most
    flattening_size = f.way.size ∙ s

    pub flattening_next : (d : declared.PieceType) → i < types_most → (t : declared.PieceType) → t ≡ get_or types i d → Flattening ts o (set (set (set (set now (4 * i) t.length) (4 * i + 1) t.width) (4 * i + 2) t.profit) (4 * i + 3) t.demand) (i + 1)
    flattening_next d h t is =
        let e = type_at types i d (omega arith) in
        let k : 4 * i + 4 ≡ 4 * (i + 1) = omega arith in
        let four = put_four now (4 * i) t.length t.width t.profit t.demand (omega (arith, flattening_size)) in
        record {
          within = omega arith;
          way = rw (← k) (way_on (t.length ∷ t.width ∷ t.profit ∷ t.demand ∷ []) (type_items (drop (i + 1) ts)) f.way (ap type_items e ∙ ap (λ u. type_items (type_of u ∷ drop (i + 1) ts)) (sym is)) four);
        }

    pub flattening_done : types_most ≤ i → now ≡ type_items ts
    flattening_done h =
        let no_more : drop i ts ≡ [] = drop_of_length-le ts {i = i} (omega (arith, length-map types type_of)) in
        (way_end f.way (ap type_items no_more)).left ∙ pasted_all o (type_items ts) items_fit

-- the lines up to the count
items_to : (n : ℕ) (ps : List PieceType) → take (n * 4) (type_items ps) ≡ type_items (take n ps)
items_to zero ps = refl
items_to (suc n) [] = take-nil (suc n * 4)
items_to (suc n) (p ∷ ps) =
    let m : suc n * 4 ≡ suc (suc (suc (suc (n * 4)))) = omega arith in
    ap (λ k. take k (type_items (p ∷ ps))) m ∙ λ i. p.long ∷ p.wide ∷ p.profit ∷ p.demand ∷ items_to n ps i

-- a count above the types there are has no text
asked_behind : {e : End} {k : ℕ → Script} {v : ℕ} {vs : List ℕ} → Asked (num e k) (v ∷ vs) → Asked (k v) vs
asked_behind (one a) = a

items_enough : {l w k n : ℕ} {vs : List ℕ} → Asked job_text (1 ∷ l ∷ w ∷ k ∷ n ∷ vs) → n * 4 ≤ length vs
unfolding job_text
items_enough {n = n} a = asked_lines n 4 end (asked_behind (asked_line 3 (section 4 end) (asked_behind a)).1)

module _ (l w k n : ℕ) (ps : List PieceType) (twelve : length ps ≡ types_most) where
  pub no_text : types_most < n → (bytes : List ℕ) → Spelled job_text bytes (handed_over l w k n ps) → ⊥
  no_text h bytes x = omega (arith, items_enough (spelled_asked x), length_items (take n ps), length-take n ps)

  -- the items up to the count, as the code takes them out of those of all types
  module _ (h : n ≤ types_most) (all : List ℕ) (is : all ≡ type_items ps) where
    pub pieces_length : n * 4 ≡ length (take (n * 4) all)
    pieces_length = simp length-take (omega (arith, ap length is, length_items ps))

    pub job_ruled : TwoSections (l ∷ w ∷ k ∷ []) n (take (n * 4) all)
    job_ruled = record { sheet_ruled = ruled_by 1 3 (l ∷ w ∷ k ∷ []) refl; pieces_ruled = ruled_by n 4 (take (n * 4) all) (sym pieces_length) }

    pub job_written : (o after : List ℕ) (at : ℕ) (r : Result ℕ Unwritten) → Writes (JobItems (l ∷ w ∷ k ∷ []) n (take (n * 4) all)) o at after r → Writes (λ bytes. Spelled job_text bytes (handed_over l w k n ps)) o at after r
    job_written o after at r x = subst (λ pieces. Writes (JobItems (l ∷ w ∷ k ∷ []) n pieces) o at after r) (ap (take (n * 4)) is ∙ items_to n ps) x

-- the two sections, one behind the other
module _ (sheet : List ℕ) (n : ℕ) (pieces : List ℕ) (two : TwoSections sheet n pieces) where
  abbrev first : List ℕ
  first = section_text 1 3 sheet

  abbrev second : List ℕ
  second = section_text n 4 pieces

  house_is : JobItems sheet n pieces (first ++ second)
  unfolding job_text
  house_is = spelled_section 1 3 sheet two.sheet_ruled (spelled_alone (spelled_section n 4 pieces two.pieces_ruled done))

  abbrev bytes_needed : ℕ
  bytes_needed = needed (1 ∷ sheet) + needed (n ∷ pieces)

  house_length : length (first ++ second) ≡ bytes_needed
  house_length = omega (arith, length-append first second, section_length 1 3 sheet two.sheet_ruled, section_length n 4 pieces two.pieces_ruled)

  module _ (o : List ℕ) (at : ℕ) {r : Option ℕ} (x : Reaches (needed (1 ∷ sheet)) at (length o) r) where
    pub sheet_short : r ≡ None → TooShort (JobItems sheet n pieces) o at o
    sheet_short e = is_short (first ++ second) house_is (omega (arith, has_none (needed (1 ∷ sheet)) at (length o) e x, house_length))

    module _ {between : ℕ} (e : r ≡ Some between) (q : Option ℕ) (y : Reaches (needed (n ∷ pieces)) between (length o) q) where
      all_reached : Reaches bytes_needed at (length o) q
      all_reached = reaches_then (needed (1 ∷ sheet)) (needed (n ∷ pieces)) at (length o) e x q y

      pub pieces_short : q ≡ None → TooShort (JobItems sheet n pieces) o at o
      pieces_short f = is_short (first ++ second) house_is (omega (arith, has_none bytes_needed at (length o) f all_reached, house_length))

      module _ {last : ℕ} (f : q ≡ Some last) where
        house_room : at + length (first ++ second) ≤ length o
        house_room = omega (arith, has_room bytes_needed at (length o) f all_reached, house_length)

        pub sheet_fits : SectionFits 1 3 sheet o at
        sheet_fits = record { ruled = two.sheet_ruled; room = omega (arith, house_room, length-append first second) }

        module _ {m : List ℕ} {next : ℕ} (p : Put first o at m next) where
          pub pieces_fit : SectionFits n 4 pieces m next
          pieces_fit = record { ruled = two.pieces_ruled; room = omega (arith, house_room, length-append first second, p.ends, ap length p.left, length_pasted o at first sheet_fits.room) }

          pub house_stored : {after : List ℕ} {then : ℕ} → Put second m next after then → Stored (JobItems sheet n pieces) o at after then
          house_stored t = is_stored (first ++ second) house_is house_room (put_both house_room p t)
