-- A record laid out: a piece, or the first half and then the second. Assumes nothing.
use mathlib.Core.Path.{◌≡◌, refl, sym, ap, ap₂, ◌∙◌, subst}
use mathlib.Core.List.{List, [], ◌∷◌, ◌++◌, map, append_assoc, append-nil}
use Prim.Native.Nat.{ℕ, ◌+◌, ◌*◌, ◌-◌, ◌≤◌, ◌<◌}
use native.Mathlib.Omega.{arith}
use lib.ListN.{length, take, drop, length-append, length-drop, length-map, drop_of_length-le}
use lib.Seq.{take_at, drop_at, take_all, drop-drop}
use Rattle.rules.specs.Box as box
use Rattle.rules.specs.Limits.{placement_numbers}
use Rattle.rules.specs.Numbers.{Entry}
use Rattle.rules.specs.Placed.{Placed}
use Rattle.rules.proofs.Bags.{map-append}
use Rattle.rules.proofs.Lay.{next_x, next_y}
use Rattle.rules.proofs.Unfold.{Rec, at, Lays, Halves, lays_piece, lays_joined}
use Rattle.rules.proofs.Arrange.{entry_of, flat, length-flat}
use Rattle.outline.specs.declared.Outline.{Outline}
use Rattle.outline.specs.declared.Way.{Way}
use Rattle.outline.specs.Stands.{outline_of, way_of}
use Rattle.arena.specs.declared.How.TheVariants.{Piece, Joined}
use Rattle.arena.specs.declared.Record.{Record}
use Rattle.arena.specs.Records.{record_at, maker_of, Loaded}
use Rattle.unfolding.specs.declared.Corner.{Corner}
use Rattle.unfolding.specs.Laying.{IsNext, Placeable, Reads, Layable, Wrote, LaidOut}

flat_append : (a b : List Entry) → flat (a ++ b) ≡ flat a ++ flat b
flat_append [] b = refl
flat_append (e ∷ a) b = λ i. e.type ∷ e.x ∷ e.y ∷ flat_append a b i

abbrev flat_of : List Placed → List ℕ
flat_of ps = flat (map entry_of ps)

flat_both : (ps qs : List Placed) → flat_of (ps ++ qs) ≡ flat_of ps ++ flat_of qs
flat_both ps qs = ap flat (map-append entry_of ps qs) ∙ flat_append (map entry_of ps) (map entry_of qs)

length-flat_of : (ps : List Placed) → length (flat_of ps) ≡ placement_numbers * length ps
length-flat_of ps = length-flat (map entry_of ps) ∙ ap (λ n. placement_numbers * n) (length-map ps entry_of)

reads_less : (types : ℕ) (rs : List Rec) (s : List ℕ) (i j : ℕ) → j ≤ i → Reads types rs s i → Reads types rs s j
reads_less types rs s i j h r k l = r k (omega arith)

-- the corner behind a half depends on its sizes alone
next_x_lem : (w : box.Way) (x m n : ℕ) (o : Outline) → next_x w x (outline_of m o) ≡ next_x w x (outline_of n o)
next_x_lem box.along x m n o = refl
next_x_lem box.across x m n o = refl

next_y_lem : (w : box.Way) (y m n : ℕ) (o : Outline) → next_y w y (outline_of m o) ≡ next_y w y (outline_of n o)
next_y_lem box.along y m n o = refl
next_y_lem box.across y m n o = refl

-- record i in two halves, and the corner of the second
pub record Halved (s : List ℕ) (i x y : ℕ) (way : Way) (a b : ℕ) (next : Corner) : Type 0 where
  pub how : (record_at s i).how ≡ Joined way a b
  pub corner : IsNext (record_at s a).outline way x y next

-- as the code reads them from the arena
pub halved : (s : List ℕ) (i x y : ℕ) {way : Way} {a b : ℕ} {next : Corner} {whole half : Record} → Loaded (record_at s i) whole → whole.how ≡ Joined way a b → Loaded (record_at s a) half → IsNext half.outline way x y next → Halved s i x y way a b next
halved s i x y {way} {a} {b} {next} l how f n = record {
  how = sym (ap (λ (r : Record). r.how) l.is) ∙ how;
  corner = subst (λ (r : Record). IsNext r.outline way x y next) f.is n;
}

module _ {s : List ℕ} {i x y : ℕ} {buf : List ℕ} (ready : Layable s i x y buf) where
  abbrev bound : Placeable s i x y
  bound = ready.placeable

  module _ {t : ℕ} (how : (record_at s i).how ≡ Piece t) where
    pieces_of : (types : ℕ) (rs : List Rec) (ps : List Placed) → Reads types rs s i → Lays rs i x y ps → flat_of ps ≡ t ∷ x ∷ y ∷ []
    pieces_of types rs ps r l =
        let e : (at rs i).maker ≡ maker_of (record_at s i).outline (Piece t) = ap (λ (q : Rec). q.maker) (r i (omega arith)) ∙ ap (maker_of (record_at s i).outline) how in
        ap flat_of (lays_piece e l)

    pub laid_leaf : {after : List ℕ} → after ≡ t ∷ x ∷ y ∷ drop 3 buf → LaidOut s i x y buf after 3
    laid_leaf ha = record {
      wrote = λ types rs ps q l.
          let e = pieces_of types rs ps q l in
          record {
            count = omega (arith, length-flat_of ps, ap length e);
            numbers = ha ∙ ap (λ a. a ++ drop 3 buf) (sym e);
          };
    }

  pub lower : {way : Way} {a b : ℕ} → (record_at s i).how ≡ Joined way a b → (a < i) × (b < i)
  lower how = bound.falls i (omega arith) _ _ _ how

  module _ {way : Way} {a b : ℕ} {next : Corner} (node : Halved s i x y way a b next) where
    abbrev low : (a < i) × (b < i)
    low = lower node.how

    halves : (types : ℕ) (rs : List Rec) (ps : List Placed) → Reads types rs s i → Lays rs i x y ps → Halves rs (way_of way) a b x y ps
    halves types rs ps r l =
        lays_joined (ap (λ (q : Rec). q.maker) (r i (omega arith)) ∙ ap (maker_of (record_at s i).outline) node.how) l

    second_lays : (types : ℕ) (rs : List Rec) (ps : List Placed) (r : Reads types rs s i) (l : Lays rs i x y ps) → Lays rs b next.x next.y (halves types rs ps r l).second
    second_lays types rs ps r l =
        let e = r a (omega (arith, low.0)) in
        let w = way_of way in
        let o = (record_at s a).outline in
        let ex : next_x w x (at rs a).outline ≡ next.x = ap (λ (q : Rec). next_x w x q.outline) e ∙ next_x_lem w x types 0 o ∙ sym node.corner.along in
        let ey : next_y w y (at rs a).outline ≡ next.y = ap (λ (q : Rec). next_y w y q.outline) e ∙ next_y_lem w y types 0 o ∙ sym node.corner.across in
        subst (λ u. Lays rs b u next.y (halves types rs ps r l).second) ex (subst (λ u. Lays rs b (next_x w x (at rs a).outline) u (halves types rs ps r l).second) ey (halves types rs ps r l).lays_second)

    abbrev mine : Halves ready.records (way_of way) a b x y ready.placements
    mine = halves ready.types ready.records ready.placements ready.reads ready.lays

    both_fit : placement_numbers * length mine.first + placement_numbers * length mine.second ≤ length buf
    both_fit = omega (arith, ready.fits, ap length mine.whole, length-append mine.first mine.second)

    pub ready_first : Layable s a x y buf
    ready_first =
        let l = low in
        record {
          placeable = record { room = omega (arith, bound.room); falls = λ k hk. bound.falls k (omega arith); along = omega (arith, bound.along); across = omega (arith, bound.across) };
          types = ready.types;
          records = ready.records;
          reads = reads_less ready.types ready.records s i a (omega arith) ready.reads;
          placements = mine.first;
          lays = mine.lays_first;
          fits = omega (arith, both_fit);
        }

    module _ {b1 : List ℕ} {n : ℕ} (first : LaidOut s a x y buf b1 n) where
      wrote_first : (types : ℕ) (rs : List Rec) (ps : List Placed) (r : Reads types rs s i) (l : Lays rs i x y ps) → Wrote (halves types rs ps r l).first buf b1 n
      wrote_first types rs ps r l = first.wrote types rs _ (reads_less types rs s i a (let k = low in omega arith) r) (halves types rs ps r l).lays_first

      abbrev wrote : Wrote mine.first buf b1 n
      wrote = wrote_first ready.types ready.records ready.placements ready.reads ready.lays

      pub within : (n ≤ length b1) × (length b1 ≡ length buf)
      within =
          let e = ap length wrote.numbers in
          omega (arith, e, wrote.count, both_fit, length-append (flat_of mine.first) (drop n buf), length-drop n buf, length-flat_of mine.first)

      part_is : take (length b1 - n) (drop n b1) ≡ drop n buf
      part_is =
          take_all (length b1 - n) (drop n b1) (simp length-drop (omega arith))
          ∙ ap (drop n) wrote.numbers ∙ drop_at (flat_of mine.first) (drop n buf) n (length-flat_of mine.first ∙ sym wrote.count)

      pub ready_second : Layable s b next.x next.y (take (length b1 - n) (drop n b1))
      ready_second =
          let l = low in
          let f = node.corner.not_far in
          record {
            placeable = record { room = omega (arith, bound.room); falls = λ k hk. bound.falls k (omega arith); along = omega (arith, bound.along, f.0); across = omega (arith, bound.across, f.1) };
            types = ready.types;
            records = ready.records;
            reads = reads_less ready.types ready.records s i b (omega arith) ready.reads;
            placements = mine.second;
            lays = second_lays ready.types ready.records ready.placements ready.reads ready.lays;
            fits = omega (arith, both_fit, ap length part_is, length-drop n buf, wrote.count);
          }

      pub laid_join : {p2 : List ℕ} {m : ℕ} → LaidOut s b next.x next.y (take (length b1 - n) (drop n b1)) p2 m → LaidOut s i x y buf (take n b1 ++ (p2 ++ drop (length b1 - n) (drop n b1))) (n + m)
      laid_join {p2} {m} second = record {
        wrote = λ types rs ps r l.
            let hv = halves types rs ps r l in
            let f = wrote_first types rs ps r l in
            let g = second.wrote types rs hv.second (reads_less types rs s i b (let k = low in omega arith) r) (second_lays types rs ps r l) in
            let none : drop (length b1 - n) (drop n b1) ≡ [] = drop_of_length-le (drop n b1) {i = length b1 - n} (simp length-drop (omega arith)) in
            let front : take n b1 ≡ flat_of hv.first = ap (take n) f.numbers ∙ take_at (flat_of hv.first) (drop n buf) n (length-flat_of hv.first ∙ sym f.count) in
            let back : p2 ≡ flat_of hv.second ++ drop (n + m) buf = g.numbers ∙ ap (λ l. flat_of hv.second ++ drop m l) part_is ∙ ap (λ l. flat_of hv.second ++ l) (drop-drop m n buf) in
            let flats : flat_of ps ≡ flat_of hv.first ++ flat_of hv.second = ap flat_of hv.whole ∙ flat_both hv.first hv.second in
            record {
              count = omega (arith, f.count, g.count, ap length hv.whole, length-append hv.first hv.second);
              numbers = ap₂ ◌++◌ front (ap₂ ◌++◌ back none ∙ append-nil (flat_of hv.second ++ drop (n + m) buf)) ∙ sym (append_assoc (flat_of hv.first) (flat_of hv.second) (drop (n + m) buf)) ∙ ap (λ l. l ++ drop (n + m) buf) (sym flats);
            };
      }
