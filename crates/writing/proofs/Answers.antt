-- From the bytes that were put, or have no room, to what a writer answers. Assumes nothing.
use mathlib.Core.Path.{◌≡◌, refl, sym, ap, ◌∙◌, subst}
use mathlib.Core.List.{List, ◌∷◌, ◌++◌}
use Prim.Native.Nat.{ℕ, ◌+◌, ◌*◌, ◌≤◌, ◌<◌}
use native.Mathlib.Omega.{arith}
use lib.ListN.{length, take, drop, length-drop, length-take}
use Rattle.rules.specs.Limits.{placement_numbers}
use Rattle.rules.specs.Decimal.{Decimal}
use Rattle.rules.specs.Text.{section, end}
use Rattle.rules.specs.Printed.{Spelled, done}
use Rattle.rules.specs.Planner.{slots_of}
use Rattle.writing.specs.Answer.{Stored, TooShort, NumberOf, LineOf, SectionOf}
use Rattle.writing.specs.Steps.{scratch_places, CopyFits, line_text, section_text, needed, Ruled, Put, InScratch, Reaches, SectionFits}
use Rattle.std.specs.Prelude.{Option, Some, None}
use Rattle.writing.proofs.Digits.{are_digits}
use Rattle.writing.proofs.Lines.{has_room, has_none, line_length, line_is, section_length, ruled_by, spelled_section, spelled_alone}

module _ {Asked : List ℕ → Type 0} (bytes : List ℕ) {before : List ℕ} {at : ℕ} (asked : Asked bytes) where
  pub is_stored : {after : List ℕ} {next : ℕ} → at + length bytes ≤ length before → Put bytes before at after next → Stored Asked before at after next
  is_stored {after} {next} h p =
      record {
        bytes = bytes;
        asked = asked;
        ends = p.ends;
        room = omega (arith, p.ends);
        left = p.left ∙ ap (λ n. take at before ++ bytes ++ drop n before) (sym p.ends);
      }

  pub is_short : length before < at + length bytes → TooShort Asked before at before
  is_short h = record { bytes = bytes; asked = asked; short = h; left = refl }

-- a number out of the scratch array
module _ {n : ℕ} {bytes : List ℕ} {from : ℕ} (s : InScratch n bytes from) where
  pub spelt : Decimal (drop from bytes) n
  spelt = subst (λ ds. Decimal ds n) (sym s.all) (are_digits n)

  pub number_stored : {before after : List ℕ} {at next : ℕ} → CopyFits from before at → Put (drop from bytes) before at after next → Stored (NumberOf n) before at after next
  number_stored f p = is_stored (drop from bytes) spelt (omega (arith, s.size, f.within, f.room, length-drop from bytes)) p

  pub number_short : {before : List ℕ} {at : ℕ} → from + length before < at + scratch_places → TooShort (NumberOf n) before at before
  number_short h = is_short (drop from bytes) spelt (omega (arith, s.size, s.within, length-drop from bytes))

-- a line
module _ (vs o : List ℕ) (at : ℕ) {r : Option ℕ} (x : Reaches (needed vs) at (length o) r) where
  pub line_room : {k : ℕ} → r ≡ Some k → at + length (line_text vs) ≤ length o
  line_room e = omega (arith, has_room (needed vs) at (length o) e x, line_length vs)

  pub line_stored : {k : ℕ} {after : List ℕ} {next : ℕ} → r ≡ Some k → Put (line_text vs) o at after next → Stored (LineOf vs) o at after next
  line_stored e p = is_stored (line_text vs) (line_is vs) (line_room e) p

  pub line_short : r ≡ None → TooShort (LineOf vs) o at o
  line_short e = is_short (line_text vs) (line_is vs) (omega (arith, has_none (needed vs) at (length o) e x, line_length vs))

-- a section
module _ (n w : ℕ) (vs o : List ℕ) (at : ℕ) (ruled : Ruled n w vs) {r : Option ℕ} (x : Reaches (needed (n ∷ vs)) at (length o) r) where
  pub section_fits : {k : ℕ} → r ≡ Some k → SectionFits n w vs o at
  section_fits e = record { ruled = ruled; room = omega (arith, has_room (needed (n ∷ vs)) at (length o) e x, section_length n w vs ruled) }

  pub section_beyond : r ≡ None → length o < at + length (section_text n w vs)
  section_beyond e = omega (arith, has_none (needed (n ∷ vs)) at (length o) e x, section_length n w vs ruled)

-- the placement section of a list
module _ (flat : List ℕ) (n : ℕ) (is : n ≡ slots_of (length flat)) where
  abbrev whole : List ℕ
  whole = take (n * placement_numbers) flat

  pub whole_length : n * placement_numbers ≡ length whole
  whole_length = simp length-take (omega arith)

  pub whole_ruled : Ruled n placement_numbers whole
  whole_ruled = ruled_by n placement_numbers whole (sym whole_length)

  whole_is : SectionOf flat (section_text n placement_numbers whole)
  whole_is = subst (λ m. Spelled (section placement_numbers end) (section_text n placement_numbers whole) (m ∷ take (m * placement_numbers) flat)) is (spelled_alone (spelled_section n placement_numbers whole whole_ruled done))

  module _ (o : List ℕ) (at : ℕ) {r : Option ℕ} (x : Reaches (needed (n ∷ whole)) at (length o) r) where
    pub list_fits : {k : ℕ} → r ≡ Some k → SectionFits n placement_numbers whole o at
    list_fits e = section_fits n placement_numbers whole o at whole_ruled x e

    pub list_stored : {k : ℕ} {after : List ℕ} {next : ℕ} → r ≡ Some k → Put (section_text n placement_numbers whole) o at after next → Stored (SectionOf flat) o at after next
    list_stored e p = is_stored (section_text n placement_numbers whole) whole_is (list_fits e).room p

    pub list_short : r ≡ None → TooShort (SectionOf flat) o at o
    list_short e = is_short (section_text n placement_numbers whole) whole_is (section_beyond n placement_numbers whole o at whole_ruled x e)
