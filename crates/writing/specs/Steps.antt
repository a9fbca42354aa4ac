-- The bytes of numbers as the code puts them one behind the other, and what each part of it leaves: what the inner functions promise. Assumes nothing.
use Rattle.std.specs.Prelude.{◌≡◌, List, [], ◌∷◌, ◌++◌, ℕ, zero, suc, ◌+◌, ◌≤◌, ◌<◌, length, take, drop, Option, Some, None}
use Rattle.rules.specs.Text.{byte, space, line, job_text}
use Rattle.rules.specs.Printed.{Spelled}
use Rattle.rules.proofs.Writing.{decimal_exists}

-- the digits of a number, of which there is one list
unfoldable pub digits : ℕ → List ℕ
digits n = (decimal_exists n).0

-- the places of the scratch array: a number of 64 bits has no more digits
abbrev pub scratch_places : ℕ
scratch_places = 20

-- the digits of n stand in the scratch array, from `from` to its end
pub record InScratch (n : ℕ) (bytes : List ℕ) (from : ℕ) : Type 0 where
  pub size : length bytes ≡ scratch_places
  pub within : from ≤ scratch_places
  pub all : drop from bytes ≡ digits n

-- bytes put over those from `at` on
abbrev pub pasted : List ℕ → ℕ → List ℕ → List ℕ
pasted before at bytes = take at before ++ bytes ++ drop (at + length bytes) before

-- bytes were put at `at`, and end before `next`
pub record Put (bytes before : List ℕ) (at : ℕ) (after : List ℕ) (next : ℕ) : Type 0 where
  pub ends : next ≡ at + length bytes
  pub left : after ≡ pasted before at bytes

-- the bytes of the scratch array from `from` on have room in the buffer
pub record CopyFits (from : ℕ) (before : List ℕ) (at : ℕ) : Type 0 where
  pub within : from ≤ scratch_places
  pub room : at + scratch_places ≤ from + length before

-- the byte behind a number that has some numbers behind it on its line
abbrev pub end_byte : ℕ → ℕ
end_byte zero = byte line
end_byte (suc behind) = byte space

-- the numbers of a line, each with the byte behind it
abbrev pub line_text : List ℕ → List ℕ
line_text [] = []
line_text (v ∷ vs) = digits v ++ end_byte (length vs) ∷ line_text vs

-- n lines of w numbers
abbrev pub lines_text : ℕ → ℕ → List ℕ → List ℕ
lines_text zero w vs = []
lines_text (suc n) w vs = line_text (take w vs) ++ lines_text n w (drop w vs)

-- .. behind their count
abbrev pub section_text : ℕ → ℕ → List ℕ → List ℕ
section_text n w vs = digits n ++ byte line ∷ lines_text n w vs

-- the numbers of n lines of w
abbrev pub Ruled : ℕ → ℕ → List ℕ → Type 0
Ruled zero w vs = vs ≡ []
Ruled (suc n) w vs = (w ≤ length vs) × Ruled n w (drop w vs)

-- the bytes that numbers take, each with the byte behind it
abbrev pub needed : List ℕ → ℕ
needed [] = 0
needed (v ∷ vs) = suc (length (digits v)) + needed vs

-- the place behind so many bytes from `at` on, or that the buffer ends before it
abbrev pub Reaches : ℕ → ℕ → ℕ → Option ℕ → Type 0
Reaches bytes at size (Some next) = (next ≡ at + bytes) × (next ≤ size)
Reaches bytes at size None = size < at + bytes

-- lines, or a section, with room in the buffer
pub record LinesFit (count width : ℕ) (flat before : List ℕ) (at : ℕ) : Type 0 where
  pub ruled : Ruled count width flat
  pub room : at + length (lines_text count width flat) ≤ length before

pub record SectionFits (count width : ℕ) (flat before : List ℕ) (at : ℕ) : Type 0 where
  pub ruled : Ruled count width flat
  pub room : at + length (section_text count width flat) ≤ length before

-- the numbers of a sheet's line, and those of the piece lines
pub record TwoSections (sheet : List ℕ) (count : ℕ) (pieces : List ℕ) : Type 0 where
  pub sheet_ruled : Ruled 1 3 sheet
  pub pieces_ruled : Ruled count 4 pieces

-- a job text of these items
abbrev pub JobItems : List ℕ → ℕ → List ℕ → List ℕ → Type 0
JobItems sheet count pieces bytes = Spelled job_text bytes (1 ∷ sheet ++ count ∷ pieces)
