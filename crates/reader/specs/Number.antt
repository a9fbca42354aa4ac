-- The number at a place of a text, byte by byte; proofs/Follow shows that the grammar's reading is made of it. Assumes nothing.
use Rattle.std.specs.Prelude.{true, false, ◌&&◌, List, [], ◌∷◌, ℕ, suc, ◌+◌, ◌*◌, ◌-◌, drop, eqb, ltb, Result, Ok, Err}
use Rattle.reader.specs.declared.Stray.{Stray}
use Rattle.rules.proofs.Reading.{is_digit, room}

-- at byte i of the text, with n digits read, whose value is v; e is the byte that ends the number
abbrev pub number_from : ℕ → ℕ → ℕ → ℕ → List ℕ → Result (ℕ × ℕ) Stray
number_from e i n v [] = Err (record { place = i })
number_from e i n v (b ∷ t) =
    elim (is_digit b && room n v) [
      | true ↦ number_from e (suc i) (suc n) (10 * v + (b - 48)) t
      | false ↦ elim (eqb b e && ltb 0 n) [ true ↦ Ok (v, suc i) | false ↦ Err (record { place = i }) ]
    ]

abbrev pub number_at : ℕ → List ℕ → ℕ → Result (ℕ × ℕ) Stray
number_at e t at = number_from e at 0 0 (drop at t)
