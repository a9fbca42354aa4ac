-- One byte of a number, over plain variables. Assumes nothing.
use mathlib.Core.Path.{◌≡◌, refl}
use mathlib.Core.Bool.{Bool, true, false, ◌&&◌, ◌||◌}
use mathlib.Core.List.{List}
use Prim.Native.Nat.{ℕ, ◌+◌, ◌*◌, ◌-◌, ◌^◌, ◌≤◌, ◌<◌}
use native.Mathlib.Omega.{arith}
use native.Mathlib.Numerals.{add-one}
use native.Mathlib.Nat.{pow-le-pow_right, mul_comm}
use lib.ListN.{length, drop, get_or, drop_of_length-le}
use lib.Seq.{drop-cons}
use lib.Dec.{eqb, leb, ltb}
use borrow.Author.Tests.{leb-true, ltb-true, eqb-true, lt-ltb, le-ltb, eq-eqb, ne_eqb}
use Rattle.rules.specs.Limits.{digits_most}
use Rattle.rules.proofs.Reading.{is_digit, room}
use Rattle.rules.proofs.Bools.{and_both, both_and}
use Rattle.reader.specs.Number.{number_from}
use Rattle.std.specs.Prelude.{Ok, Err}

module _ (e : ℕ) (s : List ℕ) (i n v : ℕ) where
  pub out : length s ≤ i → number_from e i n v (drop i s) ≡ Err (record { place = i })
  out h = rw (drop_of_length-le s h)

  module _ (h : i < length s) where
    pub one_digit : (is_digit (get_or s i 0) && room n v) ≡ true → number_from e i n v (drop i s) ≡ number_from e (i + 1) (n + 1) (v * 10 + (get_or s i 0 - 48)) (drop (i + 1) s)
    one_digit p = rw (add-one i, add-one n, mul_comm v 10, drop-cons s i 0 h, p, number_from)

    pub number : (is_digit (get_or s i 0) && room n v) ≡ false → get_or s i 0 ≡ e → 0 < n → number_from e i n v (drop i s) ≡ Ok (v, i + 1)
    number p q z = rw (add-one i, drop-cons s i 0 h, p, both_and (eq-eqb (get_or s i 0) e q) (lt-ltb 0 n z), number_from)

    pub no_digit_yet : (is_digit (get_or s i 0) && room n v) ≡ false → n ≤ 0 → number_from e i n v (drop i s) ≡ Err (record { place = i })
    no_digit_yet p z = rw (drop-cons s i 0 h, p, none (eqb (get_or s i 0) e), number_from)
      where
        none : (b : Bool) → (b && ltb 0 n) ≡ false
        none true = le-ltb 0 n z
        none false = refl

    pub other_byte : (is_digit (get_or s i 0) && room n v) ≡ false → (get_or s i 0 ≡ e → ⊥) → number_from e i n v (drop i s) ≡ Err (record { place = i })
    other_byte p q = rw (drop-cons s i 0 h, p, ne_eqb (get_or s i 0) e q, number_from)

pub record Grows (b n v : ℕ) : Type 0 where
  pub low : 48 ≤ b
  pub high : b < 58
  pub few : n < digits_most
  pub fits : v * 10 + (b - 48) < 10 ^ (n + 1)
  pub small : v < 10000000

pub grows : {b n v : ℕ} → v < 10 ^ n → (is_digit b && room n v) ≡ true → Grows b n v
grows {b} {n} {v} h e =
    let p = and_both (is_digit b) (room n v) e in
    let q = and_both (leb 48 b) (ltb b 58) p.0 in
    let lo = leb-true 48 b q.0 in
    let hi = ltb-true b 58 q.1 in
    let f = few n v p.1 in
    let z : n ≤ 7 = omega arith in
    let o : 0 < 10 = omega arith in
    let t : 10 ^ n ≤ 10 ^ 7 = pow-le-pow_right o z in
    record { low = lo; high = hi; few = f; fits = rw (add-one n) (omega arith); small = omega arith }
  where
    few : (n v : ℕ) → room n v ≡ true → n < digits_most
    few n v e = go (eqb n 0) refl e
      where
        go : (b : Bool) → eqb n 0 ≡ b → (b || (ltb 0 v && ltb n digits_most)) ≡ true → n < digits_most
        go true p e = omega (arith, eqb-true n 0 p)
        go false p e = ltb-true n digits_most (and_both (ltb 0 v) (ltb n digits_most) e).1
