-- The digits of a number, made back to front. Assumes nothing.
use mathlib.Core.Path.{◌≡◌, refl, sym, ap, ◌∙◌, subst}
use mathlib.Core.List.{List, [], ◌∷◌, ◌++◌, append_assoc}
use Prim.Native.Nat.{ℕ, zero, suc, ◌+◌, ◌*◌, ◌/◌, ◌%◌, ◌^◌, ◌-◌, ◌≤◌, ◌<◌}
use native.Mathlib.Omega.{arith}
use lib.ListN.{length, length-drop, drop, set, get_or, length-set, drop_of_length-le}
use lib.Seq.{drop-cons, get_or-set_same, drop-set-lt}
use Rattle.rules.specs.Decimal.{Decimal, digit, more}
use Rattle.rules.proofs.Writing.{decimal_exists, decimal_once}
use Rattle.writing.specs.Steps.{digits, scratch_places, InScratch, Put, CopyFits}
use Rattle.writing.proofs.Paste.{OnTheWay, way_start, way_on, way_end, put_one}

pub are_digits : (n : ℕ) → Decimal (digits n) n
unfolding digits
are_digits n = (decimal_exists n).1

-- the digits before those that were made: none where nothing is left of the number
abbrev pub leading : ℕ → List ℕ
leading zero = []
leading (suc n) = digits (suc n)

-- the last digit, behind those of what is left without it
pub last_digit : (n : ℕ) → digits n ≡ leading (n / 10) ++ ((48 + n % 10) ∷ [])
last_digit n = go (n / 10) refl
  where
    go : (r : ℕ) → n / 10 ≡ r → digits n ≡ leading r ++ ((48 + n % 10) ∷ [])
    go zero e =
        let s : n % 10 ≡ n = omega arith in
        rw s (decimal_once (are_digits n) (digit {d = n} (omega arith)))
    go (suc r) e =
        let s : 10 * suc r + n % 10 ≡ n = omega arith in
        decimal_once (are_digits n) (subst (Decimal (digits (suc r) ++ ((48 + n % 10) ∷ []))) s (more (are_digits (suc r)) (omega arith) (omega arith)))

pub leading_some : (n : ℕ) → 0 < n → leading n ≡ digits n
leading_some zero h = absurd (omega arith)
leading_some (suc n) h = refl

stored_front : (bytes : List ℕ) (i b : ℕ) → i < length bytes → drop i (set bytes i b) ≡ b ∷ drop (suc i) bytes
stored_front bytes i b h =
    let g = get_or-set_same bytes i b 0 h in
    let d = drop-set-lt (suc i) bytes i b (omega arith) in
    drop-cons (set bytes i b) i 0 (omega (arith, length-set bytes i b)) ∙ λ j. g j ∷ d j

-- the digits of n stand in the scratch array but for those of what is left of it
pub record Making (n : ℕ) (bytes : List ℕ) (from rest : ℕ) : Type 0 where
  pub size : length bytes ≡ scratch_places
  pub within : from < scratch_places
  pub small : rest < 10 ^ from
  pub all : leading rest ++ drop from bytes ≡ digits n

-- the first step, which every number has
pub making_first : (n : ℕ) (bytes : List ℕ) → n < 10 ^ scratch_places → length bytes ≡ scratch_places → Making n (set bytes 19 (48 + n % 10)) 19 (n / 10)
making_first n bytes h l =
    record {
      size = length-set bytes 19 (48 + n % 10) ∙ l;
      within = omega arith;
      small = omega arith;
      all = ap (λ r. leading (n / 10) ++ r) (stored_front bytes 19 (48 + n % 10) (omega arith) ∙ ap (λ r. (48 + n % 10) ∷ r) (none bytes l)) ∙ sym (last_digit n);
    }
  where
    none : (bytes : List ℕ) → length bytes ≡ scratch_places → drop scratch_places bytes ≡ []
    none bytes l = drop_of_length-le bytes {i = scratch_places} (omega arith)

module _ {n : ℕ} {bytes : List ℕ} {from rest : ℕ} (m : Making n bytes from rest) where
  -- something is left, so there is a place before
  pub place_before : 0 < rest → 0 < from
  place_before h = go from m.small
    where
      go : (f : ℕ) → rest < 10 ^ f → 0 < f
      go zero k = absurd (omega arith)
      go (suc f) k = omega arith

  pub making_next : 0 < rest → Making n (set bytes (from - 1) (48 + rest % 10)) (from - 1) (rest / 10)
  making_next h = go from refl m.small
    where
      go : (f : ℕ) → from ≡ f → rest < 10 ^ f → Making n (set bytes (from - 1) (48 + rest % 10)) (from - 1) (rest / 10)
      go zero e k = absurd (omega arith)
      go (suc f) e k =
          let p : from - 1 ≡ f = omega arith in
          rw p (record {
            size = length-set bytes f (48 + rest % 10) ∙ m.size;
            within = omega (arith, m.within);
            small = omega arith;
            all =
                ap (λ r. leading (rest / 10) ++ r) (stored_front bytes f (48 + rest % 10) (omega (arith, m.within, m.size)) ∙ ap (λ i. (48 + rest % 10) ∷ drop i bytes) (sym e))
                ∙ sym (append_assoc (leading (rest / 10)) ((48 + rest % 10) ∷ []) (drop from bytes))
                ∙ ap (λ r. r ++ drop from bytes) (sym (last_digit rest) ∙ sym (leading_some rest h)) ∙ m.all;
          })

  pub making_done : rest ≤ 0 → InScratch n bytes from
  making_done h =
      let z : rest ≡ 0 = omega arith in
      record { size = m.size; within = omega (arith, m.within); all = sym (ap (λ r. leading r ++ drop from bytes) z) ∙ m.all }

-- the scratch array is copied up to i
pub record Copying (bytes before : List ℕ) (at from : ℕ) (now : List ℕ) (i next : ℕ) : Type 0 where
  pub within : i ≤ scratch_places
  pub way : OnTheWay (drop from bytes) before at (drop i bytes) now next

-- the copy of what stands in the scratch array
module _ (bytes : List ℕ) (l : length bytes ≡ scratch_places) where
  pub copying_first : (o : List ℕ) (at from : ℕ) → CopyFits from o at → Copying bytes o at from o from at
  copying_first o at from f = record { within = f.within; way = way_start (drop from bytes) o at (omega (arith, f.within, f.room, length-drop from bytes)) }

  module _ {o now : List ℕ} {at from i next : ℕ} (c : Copying bytes o at from now i next) where
    pub copying_room : i < scratch_places → next < length now
    copying_room h = omega (arith, c.way.size, c.way.room, c.way.ends, length-drop i bytes)

    pub copying_next : i < scratch_places → Copying bytes o at from (set now next (get_or bytes i 0)) (i + 1) (next + 1)
    copying_next h =
        let n : suc i ≡ i + 1 = omega arith in
        record { within = omega arith; way = way_on (get_or bytes i 0 ∷ []) (drop (i + 1) bytes) c.way (drop-cons bytes i 0 (omega arith) ∙ ap (λ k. get_or bytes i 0 ∷ drop k bytes) n) (put_one now next (get_or bytes i 0) (copying_room h)) }

    pub copying_done : scratch_places ≤ i → Put (drop from bytes) o at now next
    copying_done h = way_end c.way (drop_of_length-le bytes {i = i} (omega arith))
