-- Bytes put one behind the other over those of a buffer. Assumes nothing.
use mathlib.Core.Path.{◌≡◌, refl, sym, ap, ◌∙◌}
use mathlib.Core.List.{List, [], ◌∷◌, ◌++◌, append_assoc, append-nil}
use Prim.Native.Nat.{ℕ, suc, ◌+◌, ◌≤◌, ◌<◌}
use native.Mathlib.Omega.{arith}
use lib.ListN.{length, take, drop, set, length-append, length-take, length-drop, take-append-drop, drop_of_length-le}
use lib.Seq.{set_split, sets-eq, take_at, drop_at, drop-drop}
use Rattle.writing.specs.Steps.{pasted, Put}

pub pasted_none : (o : List ℕ) (a : ℕ) → pasted o a [] ≡ o
pasted_none o a =
    let z : a + 0 ≡ a = omega arith in
    rw (append-nil (take a o), z) (take-append-drop a o)

pub length_pasted : (o : List ℕ) (a : ℕ) (xs : List ℕ) → a + length xs ≤ length o → length (pasted o a xs) ≡ length o
length_pasted o a xs h = simp (length-append, length-take, length-drop) (omega arith)

-- what is put behind what was put
pub pasted_on : (o : List ℕ) (a : ℕ) (xs ys : List ℕ) → a + length xs ≤ length o → pasted (pasted o a xs) (a + length xs) ys ≡ pasted o a (xs ++ ys)
pasted_on o a xs ys h =
    let l : length (take a o ++ xs) ≡ a + length xs = simp (length-append, length-take) (omega arith) in
    let t : take (a + length xs) (pasted o a xs) ≡ take a o ++ xs = take_at (take a o ++ xs) (drop (a + length xs) o) (a + length xs) l in
    let s : drop (a + length xs) (pasted o a xs) ≡ drop (a + length xs) o = drop_at (take a o ++ xs) (drop (a + length xs) o) (a + length xs) l in
    let n : a + length xs + length ys ≡ a + length (xs ++ ys) = omega (arith, length-append xs ys) in
    let d : drop (a + length xs + length ys) (pasted o a xs) ≡ drop (a + length (xs ++ ys)) o =
    sym (drop-drop (length ys) (a + length xs) (pasted o a xs)) ∙ ap (drop (length ys)) s ∙ drop-drop (length ys) (a + length xs) o ∙ ap (λ k. drop k o) n in
    rw (t, d, append_assoc (take a o) xs ys)

-- a store puts one byte
pub put_one : (o : List ℕ) (a b : ℕ) → a < length o → Put (b ∷ []) o a (set o a b) (a + 1)
put_one o a b h =
    let e : suc a ≡ a + 1 = omega arith in
    record { ends = refl; left = set_split o a b h ∙ ap (λ n. take a o ++ b ∷ drop n o) e ∙ sym (append_assoc (take a o) (b ∷ []) (drop (a + 1) o)) }

-- of the whole, the rest is still to be put, from `next` on
pub record OnTheWay (whole before : List ℕ) (at : ℕ) (rest now : List ℕ) (next : ℕ) : Type 0 where
  pub size : length now ≡ length before
  pub room : at + length whole ≤ length before
  pub ends : next + length rest ≡ at + length whole
  pub left : pasted now next rest ≡ pasted before at whole

pub way_start : (whole o : List ℕ) (at : ℕ) → at + length whole ≤ length o → OnTheWay whole o at whole o at
way_start whole o at h = record { size = refl; room = h; ends = refl; left = refl }

-- one part of the rest is put
pub way_on : {whole o : List ℕ} {at : ℕ} {rest now after : List ℕ} {next then : ℕ} (part more : List ℕ) → OnTheWay whole o at rest now next → rest ≡ part ++ more → Put part now next after then → OnTheWay whole o at more after then
way_on {whole} {o} {at} {rest} {now} {after} {next} {then} part more w e p =
    let k : length rest ≡ length part + length more = ap length e ∙ length-append part more in
    let h : next + length part ≤ length now = omega (arith, w.size, w.room, w.ends) in
    record {
      size = ap length p.left ∙ length_pasted now next part h ∙ w.size;
      room = w.room;
      ends = omega (arith, p.ends, w.ends);
      left =
          ap (λ l. pasted l then more) p.left ∙ ap (λ n. pasted (pasted now next part) n more) p.ends ∙ pasted_on now next part more h ∙ ap (pasted now next) (sym e) ∙ w.left;
    }

pub way_end : {whole o : List ℕ} {at : ℕ} {rest now : List ℕ} {next : ℕ} → OnTheWay whole o at rest now next → rest ≡ [] → Put whole o at now next
way_end {now = now} {next = next} w e = record { ends = omega (arith, w.ends, ap length e); left = sym (pasted_none now next) ∙ ap (pasted now next) (sym e) ∙ w.left }

-- two parts one behind the other
pub put_both : {xs ys o m n : List ℕ} {a b c : ℕ} → a + length (xs ++ ys) ≤ length o → Put xs o a m b → Put ys m b n c → Put (xs ++ ys) o a n c
put_both {xs} {ys} {o} {m} {n} {a} {b} {c} h p q =
    way_end (way_on ys [] (way_on xs ys (way_start (xs ++ ys) o a h) refl p) (sym (append-nil ys)) q) refl

-- four stores, one behind the other
pub put_four : (o : List ℕ) (at a b c d : ℕ) → at + 4 ≤ length o → Put (a ∷ b ∷ c ∷ d ∷ []) o at (set (set (set (set o at a) (at + 1) b) (at + 2) c) (at + 3) d) (at + 4)
put_four o at a b c d h =
    let p : at + 1 ≡ suc at = omega arith in
    let q : at + 2 ≡ suc (suc at) = omega arith in
    let r : at + 3 ≡ suc (suc (suc at)) = omega arith in
    record { ends = refl; left = (λ j. set (set (set (set o at a) (p j) b) (q j) c) (r j) d) ∙ sets-eq (a ∷ b ∷ c ∷ d ∷ []) o at h }

-- as many as there are, so that none stays
pub pasted_all : (o xs : List ℕ) → length xs ≡ length o → pasted o 0 xs ≡ xs
pasted_all o xs e = ap (λ l. xs ++ l) (drop_of_length-le o {i = 0 + length xs} (omega arith)) ∙ append-nil xs
