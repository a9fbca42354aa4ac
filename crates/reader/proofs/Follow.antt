-- Reading a script is reading a number and then what follows it: how the reader is put together from `number`. Assumes nothing.
use mathlib.Core.Path.{◌≡◌, refl, ap, ◌∙◌}
use mathlib.Core.Bool.{Bool, true, false, ◌&&◌}
use mathlib.Core.List.{List, [], ◌∷◌}
use Prim.Native.Nat.{ℕ, suc, ◌+◌, ◌*◌, ◌-◌}
use lib.ListN.{drop}
use lib.Seq.{drop-drop}
use lib.Dec.{eqb, ltb}
use native.Mathlib.Numerals.{add-one}
use Rattle.rules.specs.Text.{Script, num, End, byte}
use Rattle.rules.proofs.Reading.{Read, stop, read, noted, is_digit, room}
use Rattle.reader.specs.Number.{number_from, number_at}
use Rattle.std.specs.Prelude.{Result, Ok, Err}
use Rattle.reader.specs.declared.Stray.{Stray}

abbrev pub follow : (ℕ → Script) → List ℕ → Result (ℕ × ℕ) Stray → Read
follow k s (Ok (w, j)) = noted w (read (k w) j 0 0 (drop j s))
follow k s (Err stray) = stop stray.place

tail_of : {b : ℕ} {t : List ℕ} (s : List ℕ) (i : ℕ) → b ∷ t ≡ drop i s → t ≡ drop (suc i) s
tail_of s i e = ap (drop 1) e ∙ drop-drop 1 i s ∙ rw (add-one i)

go : (e : End) (k : ℕ → Script) (s : List ℕ) (t : List ℕ) (i n v : ℕ) → t ≡ drop i s → read (num e k) i n v t ≡ follow k s (number_from (byte e) i n v t)
go e k s [] i n v p = refl
go e k s (b ∷ t) i n v p = step (is_digit b && room n v) (eqb b (byte e) && ltb 0 n) (go e k s t (suc i) (suc n) (10 * v + (b - 48)) (tail_of s i p))
  where
    step : (x y : Bool) → read (num e k) (suc i) (suc n) (10 * v + (b - 48)) t ≡ follow k s (number_from (byte e) (suc i) (suc n) (10 * v + (b - 48)) t) →
        elim x as (λ (c : Bool). Read) [ true ↦ read (num e k) (suc i) (suc n) (10 * v + (b - 48)) t | false ↦ elim y as (λ (c : Bool). Read) [ true ↦ noted v (read (k v) (suc i) 0 0 t) | false ↦ stop i ] ]
        ≡ follow k s (elim x as (λ (c : Bool). Result (ℕ × ℕ) Stray) [ true ↦ number_from (byte e) (suc i) (suc n) (10 * v + (b - 48)) t | false ↦ elim y as (λ (c : Bool). Result (ℕ × ℕ) Stray) [ true ↦ Ok (v, suc i) | false ↦ Err (record { place = i }) ] ])
    step true y r = r
    step false true r = ap (λ l. noted v (read (k v) (suc i) 0 0 l)) (tail_of s i p)
    step false false r = refl

pub read_number : (e : End) (k : ℕ → Script) (s : List ℕ) (at : ℕ) → read (num e k) at 0 0 (drop at s) ≡ follow k s (number_at (byte e) s at)
read_number e k s at = go e k s (drop at s) at 0 0 refl
