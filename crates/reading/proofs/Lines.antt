-- Reading a line of numbers, and lines one after the other. Assumes nothing.
use mathlib.Core.Path.{◌≡◌, refl, sym, ap, ◌∙◌, subst}
use mathlib.Core.List.{List, [], ◌∷◌, ◌++◌}
use Prim.Native.Nat.{ℕ, zero, suc, ◌+◌, ◌-◌, ◌≤◌, ◌<◌}
use native.Mathlib.Omega.{arith}
use native.Mathlib.Numerals.{add-one}
use lib.ListN.{length, take, set, replicate, length-set, length-replicate}
use Rattle.std.proofs.lemmas.List.{take_all}
use lib.Seq.{take-suc-set}
use Rattle.rules.specs.Text.{End, byte, space, line, Script, num, a_line, some_lines}
use Rattle.std.specs.Prelude.{Ok, Err}
use Rattle.reader.specs.Number.{number_at}
use Rattle.reader.specs.declared.Stray.{Stray}
use Rattle.reading.specs.Walked.{Strays, Arrives, InLine, Passed, InLines}
use Rattle.reading.proofs.Walks.{walk_start, walk_is, walk_is_not, walk_on, walk_stops, walk_same}

same_line : {k m : ℕ} → k ≡ m → (s : Script) → a_line k s ≡ a_line m s
same_line e s = ap (λ n. a_line n s) e

pub in_line_start : {t : List ℕ} {from : ℕ} (w : ℕ) → InLine t from w (replicate w 0) from 0
in_line_start {t} {from} w = record { within = omega arith; size = length-replicate w 0; walking = walk_same (walk_start (a_line w) t from) refl (same_line {k = w} {m = w - 0} (omega arith)) }

-- what ends a number of a line that has k numbers left, this one among them, and what the line then asks for
pub record Next (k b : ℕ) : Type 0 where
  pub ending : End
  pub is : byte ending ≡ b
  pub asks : (s : Script) → a_line k s ≡ num ending (λ v. a_line (k - 1) s)

pub next_of : (k b : ℕ) → 0 < k → (1 < k → b ≡ 32) → (k ≤ 1 → b ≡ 10) → Next k b
next_of zero b h p q = absurd (omega arith)
next_of (suc zero) b h p q = record { ending = line; is = sym (q (omega arith)); asks = λ s. refl }
next_of (suc (suc k)) b h p q = record { ending = space; is = sym (p (omega arith)); asks = λ s. let e : suc k ≡ suc (suc k) - 1 = omega arith in ap (λ m. num space (λ v. a_line m s)) e }

module _ {t u : List ℕ} {from w at j b : ℕ} {numbers : List ℕ} (x : InLine t from w numbers at j) (same : u ≡ t) (h : j < w) (n : Next (w - j) b) where
  number_is : {r : _} → number_at b u at ≡ r → number_at (byte n.ending) t at ≡ r
  number_is e = ap (λ k. number_at k t at) n.is ∙ ap (λ v. number_at b v at) (sym same) ∙ e

  stored : (v : ℕ) → take j numbers ++ (v ∷ []) ≡ take (j + 1) (set numbers j v)
  stored v = let k : j < length numbers = omega (arith, x.size) in sym (ap (λ k. take k (set numbers j v)) (add-one j) ∙ take-suc-set numbers j v k)

  pub in_line_next : (v next : ℕ) → number_at b u at ≡ Ok (v, next) → InLine t from w (set numbers j v) next (j + 1)
  in_line_next v next e = record {
    within = omega arith;
    size = length-set numbers j v ∙ x.size;
    walking = walk_same (walk_is x.walking n.ending (λ v. a_line (w - j - 1)) n.asks v next (number_is e)) (stored v) (same_line {k = w - j - 1} {m = w - (j + 1)} (omega arith));
  }

  pub in_line_stops : (stray : Stray) → number_at b u at ≡ Err stray → Strays (a_line w) t from stray
  in_line_stops stray e = walk_is_not x.walking n.ending (λ v. a_line (w - j - 1)) n.asks stray (number_is e)

pub in_line_end : {t : List ℕ} {from w at j : ℕ} {numbers : List ℕ} → InLine t from w numbers at j → w ≤ j → Arrives (a_line w) t from (λ ns vs. vs ≡ ns) numbers at
in_line_end {w = w} {j = j} {numbers = numbers} x h = record {
  numbers = numbers;
  told = refl;
  walked = walk_same x.walking (take_all _ numbers (omega (arith, x.size))) (let e : w - j ≡ 0 = omega arith in same_line e);
}

-- lines one after the other: the next one, and none
pub asks_lines : (w n i : ℕ) → i < n → (s : Script) → some_lines (n - i) w s ≡ a_line w (some_lines (n - (i + 1)) w s)
asks_lines w n i h s = let e : n - i ≡ suc (n - (i + 1)) = omega arith in ap (λ m. some_lines m w s) e

pub no_lines : (w n i : ℕ) → n ≤ i → (s : Script) → some_lines (n - i) w s ≡ s
no_lines w n i h s = let e : n - i ≡ 0 = omega arith in ap (λ m. some_lines m w s) e

pub all_lines : (w n : ℕ) (s : Script) → some_lines n w s ≡ some_lines (n - 0) w s
all_lines w n s = let e : n ≡ n - 0 = omega arith in ap (λ m. some_lines m w s) e

pub in_lines_start : {t : List ℕ} {from n w : ℕ} → InLines t from n w from 0
in_lines_start {t} {from} {n} {w} = record { within = omega arith; numbers = []; walking = walk_same (walk_start (some_lines n w) t from) refl (all_lines w n) }

module _ {t u : List ℕ} {from n w at i : ℕ} (x : InLines t from n w at i) (same : u ≡ t) where
  pub in_lines_next : i < n → {A : Type 0} {Told : A → List ℕ → Type 0} {a : A} {next : ℕ} → Arrives (a_line w) u at Told a next → InLines t from n w next (i + 1)
  in_lines_next h {Told = Told} {a = a} {next = next} z = let y = subst (λ v. Arrives (a_line w) v at Told a next) same z in record { within = omega arith; numbers = x.numbers ++ y.numbers; walking = walk_on x.walking (a_line w) (some_lines (n - (i + 1)) w) (asks_lines w n i h) y.numbers next y.walked }

  pub in_lines_stops : i < n → {stray : Stray} → Strays (a_line w) u at stray → Strays (some_lines n w) t from stray
  in_lines_stops h {stray} y = walk_stops x.walking (a_line w) (some_lines (n - (i + 1)) w) (asks_lines w n i h) (subst (λ v. Strays (a_line w) v at stray) same y)

pub in_lines_end : {t : List ℕ} {from n w at i : ℕ} → InLines t from n w at i → n ≤ i → Passed (some_lines n w) t from at
in_lines_end {n = n} {w = w} {i = i} x h = record { numbers = x.numbers; walked = walk_same x.walking refl (no_lines w n i h) }
