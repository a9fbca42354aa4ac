-- Placement lines read one after the other into flat numbers. Assumes nothing.
use mathlib.Core.Path.{◌≡◌, refl, sym, ap, ◌∙◌, subst}
use mathlib.Core.List.{List, ◌++◌}
use Prim.Native.Nat.{ℕ, ◌+◌, ◌-◌, ◌*◌, ◌≤◌, ◌<◌}
use native.Mathlib.Omega.{arith}
use lib.ListN.{length, take, drop}
use lib.Seq.{drop-drop}
use borrow.Rule.Slice.PartMut.{put_mid}
use Rattle.std.proofs.lemmas.Slice.{take-put_mid, drop-put_mid}
use Rattle.rules.specs.Text.{a_line, some_lines}
use Rattle.reader.specs.declared.Stray.{Stray}
use Rattle.reading.specs.Walked.{Strays, Arrives}
use Rattle.reading.specs.Placements.{numbers_of_placements, PlacementsRead, InPlacements}
use Rattle.reading.proofs.Walks.{walk_start, walk_on, walk_stops, walk_same}
use Rattle.reading.proofs.Lines.{asks_lines, no_lines, all_lines}

pub in_placements_start : {t : List ℕ} {from n : ℕ} {was : List ℕ} → InPlacements t from n was was from 0
in_placements_start {t} {from} {n} = record { within = omega arith; size = refl; walking = walk_same (walk_start (some_lines n 3) t from) refl (all_lines 3 n); rest = refl }

-- a line's three numbers behind those of i lines
abbrev pub with_line : ℕ → List ℕ → List ℕ → List ℕ
with_line i now ns = put_mid (i * 3) (i * 3 + 3 - i * 3) now ns

module _ (i : ℕ) (now ns : List ℕ) (l : length ns ≡ 3) (h : i * 3 + 3 ≤ length now) where
  line_taken : take (numbers_of_placements i) now ++ ns ≡ take (numbers_of_placements (i + 1)) (with_line i now ns)
  line_taken =
      let e : i * 3 ≡ numbers_of_placements i = omega arith in
      ap (λ k. take k now ++ ns) (sym e) ∙ sym (take-put_mid (i * 3) (i * 3 + 3 - i * 3) now ns (numbers_of_placements (i + 1)) (omega arith) (omega arith))

  line_dropped : drop (numbers_of_placements (i + 1)) (with_line i now ns) ≡ drop (numbers_of_placements (i + 1)) now
  line_dropped = drop-put_mid (i * 3) (i * 3 + 3 - i * 3) now ns (numbers_of_placements (i + 1)) (omega arith) (omega arith) (omega arith)

module _ {t u : List ℕ} {from n at i : ℕ} {was now : List ℕ} (x : InPlacements t from n was now at i) (h : i < n) (same : u ≡ t) where
  pub in_placements_next : numbers_of_placements n ≤ length was → (ns : List ℕ) → length ns ≡ 3 → {next : ℕ} → Arrives (a_line 3) u at (λ us vs. vs ≡ us) ns next → (later : List ℕ) → later ≡ with_line i now ns → length later ≡ length now → InPlacements t from n was later next (i + 1)
  in_placements_next room ns l {next} y later k z =
      let y = subst (λ v. Arrives (a_line 3) v at (λ us vs. vs ≡ us) ns next) same y in
      let r : i * 3 + 3 ≤ length now = omega (arith, x.size) in
      let m : numbers_of_placements i + 3 ≡ numbers_of_placements (i + 1) = omega arith in
      record {
        within = omega arith;
        size = z ∙ x.size;
        walking = walk_same (walk_on x.walking (a_line 3) (some_lines (n - (i + 1)) 3) (asks_lines 3 n i h) y.numbers next y.walked) (ap (λ q. take (numbers_of_placements i) now ++ q) y.told ∙ line_taken i now ns l r ∙ ap (take (numbers_of_placements (i + 1))) (sym k)) (λ s. refl);
        rest = ap (drop (numbers_of_placements (i + 1))) k ∙ line_dropped i now ns l r ∙ ap (λ q. drop q now) (sym m) ∙ sym (drop-drop 3 (numbers_of_placements i) now) ∙ ap (drop 3) x.rest ∙ drop-drop 3 (numbers_of_placements i) was ∙ ap (λ q. drop q was) m;
      }

  pub in_placements_stops : {stray : Stray} → Strays (a_line 3) u at stray → Strays (some_lines n 3) t from stray
  in_placements_stops {stray} y = walk_stops x.walking (a_line 3) (some_lines (n - (i + 1)) 3) (asks_lines 3 n i h) (subst (λ v. Strays (a_line 3) v at stray) same y)

pub in_placements_end : {t : List ℕ} {from n at i : ℕ} {was now : List ℕ} → InPlacements t from n was now at i → n ≤ i → PlacementsRead t from n was now at
in_placements_end {n = n} {i = i} {was = was} {now = now} x h =
    let e : i ≡ n = omega (arith, x.within) in
    record {
      size = x.size;
      walked = walk_same x.walking (ap (λ k. take (numbers_of_placements k) now) e) (no_lines 3 n i h);
      rest = ap (λ k. drop (numbers_of_placements k) now) (sym e) ∙ x.rest ∙ ap (λ k. drop (numbers_of_placements k) was) e;
    }
