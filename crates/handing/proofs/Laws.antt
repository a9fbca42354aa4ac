-- The types of a slice read one after the other. Assumes nothing.
use mathlib.Core.Path.{◌≡◌, refl, sym, ap, ◌∙◌}
use mathlib.Core.List.{List, [], ◌∷◌, ◌++◌, map}
use Prim.Native.Nat.{ℕ, zero, suc, ◌+◌, ◌*◌, ◌≤◌, ◌<◌}
use native.Mathlib.Omega.{arith}
use native.Mathlib.Numerals.{add-one}
use lib.ListN.{length, take, drop, set, get_or, length-set}
use lib.Seq.{take-suc-set, get_or-drop, take_all}
use Rattle.rules.specs.Limits.{types_most}
use Rattle.rules.specs.Items.{types_from}
use Rattle.rules.proofs.Bags.{map-append}
use Rattle.shapes.specs.Handed.{type_of}
use Rattle.shapes.specs.declared.PieceType.{PieceType}
use Rattle.handing.specs.Slice.{type_at, types_of_slice}

type_behind : (vs : List ℕ) (m k : ℕ) → type_at (drop m vs) k ≡ type_at vs (m + k)
type_behind vs m k = λ i. record { long = get_or-drop m vs k 0 i; wide = further 1 i; profit = further 2 i; demand = further 3 i }
  where
    further : (j : ℕ) → get_or (drop m vs) (k + j) 0 ≡ get_or vs (m + k + j) 0
    further j = get_or-drop m vs (k + j) 0 ∙ (let e : m + (k + j) ≡ m + k + j = omega arith in ap (λ u. get_or vs u 0) e)

-- one type more stands behind the others
types_more : (n : ℕ) (vs : List ℕ) → types_from (suc n) vs ≡ types_from n vs ++ (type_at vs (4 * n) ∷ [])
types_more zero vs = refl
types_more (suc n) vs =
    let e : 4 + 4 * n ≡ 4 * suc n = omega arith in
    ap (λ l. type_at vs 0 ∷ l) (types_more n (drop 4 vs) ∙ ap (λ p. types_from n (drop 4 vs) ++ (p ∷ [])) (type_behind vs 4 (4 * n) ∙ ap (type_at vs) e))

-- while types are read: t of them are
pub record ReadingTypes (vs : List ℕ) (types : List PieceType) (t : ℕ) : Type 0 where
  pub within : t ≤ types_most
  pub size : length types ≡ types_most
  pub read : map type_of (take t types) ≡ types_of_slice t vs

pub types_next : {vs : List ℕ} {types : List PieceType} {t : ℕ} → ReadingTypes vs types t → t < types_most → (p : PieceType) → type_of p ≡ type_at vs (4 + 4 * t) → ReadingTypes vs (set types t p) (t + 1)
types_next {vs} {types} {t} x h p e = record {
  within = omega arith;
  size = length-set types t p ∙ x.size;
  read =
      ap (λ k. map type_of (take k (set types t p))) (add-one t)
      ∙ ap (map type_of) (take-suc-set types t p (omega (arith, x.size)))
      ∙ map-append type_of (take t types) (p ∷ [])
      ∙ ap (λ l. l ++ (type_of p ∷ [])) x.read
      ∙ ap (λ q. types_of_slice t vs ++ (q ∷ [])) (e ∙ sym (type_behind vs 4 (4 * t)))
      ∙ sym (types_more t (drop 4 vs))
      ∙ ap (λ k. types_of_slice k vs) (sym (add-one t));
}

pub types_end : {vs : List ℕ} {types : List PieceType} {t : ℕ} → ReadingTypes vs types t → types_most ≤ t → map type_of types ≡ types_of_slice types_most vs
types_end {vs} {types} {t} x h =
    let e : t ≡ types_most = omega (arith, x.within) in
    ap (map type_of) (sym (take_all t types (omega (arith, x.size)))) ∙ x.read ∙ ap (λ k. types_of_slice k vs) e
