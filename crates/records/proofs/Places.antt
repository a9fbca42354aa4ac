-- The entries of records, and the first place at which a test holds, with one record more. Assumes nothing.
use mathlib.Core.Path.{◌≡◌, refl, ap, ◌∙◌}
use mathlib.Core.Bool.{Bool, true, false}
use mathlib.Core.Option.{Option, none, some}
use mathlib.Core.List.{List, [], ◌∷◌, ◌++◌}
use Prim.Native.Nat.{ℕ, suc, ◌+◌, ◌*◌}
use native.Mathlib.Omega.{arith}
use lib.ListN.{length}
use Rattle.rules.specs.Numbers.{Entry, entries}
use Rattle.rules.specs.Checker.{first_place}
use Rattle.shapes.specs.Handed.{entry_of}
use Rattle.shapes.specs.declared.Placement.{Placement}
use Rattle.placing.specs.Place.{NoneAt}
use Rattle.records.specs.Scan.{flat_of, onto, behind, FirstIs}

pub entries_more : (ps : List Placement) (p : Placement) → entries (flat_of (ps ++ (p ∷ []))) ≡ entries (flat_of ps) ++ (entry_of p ∷ [])
entries_more [] p = refl
entries_more (q ∷ ps) p = ap {B = List Entry} (λ l. entry_of q ∷ l) (entries_more ps p)

pub flat_more : (ps : List Placement) (p : Placement) → flat_of (ps ++ (p ∷ [])) ≡ flat_of ps ++ (p.kind ∷ p.x ∷ p.y ∷ [])
flat_more [] p = refl
flat_more (q ∷ ps) p = ap {B = List ℕ} (λ l. q.kind ∷ q.x ∷ q.y ∷ l) (flat_more ps p)

pub length-flat : (ps : List Placement) → length (flat_of ps) ≡ length ps * 3
length-flat [] = refl
length-flat (p ∷ ps) = omega (arith, length-flat ps)

pub length_entries_flat : (ps : List Placement) → length (entries (flat_of ps)) ≡ length ps
length_entries_flat [] = refl
length_entries_flat (p ∷ ps) = ap suc (length_entries_flat ps)

onto_more : (l b : List Entry) (e : Entry) → onto (l ++ (e ∷ [])) b ≡ e ∷ onto l b
onto_more [] b e = refl
onto_more (u ∷ l) b e = onto_more l (u ∷ b) e

pub behind_more : (ps : List Placement) (p : Placement) → behind (ps ++ (p ∷ [])) ≡ entry_of p ∷ behind ps
behind_more ps p = ap (λ l. onto l []) (entries_more ps p) ∙ onto_more (entries (flat_of ps)) [] (entry_of p)

module _ (f : List Entry → Entry → Bool) where
  kept : (i : ℕ) (b l : List Entry) (e : Entry) {k : ℕ} → first_place f i b l ≡ some k → first_place f i b (l ++ (e ∷ [])) ≡ some k
  kept i b [] e h = absurd (let z : ◌≡◌ {A = ℕ} 0 1 = cc in omega arith)
  kept i b (u ∷ l) e {k} h = go (f b u) (kept (suc i) (u ∷ b) l e) h
    where
      go : (t : Bool) → (first_place f (suc i) (u ∷ b) l ≡ some k → first_place f (suc i) (u ∷ b) (l ++ (e ∷ [])) ≡ some k) → elim t as (λ (t : Bool). Option ℕ) [ true ↦ some i | false ↦ first_place f (suc i) (u ∷ b) l ] ≡ some k → elim t as (λ (t : Bool). Option ℕ) [ true ↦ some i | false ↦ first_place f (suc i) (u ∷ b) (l ++ (e ∷ [])) ] ≡ some k
      go true r h = h
      go false r h = r h

  more : (i : ℕ) (b l : List Entry) (e : Entry) → first_place f i b l ≡ none → first_place f i b (l ++ (e ∷ [])) ≡ elim (f (onto l b) e) as (λ (t : Bool). Option ℕ) [ true ↦ some (i + length l) | false ↦ none ]
  more i b [] e h = let z : i ≡ i + 0 = omega arith in ap (λ k. elim (f b e) as (λ (t : Bool). Option ℕ) [ true ↦ some k | false ↦ none ]) z
  more i b (u ∷ l) e h = go (f b u) (more (suc i) (u ∷ b) l e) h
    where
      z : suc i + length l ≡ i + suc (length l)
      z = omega arith

      go : (t : Bool) → (first_place f (suc i) (u ∷ b) l ≡ none → first_place f (suc i) (u ∷ b) (l ++ (e ∷ [])) ≡ elim (f (onto l (u ∷ b)) e) as (λ (t : Bool). Option ℕ) [ true ↦ some (suc i + length l) | false ↦ none ]) → ◌≡◌ {A = Option ℕ} (elim t as (λ (t : Bool). Option ℕ) [ true ↦ some i | false ↦ first_place f (suc i) (u ∷ b) l ]) none → ◌≡◌ {A = Option ℕ} (elim t as (λ (t : Bool). Option ℕ) [ true ↦ some i | false ↦ first_place f (suc i) (u ∷ b) (l ++ (e ∷ [])) ]) (elim (f (onto l (u ∷ b)) e) as (λ (t : Bool). Option ℕ) [ true ↦ some (i + suc (length l)) | false ↦ none ])
      go true r h = absurd (let z : ◌≡◌ {A = ℕ} 0 1 = cc in omega arith)
      go false r h = r h ∙ ap (λ k. elim (f (onto l (u ∷ b)) e) as (λ (t : Bool). Option ℕ) [ true ↦ some k | false ↦ none ]) z

  module _ (ps : List Placement) (p : Placement) where
    pub place_kept : {i : ℕ} → FirstIs f ps i → FirstIs f (ps ++ (p ∷ [])) i
    place_kept h = ap (first_place f 0 []) (entries_more ps p) ∙ kept 0 [] (entries (flat_of ps)) (entry_of p) h

    place_next : {t : Bool} → NoneAt f (flat_of ps) → f (behind ps) (entry_of p) ≡ t → first_place f 0 [] (entries (flat_of (ps ++ (p ∷ [])))) ≡ elim t as (λ (t : Bool). Option ℕ) [ true ↦ some (length ps) | false ↦ none ]
    place_next {t} h e =
        let z : 0 + length (entries (flat_of ps)) ≡ length ps = omega (arith, length_entries_flat ps) in
        ap (first_place f 0 []) (entries_more ps p) ∙ more 0 [] (entries (flat_of ps)) (entry_of p) h
        ∙ ap (λ k. elim (f (behind ps) (entry_of p)) as (λ (t : Bool). Option ℕ) [ true ↦ some k | false ↦ none ]) z
        ∙ ap (λ t. elim t as (λ (t : Bool). Option ℕ) [ true ↦ some (length ps) | false ↦ none ]) e

    pub place_none : NoneAt f (flat_of ps) → f (behind ps) (entry_of p) ≡ false → NoneAt f (flat_of (ps ++ (p ∷ [])))
    place_none h e = place_next h e

    pub place_here : NoneAt f (flat_of ps) → f (behind ps) (entry_of p) ≡ true → FirstIs f (ps ++ (p ∷ [])) (length ps)
    place_here h e = place_next h e
