-- Lists with one element more: distinct, and valid. Assumes nothing.
use mathlib.Core.Path.{◌≡◌, refl, sym, ap₂, ◌∙◌, subst}
use mathlib.Core.Logic.{◌⊎◌, inl, inr}
use mathlib.Core.List.Memᴰ
use mathlib.Core.List.{List, [], ◌∷◌, ◌++◌, Memᴰ}
use Prim.Native.Nat.{ℕ, zero, suc, ◌≤◌, ◌<◌}
use native.Mathlib.Omega.{arith}
use native.Mathlib.Decide.{ℕ_discrete}
use lib.ListN.{length, get_or, length-append, length-map, get_or-append}
use lib.Seq.{get_or_at}
use Rattle.rules.specs.Bag.{All, nil, cons}
use Rattle.rules.specs.Made.{Distinct, no_one, new, MoreThan}
use Rattle.rules.specs.Job.{Job, Outline, Build}
use Rattle.rules.proofs.Bags.{all_append, map-append}
use Rattle.rules.proofs.Bridge.{join}
use Rattle.rules.proofs.Unfold.{Maker, piece, joined, Rec, no_rec, at, MadeBy, Valid}
use Rattle.outlines.specs.Listing.{outlines_of, Sound}

module _ {A : Type 0} where
  pub distinct_snoc : {a : A} {l : List A} → Distinct l → ¬ Memᴰ a l → Distinct (l ++ (a ∷ []))
  distinct_snoc no_one n = new Memᴰ.not-nil no_one
  distinct_snoc {a} (new {a = x} {l = l} m d) n = new (λ k. go (Memᴰ.append_cases l k)) (distinct_snoc d (λ k. n (Memᴰ.tail k)))
    where
      go : Memᴰ x l ⊎ Memᴰ x (a ∷ []) → ⊥
      go (inl k) = m k
      go (inr k) = n (Memᴰ.head (sym (Memᴰ.eq_of_singleton k)))

  pub mem_at : (d : A) (l : List A) (i : ℕ) → i < length l → Memᴰ (get_or l i d) l
  mem_at d [] i h = absurd (omega arith)
  mem_at d (x ∷ l) zero h = Memᴰ.head refl
  mem_at d (x ∷ l) (suc i) h = Memᴰ.tail (mem_at d l i (omega arith))

-- a record's halves stand where they stood
made_grow : (j : Job) (rs ts : List Rec) (i : ℕ) (o : Outline) (m : Maker) → i ≤ length rs → MadeBy j rs i o m → MadeBy j (rs ++ ts) i o m
made_grow j rs ts i o (piece s) h p = p
made_grow j rs ts i o (joined w a b) h p =
    let e = get_or-append rs ts no_rec a (omega (arith, p.0)) in
    let f = get_or-append rs ts no_rec b (omega (arith, p.1)) in
    (p.0, p.1, p.2 ∙ ap₂ (λ (x y : Rec). join w x.outline y.outline) (sym e) (sym f))

valid_more : (j : Job) (rs : List Rec) (r : Rec) → Valid j rs → MadeBy j rs (length rs) r.outline r.maker → Valid j (rs ++ (r ∷ []))
valid_more j rs r v m i h = go (ℕ_discrete i (length rs))
  where
    this : at (rs ++ (r ∷ [])) (length rs) ≡ r
    this = get_or_at rs r [] no_rec (length rs) refl

    go : Dec (i ≡ length rs) → MadeBy j (rs ++ (r ∷ [])) i (at (rs ++ (r ∷ [])) i).outline (at (rs ++ (r ∷ [])) i).maker
    go (yes e) = subst (λ k. MadeBy j (rs ++ (r ∷ [])) k (at (rs ++ (r ∷ [])) k).outline (at (rs ++ (r ∷ [])) k).maker) (sym e)
        (subst (λ (x : Rec). MadeBy j (rs ++ (r ∷ [])) (length rs) x.outline x.maker) (sym this) (made_grow j rs (r ∷ []) (length rs) r.outline r.maker (omega arith) m))
    go (no n) =
        let k : i < length rs = let l = length-append rs (r ∷ []) in omega arith in
        subst (λ (x : Rec). MadeBy j (rs ++ (r ∷ [])) i x.outline x.maker) (sym (get_or-append rs (r ∷ []) no_rec i k)) (made_grow j rs (r ∷ []) i (at rs i).outline (at rs i).maker (omega arith) (v i k))

-- a new build comes behind sound records
module _ {j : Job} (rs : List Rec) (r : Rec) (s : Sound j rs) (b : Build j r.outline) (n : ¬ Memᴰ r.outline (outlines_of rs)) where
  pub sound_more : MadeBy j rs (length rs) r.outline r.maker → Sound j (rs ++ (r ∷ []))
  sound_more m =
      let e = map-append (λ (x : Rec). x.outline) rs (r ∷ []) in
      record {
        once = subst Distinct (sym e) (distinct_snoc s.once n);
        only = subst (All (Build j)) (sym e) (all_append s.only (cons {x = r.outline} b nil));
        valid = valid_more j rs r s.valid m;
      }

  -- and where the room is taken, there are more
  pub too_many_with : MoreThan (Build j) (length rs)
  too_many_with = (
    outlines_of rs ++ (r.outline ∷ []),
    distinct_snoc s.once n,
    all_append s.only (cons {x = r.outline} b nil),
    (let l = length-append (outlines_of rs) (r.outline ∷ []) in
        let k = length-map rs (λ (x : Rec). x.outline) in omega arith),
  )
