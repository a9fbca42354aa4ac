-- The planner's answer: every job has one, and one only. Assumes nothing.
use mathlib.Core.Path.{◌≡◌, refl, sym, ap, ◌∙◌, subst}
use mathlib.Core.Bool.{Bool, true, false, true≢false}
use mathlib.Core.Logic.{◌⊎◌, inl, inr}
use mathlib.Core.List.{List, [], ◌∷◌, Memᴰ}
use Prim.Native.Nat.{ℕ, ◌≤◌, ◌<◌}
use native.Mathlib.Omega.{arith}
use native.Mathlib.Decide.{dec_le}
use lib.ListN.{length}
use Rattle.rules.specs.Bag.{All, nil, cons}
use Rattle.rules.specs.Made.{one, beside, above, MoreThan}
use Rattle.rules.specs.Job.{Job, Piece, Outline, Fits, Build, AllOutlines, Best, pieces, alone}
use Rattle.rules.specs.Planner.{PlanAnswer, plan_of, FitsAlone, Planned, none_fits, too_many, no_slots, done}
use Rattle.rules.proofs.Bags.{all_at, from_map, mem_map}
use Rattle.rules.proofs.Listing.{same_number, more_iff}
use Rattle.rules.proofs.Order.{best_unique, best_exists}
use Rattle.rules.proofs.Tally.{Typed}
use Rattle.rules.proofs.Outlines.{outlines, outlines_enumerate, fits, fits_true, true_fits}

-- a build has a piece that fits alone
pub some_single : {j : Job} {o : Outline} → Build j o → (s : Piece) × Memᴰ s j.singles × FitsAlone j s
some_single {j} (one m k) =
    let t = from_map (alone j) j.singles m in
    (t.0, t.1, subst (Fits j) t.2 k)
some_single (beside p q k) = some_single p
some_single (above p q k) = some_single p

no_best : {j : Job} → All (λ s. ¬ FitsAlone j s) j.singles → {o : Outline} → Best j o → ⊥
no_best h b = let t = some_single b.build in all_at h t.1 t.2

-- more than some is some
more_some : {j : Job} {room : ℕ} → MoreThan (Build j) room → (o : Outline) × Build j o
more_some m = first m.0 m.2 (omega (arith, m.3))
  where
    first : {j : Job} (l : List Outline) → All (Build j) l → 0 < length l → (o : Outline) × Build j o
    first [] a h = absurd (omega arith)
    first (o ∷ l) (cons b a) h = (o, b)

no_more : {j : Job} {room : ℕ} → All (λ s. ¬ FitsAlone j s) j.singles → MoreThan (Build j) room → ⊥
no_more h m = let t = some_single (more_some m).1 in all_at h t.1 t.2

enough : {j : Job} {room : ℕ} {l : List Outline} → AllOutlines j l → length l ≤ room → MoreThan (Build j) room → ⊥
enough {room = room} e h m = omega (arith, (more_iff room e).1 m)

same_pieces : {j : Job} {o u : Outline} → Best j o → Best j u → pieces o ≡ pieces u
same_pieces b c = ap pieces (best_unique b c)

module _ {j : Job} {room slots : ℕ} where
  pub planned_once : {a b : PlanAnswer} → Planned j room slots a → Planned j room slots b → a ≡ b
  planned_once (none_fits h) (none_fits k) = refl
  planned_once (none_fits h) (too_many k) = absurd (no_more h k)
  planned_once (none_fits h) (no_slots e l b k) = absurd (no_best h b)
  planned_once (none_fits h) (done e l b k) = absurd (no_best h b)
  planned_once (too_many k) (none_fits h) = absurd (no_more h k)
  planned_once (too_many k) (too_many k') = refl
  planned_once (too_many k) (no_slots e l b h) = absurd (enough e l k)
  planned_once (too_many k) (done e l b h) = absurd (enough e l k)
  planned_once (no_slots e l b k) (none_fits h) = absurd (no_best h b)
  planned_once (no_slots e l b h) (too_many k) = absurd (enough e l k)
  planned_once (no_slots e l b h) (no_slots e' l' b' h') = refl
  planned_once (no_slots e l b h) (done e' l' b' h') = absurd (omega (arith, same_pieces b b'))
  planned_once (done e l b k) (none_fits h) = absurd (no_best h b)
  planned_once (done e l b h) (too_many k) = absurd (enough e l k)
  planned_once (done e l b h) (no_slots e' l' b' h') = absurd (omega (arith, same_pieces b b'))
  planned_once (done e l b h) (done e' l' b' h') =
      let p = best_unique b b' in
      let q = same_number e e' in
      λ i. plan_of j (p i) (q i)

some_or_none : (j : Job) (l : List Piece) → ((s : Piece) × Memᴰ s l × FitsAlone j s) ⊎ All (λ s. ¬ FitsAlone j s) l
some_or_none j [] = inr nil
some_or_none j (s ∷ l) = go (fits j (alone j s)) refl (some_or_none j l)
  where
    go : (b : Bool) → fits j (alone j s) ≡ b → ((u : Piece) × Memᴰ u l × FitsAlone j u) ⊎ All (λ u. ¬ FitsAlone j u) l → ((u : Piece) × Memᴰ u (s ∷ l) × FitsAlone j u) ⊎ All (λ u. ¬ FitsAlone j u) (s ∷ l)
    go true e r = inl (s, Memᴰ.head refl, fits_true j (alone j s) e)
    go false e (inl r) = inl (r.0, Memᴰ.tail r.1, r.2)
    go false e (inr r) = inr (cons {x = s} (λ f. true≢false (sym (true_fits j (alone j s) f) ∙ e)) r)

some_length : {A : Type 0} {a : A} {l : List A} → Memᴰ a l → 0 < length l
some_length (Memᴰ.head e) = omega arith
some_length (Memᴰ.tail m) = omega arith

-- where some type fits alone there is a best outline
pub some_best : (j : Job) → All (λ p. Typed j p.type) j.singles → (s : Piece) → Memᴰ s j.singles → FitsAlone j s → (o : Outline) × Best j o
some_best j h s m f = best_exists j (outlines_enumerate j h) (some_length ((outlines_enumerate j h).each (alone j s) (one (mem_map (alone j) m) f)))

-- every job has an answer
pub planned : (j : Job) → All (λ p. Typed j p.type) j.singles → (room slots : ℕ) → (a : PlanAnswer) × Planned j room slots a
planned j h room slots = go (some_or_none j j.singles)
  where
    e : AllOutlines j (outlines j)
    e = outlines_enumerate j h

    last : (o : Outline) → Best j o → length (outlines j) ≤ room → Dec (pieces o ≤ slots) → (a : PlanAnswer) × Planned j room slots a
    last o b l (yes k) = (_, done e l b k)
    last o b l (no k) = (_, no_slots e l b (omega arith))

    known : (s : Piece) → Memᴰ s j.singles → FitsAlone j s → Dec (length (outlines j) ≤ room) → (a : PlanAnswer) × Planned j room slots a
    known s m f (yes k) = let t = some_best j h s m f in last t.0 t.1 k (dec_le (pieces t.0) slots)
    known s m f (no k) = (_, too_many ((more_iff room e).0 (omega arith)))

    go : ((s : Piece) × Memᴰ s j.singles × FitsAlone j s) ⊎ All (λ s. ¬ FitsAlone j s) j.singles → (a : PlanAnswer) × Planned j room slots a
    go (inl r) = known r.0 r.1 r.2 (dec_le (length (outlines j)) room)
    go (inr r) = (_, none_fits r)

-- number 0 is given for the best outline
pub record Done (j : Job) (room slots : ℕ) (a : PlanAnswer) : Type 0 where
  pub outline : Outline
  pub best : Best j outline
  pub list : List Outline
  pub all : AllOutlines j list
  pub room_enough : length list ≤ room
  pub slots_enough : pieces outline ≤ slots
  pub answer : a ≡ plan_of j outline (length list)

pub is_done : {j : Job} {room slots : ℕ} {a : PlanAnswer} → Planned j room slots a → a.number ≡ 0 → Done j room slots a
is_done (none_fits h) z = absurd (omega arith)
is_done (too_many h) z = absurd (omega arith)
is_done (no_slots e l b h) z = absurd (omega arith)
is_done (done {l = l} {o = o} e r b h) z = record { outline = o; best = b; list = l; all = e; room_enough = r; slots_enough = h; answer = refl }
