-- Whether boxes can be parted is decided by cutting wherever a cut is found: a computation, and that it agrees with the definition. Assumes nothing.
use mathlib.Core.Path.{◌≡◌, refl, sym, ap, ◌∙◌}
use mathlib.Core.Bool.{Bool, true, false, not, ◌&&◌, true≢false}
use mathlib.Core.Logic.{◌⊎◌, inl, inr, ◌↔◌}
use mathlib.Core.List.{List, [], ◌∷◌, Memᴰ}
use Prim.Native.Nat.{ℕ, zero, suc, ◌+◌, ◌≤◌}
use native.Mathlib.Omega.{arith}
use lib.ListN.{length}
use lib.Dec.{leb, ltb, eqb}
use borrow.Author.Tests.{leb-true, leb-false, le-leb, lt-leb, ltb-true, lt-ltb, eqb-true, eq-eqb}
use Rattle.rules.specs.Bag.{count, other, All, nil, cons}
use Rattle.rules.proofs.Bags.{keep_within, none_fails, all_pass, all_keep, all_map, all_at, all_of, greatest, keep_same, mem_keep, keep_mem, length_split}
use Rattle.rules.specs.Box.{Box, Way, along, across, near, far}
use Rattle.rules.specs.Parted.{before, after, clear, first, rest, Cut, CanBeParted, few, cut}
use Rattle.rules.proofs.Bools.{and_both, both_and, or_cases, or_left, or_right}
use Rattle.rules.proofs.Heredity.{part}

-- the test for a cut
abbrev pub is_cut : Way → ℕ → List Box → Bool
is_cut w line ps = eqb (count (other (clear w line)) ps) 0 && (ltb 0 (length (first w line ps)) && ltb 0 (length (rest w line ps)))

cut_true : (w : Way) (line : ℕ) (ps : List Box) → is_cut w line ps ≡ true → Cut w line ps
cut_true w line ps e =
    let p = and_both (eqb (count (other (clear w line)) ps) 0) (ltb 0 (length (first w line ps)) && ltb 0 (length (rest w line ps))) e in
    let q = and_both (ltb 0 (length (first w line ps))) (ltb 0 (length (rest w line ps))) p.1 in
    record { whole = all_pass (clear w line) ps (eqb-true _ _ p.0); some_first = ltb-true _ _ q.0; some_rest = ltb-true _ _ q.1 }

true_cut : {w : Way} {line : ℕ} {ps : List Box} → Cut w line ps → is_cut w line ps ≡ true
true_cut {w} {line} {ps} c = both_and (eq-eqb _ _ (none_fails (clear w line) c.whole)) (both_and (lt-ltb _ _ c.some_first) (lt-ltb _ _ c.some_rest))

-- a cut may be moved back to the far edge of a piece
move : {w : Way} {line : ℕ} {ps : List Box} → Cut w line ps → (p : Box) × Memᴰ p ps × Cut w (far w p) ps
move {w} {line} {ps} c =
    let g = greatest (far w) (first w line ps) c.some_first in
    let p = g.0 in
    let at_most : far w p ≤ line = leb-true _ _ (all_at (all_keep (before w line) c.whole) g.1).1 in
    let same : All (λ q. before w (far w p) q ≡ before w line q) ps = all_of ps (λ q m. agree p at_most g.2 q m (before w line q) refl) in
    let split = keep_same same in
    let split' = keep_same {f = other (before w (far w p))} {g = other (before w line)} (all_map (λ q e. ap not e) same) in
    (p, mem_keep (before w line) ps g.1, record { whole = all_of ps (λ q m. still p at_most q (or_cases (before w line q) (after w line q) (all_at c.whole m)) (all_at same m)); some_first = rw split c.some_first; some_rest = rw split' c.some_rest })
  where
    agree : (p : Box) → far w p ≤ line → All (λ q. far w q ≤ far w p) (first w line ps) → (q : Box) → Memᴰ q ps → (b : Bool) → before w line q ≡ b → before w (far w p) q ≡ b
    agree p h a q m true e = le-leb _ _ (all_at a (keep_mem (before w line) e m))
    agree p h a q m false e = lt-leb (far w q) (far w p) (omega (arith, leb-false (far w q) line e))

    still : (p : Box) → far w p ≤ line → (q : Box) → (before w line q ≡ true) ⊎ ((before w line q ≡ false) × (after w line q ≡ true)) → before w (far w p) q ≡ before w line q → clear w (far w p) q ≡ true
    still p h q (inl e) s = or_left (after w (far w p) q) (s ∙ e)
    still p h q (inr e) s = or_right (before w (far w p) q) (le-leb (far w p) (near w q) (omega (arith, leb-true line (near w q) e.1)))

-- the first cut at the far edge of a piece
pub data Line : Type 0 where
  uncut : Line
  line_at : Way → ℕ → Line

abbrev pub try : Way → ℕ → List Box → Line → Line
try w c ps l = elim (is_cut w c ps) [ true ↦ line_at w c | false ↦ l ]

abbrev pub look : List Box → List Box → Line
look ps [] = uncut
look ps (q ∷ qs) = try along (far along q) ps (try across (far across q) ps (look ps qs))

try_found : (w' : Way) (c' : ℕ) (ps : List Box) (l : Line) (w : Way) (c : ℕ) → try w' c' ps l ≡ line_at w c → (l ≡ line_at w c → is_cut w c ps ≡ true) → is_cut w c ps ≡ true
try_found w' c' ps l w c e k = go (is_cut w' c' ps) refl e
  where
    go : (b : Bool) → is_cut w' c' ps ≡ b → elim b as (λ (b : Bool). Line) [ true ↦ line_at w' c' | false ↦ l ] ≡ line_at w c → is_cut w c ps ≡ true
    go true e h =
        let p : w' ≡ w = cc in
        let q : c' ≡ c = cc in rw (← p, ← q) e
    go false e h = k h

found : (ps qs : List Box) (w : Way) (c : ℕ) → look ps qs ≡ line_at w c → is_cut w c ps ≡ true
found ps [] w c e = cc
found ps (q ∷ qs) w c e = try_found along (far along q) ps (try across (far across q) ps (look ps qs)) w c e (λ k. try_found across (far across q) ps (look ps qs) w c k (λ h. found ps qs w c h))

try_none : (w : Way) (c : ℕ) (ps : List Box) (l : Line) → try w c ps l ≡ uncut → (is_cut w c ps ≡ false) × (l ≡ uncut)
try_none w c ps l e = go (is_cut w c ps) refl e
  where
    go : (b : Bool) → is_cut w c ps ≡ b → elim b as (λ (b : Bool). Line) [ true ↦ line_at w c | false ↦ l ] ≡ uncut → (is_cut w c ps ≡ false) × (l ≡ uncut)
    go true e h = (cc, cc)
    go false e h = (e, h)

not_found : (ps qs : List Box) → look ps qs ≡ uncut → All (λ q. (w : Way) → is_cut w (far w q) ps ≡ false) qs
not_found ps [] e = nil
not_found ps (q ∷ qs) e =
    let t = try_none along (far along q) ps (try across (far across q) ps (look ps qs)) e in
    let u = try_none across (far across q) ps (look ps qs) t.1 in
    cons {x = q} (λ w. elim w as (λ w. is_cut w (far w q) ps ≡ false) [ along ↦ t.0 | across ↦ u.0 ]) (not_found ps qs u.1)

-- cut wherever a cut is found; n bounds how deep
abbrev pub parts : ℕ → List Box → Bool
parts zero ps = leb (length ps) 1
parts (suc n) ps = elim (look ps ps) [ uncut ↦ leb (length ps) 1 | line_at w c ↦ parts n (first w c ps) && parts n (rest w c ps) ]

pub sound : (n : ℕ) (ps : List Box) → parts n ps ≡ true → CanBeParted ps
sound zero ps e = few (leb-true _ _ e)
sound (suc n) ps e = go (look ps ps) refl (λ qs k. sound n qs k) e
  where
    go : (l : Line) → look ps ps ≡ l → ((qs : List Box) → parts n qs ≡ true → CanBeParted qs) → elim l as (λ (l : Line). Bool) [ uncut ↦ leb (length ps) 1 | line_at w c ↦ parts n (first w c ps) && parts n (rest w c ps) ] ≡ true → CanBeParted ps
    go uncut f r h = few (leb-true _ _ h)
    go (line_at w c) f r h =
        let p = and_both (parts n (first w c ps)) (parts n (rest w c ps)) h in
        cut w c (cut_true w c ps (found ps ps w c f)) (r (first w c ps) p.0) (r (rest w c ps) p.1)

no_cut : {ps : List Box} → CanBeParted ps → look ps ps ≡ uncut → length ps ≤ 1
no_cut (few h) e = h
no_cut {ps} (cut w line c pf pr) e =
    let m = move c in absurd (true≢false (sym (true_cut m.2) ∙ all_at (not_found ps ps e) m.1 w))

pub complete : (n : ℕ) (ps : List Box) → length ps ≤ suc n → CanBeParted ps → parts n ps ≡ true
complete zero ps h p = le-leb _ _ h
complete (suc n) ps h p = go (look ps ps) refl (λ qs k. complete n qs k)
  where
    go : (l : Line) → look ps ps ≡ l → ((qs : List Box) → length qs ≤ suc n → CanBeParted qs → parts n qs ≡ true) → elim l as (λ (l : Line). Bool) [ uncut ↦ leb (length ps) 1 | line_at w c ↦ parts n (first w c ps) && parts n (rest w c ps) ] ≡ true
    go uncut f r = le-leb _ _ (no_cut p f)
    go (line_at w c) f r =
        let k = cut_true w c ps (found ps ps w c f) in
        let s : length (first w c ps) + length (rest w c ps) ≡ length ps = length_split (before w c) ps in
        both_and (r (first w c ps) (omega (arith, s, k.some_rest)) (part p (first w c ps) (keep_within (before w c) ps)))
        (r (rest w c ps) (omega (arith, s, k.some_first)) (part p (rest w c ps) (keep_within (other (before w c)) ps)))

pub parts_iff : (ps : List Box) → (parts (length ps) ps ≡ true) ↔ CanBeParted ps
parts_iff ps = (sound (length ps) ps, complete (length ps) ps (omega arith))
