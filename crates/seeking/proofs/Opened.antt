-- A record of the open class is found by its sizes. Assumes nothing.
use mathlib.Core.Path.{◌≡◌, sym, ap, ap₂, ◌∙◌, subst}
use mathlib.Core.List.{List}
use Prim.Native.Nat.{ℕ, suc, ◌≤◌, ◌<◌}
use native.Mathlib.Omega.{arith}
use native.Mathlib.Decide.{ℕ_discrete}
use lib.ListN.{length}
use Rattle.rules.specs.Planner.{room_of}
use Rattle.arena.specs.declared.Record.{Record}
use Rattle.arena.specs.Records.{record_at, size_of, link_at, links_most, Stored, StoredAlone, Linked}
use Rattle.classes.specs.Chains.{Reach, here, next, Chain}
use Rattle.classes.specs.Directory.{end_link, chain_link, head_link, chain_in}
use Rattle.seeking.specs.Opened.{place_of, place_at, Findable, SizedAs, HeadAt, Seekable, Notable, Noted, Appendable, Appended}
use Rattle.classes.proofs.Chains.{Chase, chain_down, reach_stays}

-- a record of the open class
pub record Within (start n q : ℕ) : Type 0 where
  pub low : start ≤ q
  pub high : q < n

abbrev pub SeekSize : (s : List ℕ) (start n long wide x : ℕ) → Type 0
SeekSize s start n long wide x = Chase (Within start n) (chain_in s) start (SizedAs s start n long wide) x

-- each link up to n is a chain of the open class
pub down : {s : List ℕ} {start n : ℕ} → Findable s start n → (x : ℕ) → x ≤ n → Chain (Within start n) (chain_in s) start x
down {s} {start} {n} t x h = chain_down start n (λ p a b. (record { low = a; high = b }, t.falls p a b)) x x (omega arith) h

module _ (s : List ℕ) (start n long wide : ℕ) (k : Seekable s start n long wide) where
  pub seek_size : (at x : ℕ) → at ≡ place_of (room_of (length s)) start long wide → HeadAt s at n x → SeekSize s start n long wide x
  seek_size at x e h = record {
    chained = down k.table x h.upto;
    all = λ q w.
        let p : place_at s start q ≡ at = ap₂ (place_of (room_of (length s)) start) w.same_long w.same_wide ∙ sym e in
        let t = subst (λ y. link_at s y end_link ≤ n) p (k.table.top q w.low w.high) in
        subst (λ y. Reach (chain_in s) start y q) (ap (λ y. link_at s y end_link) p ∙ sym (h.is t)) (k.table.reached q w.low w.high);
  }

-- two links are written: the chain of record n, and the head of its place
module _ {s u t : List ℕ} {start n at was : ℕ} (k : Notable s start n) (e : at ≡ place_at s start n) (h : HeadAt s at n was) (a : Linked n chain_link was s u) (b : Linked at end_link (suc n) u t) where
  same_record : (i : ℕ) → record_at t i ≡ record_at s i
  same_record i = b.records i ∙ a.records i

  same_len : length t ≡ length s
  same_len = b.same_length ∙ a.same_length

  same_place : (q : ℕ) → place_at t start q ≡ place_at s start q
  same_place q = λ i. place_of (room_of (same_len i)) start (size_of 0 (same_record q i).outline) (size_of 1 (same_record q i).outline)

  at_low : start ≤ at
  at_low = omega arith

  same_chain : (p : ℕ) → Within start n p → chain_in t p ≡ chain_in s p
  same_chain p w = b.others p chain_link (λ _ q. omega arith) (omega arith) ∙ a.others p chain_link (λ x _. omega (arith, w.high)) (omega arith)

  chain_now : chain_in t n ≡ was
  chain_now = b.others n chain_link (λ _ q. omega arith) (omega arith) ∙ a.here

  end_other : (i : ℕ) → (i ≡ at → ⊥) → link_at t i end_link ≡ link_at s i end_link
  end_other i f = b.others i end_link (λ x _. f x) (omega arith) ∙ a.others i end_link (λ _ q. omega arith) (omega arith)

  falls : (q : ℕ) → start ≤ q → Dec (q ≡ n) → q < suc n → chain_in t q ≤ q
  falls q x (yes z) y = omega (arith, ap (chain_in t) z, chain_now, h.upto)
  falls q x (no z) y = omega (arith, same_chain q (record { low = x; high = omega arith }), k.table.falls q x (omega arith))

  -- what is known of the link at a place, by whether it is the place of record n
  here_at : (q : ℕ) → place_at s start q ≡ at → link_at t (place_at t start q) end_link ≡ suc n
  here_at q z = ap (λ y. link_at t y end_link) (same_place q ∙ z) ∙ b.here

  there_at : (q : ℕ) → (place_at s start q ≡ at → ⊥) → link_at t (place_at t start q) end_link ≡ link_at s (place_at s start q) end_link
  there_at q f = ap (λ y. link_at t y end_link) (same_place q) ∙ end_other (place_at s start q) f

  top : (q : ℕ) → start ≤ q → q < suc n → Dec (q ≡ n) → Dec (place_at s start q ≡ at) → link_at t (place_at t start q) end_link ≤ suc n
  top q x y d (yes z) = omega (arith, here_at q z)
  top q x y (yes d) (no z) = absurd (z (ap (place_at s start) d ∙ sym e))
  top q x y (no d) (no z) = omega (arith, there_at q z, k.table.top q x (omega arith))

  reached : (q : ℕ) → start ≤ q → q < suc n → Dec (q ≡ n) → Dec (place_at s start q ≡ at) → Reach (chain_in t) start (link_at t (place_at t start q) end_link) q
  reached q x y (yes d) (yes z) = here (here_at q z ∙ ap suc (sym d)) x
  reached q x y (yes d) (no z) = absurd (z (ap (place_at s start) d ∙ sym e))
  reached q x y (no d) (yes z) =
      let l : q < n = omega arith in
      let f = subst (λ i. link_at s i end_link ≤ n) z (k.table.top q x l) in
      let r = subst (λ i. Reach (chain_in s) start i q) (ap (λ i. link_at s i end_link) z ∙ sym (h.is f)) (k.table.reached q x l) in
      next {q = n} (here_at q z) k.begins (subst (λ i. Reach (chain_in t) start i q) (sym chain_now) (reach_stays same_chain (down k.table was h.upto) r))
  reached q x y (no d) (no z) =
      let l : q < n = omega arith in
      subst (λ i. Reach (chain_in t) start i q) (sym (there_at q z)) (reach_stays same_chain (down k.table _ (k.table.top q x l)) (k.table.reached q x l))

  pub noted : Noted start n s t
  noted = record {
    records = same_record;
    kept = record {
      same_length = same_len;
      records = λ i _. same_record i;
      links = λ i m l y. b.others i m (λ p _. omega (arith, at_low)) y ∙ a.others i m (λ p _. omega (arith, k.begins)) y;
      heads = λ i. b.others i head_link (λ _ q. omega arith) (omega arith) ∙ a.others i head_link (λ _ q. omega arith) (omega arith);
    };
    table = record {
      falls = λ q x y. falls q x (ℕ_discrete q n) y;
      top = λ q x y. top q x y (ℕ_discrete q n) (ℕ_discrete (place_at s start q) at);
      reached = λ q x y. reached q x y (ℕ_discrete q n) (ℕ_discrete (place_at s start q) at);
    };
  }

-- the table stays where the records of the class, their chain links and all end links from start on stay
pub findable_stays : {s t : List ℕ} {start n : ℕ} → length t ≡ length s → ((i : ℕ) → i < n → record_at t i ≡ record_at s i) → ((i : ℕ) → i < n → chain_in t i ≡ chain_in s i) → ((i : ℕ) → link_at t i end_link ≡ link_at s i end_link) → Findable s start n → Findable t start n
findable_stays {s} {t} {start} {n} e r c l f = record {
  falls = λ q x y. omega (arith, c q y, f.falls q x y);
  top = λ q x y. omega (arith, head q y, f.top q x y);
  reached = λ q x y. subst (λ i. Reach (chain_in t) start i q) (sym (head q y)) (reach_stays (λ p w. c p w.high) (down f _ (f.top q x y)) (f.reached q x y));
}
  where
    head : (q : ℕ) → q < n → link_at t (place_at t start q) end_link ≡ link_at s (place_at s start q) end_link
    head q y = (λ i. link_at t (place_of (room_of (e i)) start (size_of 0 (r q y i).outline) (size_of 1 (r q y i).outline)) end_link) ∙ l (place_at s start q)

-- record n is written, and its head and its end are put back
module _ {s u v x : List ℕ} {start n : ℕ} {r : Record} (a : Appendable s start n r) (st : StoredAlone n r s u) (hd : Linked n head_link (link_at s n head_link) u v) (en : Linked n end_link (link_at s n end_link) v x) where
  link_back : (i m : ℕ) → (i ≡ n → ⊥) → m < links_most → link_at x i m ≡ link_at s i m
  link_back i m f l = en.others i m (λ p _. f p) l ∙ hd.others i m (λ p _. f p) l ∙ st.links i m f l

  end_back : (i : ℕ) → Dec (i ≡ n) → link_at x i end_link ≡ link_at s i end_link
  end_back i (yes p) = ap (λ y. link_at x y end_link) p ∙ en.here ∙ ap (λ y. link_at s y end_link) (sym p)
  end_back i (no p) = link_back i end_link p (omega arith)

  head_back : (i : ℕ) → Dec (i ≡ n) → link_at x i head_link ≡ link_at s i head_link
  head_back i (yes p) = ap (λ y. link_at x y head_link) p ∙ en.others n head_link (λ _ q. omega arith) (omega arith) ∙ hd.here ∙ ap (λ y. link_at s y head_link) (sym p)
  head_back i (no p) = link_back i head_link p (omega arith)

  record_back : (i : ℕ) → i < n → record_at x i ≡ record_at s i
  record_back i h = en.records i ∙ hd.records i ∙ st.stored.others i h

  len_back : length x ≡ length s
  len_back = en.same_length ∙ hd.same_length ∙ st.stored.same_length

  pub notable : Notable x start n
  notable = record {
    begins = a.begins;
    room = omega (arith, a.storable.room, ap room_of len_back);
    table = findable_stays len_back record_back (λ i h. link_back i chain_link (λ p. omega arith) (omega arith)) (λ i. end_back i (ℕ_discrete i n)) a.table;
  }

  pub appended : {t : List ℕ} → Noted start n x t → Appended start n r s t
  appended {t} d = record {
    here = d.records n ∙ en.records n ∙ hd.records n ∙ st.stored.here;
    table = d.table;
    kept = record {
      same_length = d.kept.same_length ∙ len_back;
      records = λ i h. d.records i ∙ record_back i h;
      links = λ i m h l. d.kept.links i m h l ∙ link_back i m (λ p. omega (arith, a.begins)) l;
      heads = λ i. d.kept.heads i ∙ head_back i (ℕ_discrete i n);
    };
  }

pub appended_stored : {start n : ℕ} {r : Record} {s t : List ℕ} → Appended start n r s t → Stored n r s t
appended_stored a = record { same_length = a.kept.same_length; here = a.here; others = a.kept.records }

-- a class with nothing in it
pub none_findable : (s : List ℕ) (n : ℕ) → Findable s n n
none_findable s n = record { falls = λ q x y. absurd (omega arith); top = λ q x y. absurd (omega arith); reached = λ q x y. absurd (omega arith) }
