-- The arena as a list of records: writing one more, and reading what stands. Assumes nothing.
use mathlib.Core.Path.{◌≡◌, refl, sym, ap, ap₂, ◌∙◌, subst}
use mathlib.Core.Logic.{◌⊎◌, inl, inr}
use mathlib.Core.List.{List, [], ◌∷◌, ◌++◌}
use Prim.Native.Nat.{ℕ, zero, suc, ◌+◌, ◌*◌, ◌-◌, ◌/◌, ◌%◌, ◌≤◌, ◌<◌}
use native.Mathlib.Omega.{arith}
use native.Mathlib.Numerals.{add-one}
use native.Mathlib.Decide.{ℕ_discrete, dec_lt}
use lib.ListN.{length, get_or, set, take, drop, length-set, length-take, length-drop, length-append, get_or-append}
use lib.Seq.{take_at, drop_at, take-take, length-take-le, ext_get_or, get_or-take, get_or-drop, get_or_at, get_or-append-add, get_or-set_same, get_or-set_other}
use Rattle.rules.specs.Limits.{types_most, record_bytes}
use Rattle.rules.specs.Planner.{room_of}
use Rattle.outline.specs.Stands.{two_bytes}
use Rattle.rules.proofs.Outlines.{at_most}
use Rattle.rules.proofs.Places.{at_most_past}
use Rattle.rules.proofs.Unfold.{no_rec, at}
use Rattle.tally.specs.Bounds.{byte_most, bounds_most, BoundsOf}
use Rattle.arena.specs.declared.Record.{Record}
use Rattle.arena.specs.Bytes.{word, put_word, how_of, length_at, width_at, first_at, second_at, kind_at, encode, decode, chunk, put_chunk}
use Rattle.arena.specs.Records.{record_at, size_of, rec_of, recs, Storable, Stored, StoredAlone, links_most, links_at, link_place, link_at, Linkable, Linked}
use Rattle.arena.proofs.Codec.{decode_encode, length_encode, length_put}

-- a record of the room has its bytes
pub room_bytes : (i n : ℕ) → i < room_of n → i * record_bytes + record_bytes ≤ n
room_bytes i n h = omega arith

module _ (s : List ℕ) (i : ℕ) (c : List ℕ) (room : i * record_bytes + record_bytes ≤ length s) (hc : length c ≡ record_bytes) where
  length_put_chunk : length (put_chunk s i c) ≡ length s
  unfolding put_chunk
  length_put_chunk = simp (length-append, length-take, length-drop) (omega arith)

  chunk_put_same : chunk (put_chunk s i c) i ≡ c
  unfolding chunk put_chunk
  chunk_put_same =
      rw (drop_at (take (i * record_bytes) s) (c ++ drop record_bytes (drop (i * record_bytes) s)) (i * record_bytes) (length-take-le (i * record_bytes) s (omega arith)), take_at c (drop record_bytes (drop (i * record_bytes) s)) record_bytes hc)

  chunk_put_before : (j : ℕ) → j < i → chunk (put_chunk s i c) j ≡ chunk s j
  unfolding chunk put_chunk
  chunk_put_before j h =
      let lp : length (put_chunk s i c) ≡ length s = length_put_chunk in
      ext_get_or 0 _ _ (simp (length-take, length-drop) (omega arith)) λ k hk.
      let b : k < record_bytes = omega (arith, length-take record_bytes (drop (j * record_bytes) (put_chunk s i c))) in
      let m : j * record_bytes + k < i * record_bytes = omega arith in
      rw (get_or-take record_bytes (drop (j * record_bytes) (put_chunk s i c)) k 0 b, get_or-drop (j * record_bytes) (put_chunk s i c) k 0, get_or-take record_bytes (drop (j * record_bytes) s) k 0 b, get_or-drop (j * record_bytes) s k 0)
      (get_or-append (take (i * record_bytes) s) (c ++ drop record_bytes (drop (i * record_bytes) s)) 0 (j * record_bytes + k) (simp length-take (omega arith)) ∙ get_or-take (i * record_bytes) s (j * record_bytes + k) 0 m)

  -- what lies outside of a record stays
  put_outside : (m : ℕ) → (m < i * record_bytes) ⊎ (i * record_bytes + record_bytes ≤ m) → get_or (put_chunk s i c) m 0 ≡ get_or s m 0
  unfolding put_chunk
  put_outside m (inl h) = get_or-append (take (i * record_bytes) s) (c ++ drop record_bytes (drop (i * record_bytes) s)) 0 m (simp length-take (omega arith)) ∙ get_or-take (i * record_bytes) s m 0 h
  put_outside m (inr h) =
      let a = i * record_bytes in
      let x = length-take-le a s (omega arith) in
      let d = m - a - record_bytes in
      let e : m ≡ length (take a s) + (length c + d) = omega arith in
      let f : m ≡ a + (record_bytes + d) = omega arith in
      ap (λ k. get_or (take a s ++ (c ++ drop record_bytes (drop a s))) k 0) e ∙ get_or-append-add (take a s) (c ++ drop record_bytes (drop a s)) (length c + d) 0 ∙ get_or-append-add c (drop record_bytes (drop a s)) d 0
      ∙ get_or-drop record_bytes (drop a s) d 0 ∙ get_or-drop a s (record_bytes + d) 0 ∙ ap (λ k. get_or s k 0) (sym f)

  link_put_other : (j k : ℕ) → (j ≡ i → ⊥) → k < links_most → link_at (put_chunk s i c) j k ≡ link_at s j k
  unfolding word
  link_put_other j k n h = ap₂ (λ x y. x + 256 * y) (put_outside (link_place j k) (apart (link_place j k) (omega arith) (omega arith))) (put_outside (link_place j k + 1) (apart (link_place j k + 1) (omega arith) (omega arith)))
    where
      apart : (m : ℕ) → j * record_bytes ≤ m → m < j * record_bytes + record_bytes → (m < i * record_bytes) ⊎ (i * record_bytes + record_bytes ≤ m)
      apart m x y = go (dec_lt j i)
        where
          go : Dec (j < i) → (m < i * record_bytes) ⊎ (i * record_bytes + record_bytes ≤ m)
          go (yes z) = inl (omega arith)
          go (no z) = inr (let q : i < j = omega arith in omega arith)

-- writing a record
pub stored : (s t : List ℕ) (i : ℕ) (r : Record) → Storable s i r → length r.outline.counts ≡ types_most → t ≡ put_chunk s i (encode r) → StoredAlone i r s t
stored s t i r k hc e =
    let le = length_encode r hc in
    let b = room_bytes i (length s) k.room in
    record {
      stored = record {
        same_length = ap length e ∙ length_put_chunk s i (encode r) b le;
        here = ap (λ u. record_at u i) e ∙ ap decode (chunk_put_same s i (encode r) b le) ∙ decode_encode r hc k.sized k.first k.second;
        others = λ j h. ap (λ u. record_at u j) e ∙ ap decode (chunk_put_before s i (encode r) b le j h);
      };
      links = λ j m n h. ap (λ u. link_at u j m) e ∙ link_put_other s i (encode r) b le j m n h;
    }

-- a byte of a record
chunk_at : (s : List ℕ) (j k : ℕ) → k < record_bytes → get_or (chunk s j) k 0 ≡ get_or s (j * record_bytes + k) 0
unfolding chunk
chunk_at s j k h = get_or-take record_bytes (drop (j * record_bytes) s) k 0 h ∙ get_or-drop (j * record_bytes) s k 0

-- a count of a record is a byte of the arena
pub count_at : (s : List ℕ) (i t : ℕ) → t < types_most → get_or s (i * record_bytes + t) 0 ≡ get_or (record_at s i).outline.counts t 0
unfolding decode
count_at s i t h = sym (get_or-take types_most (chunk s i) t 0 h ∙ chunk_at s i t (omega arith))

-- the counts of a record are the first of its bytes
pub counts_in : (s : List ℕ) (i : ℕ) → take types_most (chunk s i) ≡ (record_at s i).outline.counts
unfolding decode
counts_in s i = refl

-- a record keeps to the bounds where its counts do: every byte keeps to the others
pub within_bounds : (s : List ℕ) (i types : ℕ) (c r : List ℕ) → length r ≡ bounds_most → ((m : ℕ) → get_or s m 0 ≤ byte_most) → BoundsOf types c r → at_most (take bounds_most (chunk s i)) r ≡ at_most (take types (record_at s i).outline.counts) (take types c)
unfolding decode
within_bounds s i types c r l b u =
    let d = take bounds_most (chunk s i) in
    let n = length-take bounds_most (chunk s i) in
    let f = u.few in
    at_most_past types d r (omega arith) (λ k h m. let q : k < bounds_most = omega arith in omega (arith, u.behind k h q, get_or-take bounds_most (chunk s i) k 0 q, chunk_at s i k (omega arith), b (i * record_bytes + k)))
    ∙ ap₂ at_most (take-take types bounds_most (chunk s i) (omega arith) ∙ sym (take-take types types_most (chunk s i) f)) u.counts

-- a word of a record is a word of the arena
word_chunk : (s : List ℕ) (i at m : ℕ) → at + 1 < record_bytes → m ≡ i * record_bytes + at → word s m ≡ word (chunk s i) at
unfolding word
word_chunk s i at m h e =
    let f : m + 1 ≡ i * record_bytes + (at + 1) = omega arith in
    sym (ap₂ (λ a b. a + 256 * b) (chunk_at s i at (omega arith) ∙ ap (λ k. get_or s k 0) (sym e)) (chunk_at s i (at + 1) h ∙ ap (λ k. get_or s k 0) (sym f)))

pub size_at : (s : List ℕ) (i w : ℕ) → w < 2 → word s (i * record_bytes + length_at + 2 * w) ≡ size_of w (record_at s i).outline
unfolding decode
size_at s i zero h = word_chunk s i length_at _ (omega arith) (omega arith)
size_at s i (suc zero) h = word_chunk s i width_at _ (omega arith) (omega arith)
size_at s i (suc (suc w)) h = absurd (omega arith)

length_chunk : (s t : List ℕ) (j : ℕ) → length s ≡ length t → length (chunk s j) ≡ length (chunk t j)
unfolding chunk
length_chunk s t j e = simp (length-take, length-drop) (omega arith)

-- a record is read from the bytes before its links
decode_same : (c d : List ℕ) → length c ≡ length d → ((k : ℕ) → k < links_at → get_or c k 0 ≡ get_or d k 0) → decode c ≡ decode d
unfolding decode word
decode_same c d l e =
    let w : (at : ℕ) → at + 1 < links_at → word c at ≡ word d at = λ at h. ap₂ (λ x y. x + 256 * y) (e at (omega arith)) (e (at + 1) h) in
    let t : take types_most c ≡ take types_most d = ext_get_or 0 _ _ (simp length-take (omega arith)) λ k hk.
    let h : k < types_most = omega (arith, length-take types_most c) in
    get_or-take types_most c k 0 h ∙ e k (omega arith) ∙ sym (get_or-take types_most d k 0 h) in
    λ i. record {
      outline = record { length = record { 0 = w length_at (omega arith) i }; width = record { 0 = w width_at (omega arith) i }; counts = t i };
      how = how_of (record { kind = e kind_at (omega arith) i; first = w first_at (omega arith) i; second = w second_at (omega arith) i });
    }

-- writing a word
put_here : (s : List ℕ) (at v : ℕ) → at + 1 < length s → v < two_bytes → word (put_word s at v) at ≡ v
unfolding word put_word
put_here s at v h b =
    let ne : (at ≡ at + 1) → ⊥ = λ e. omega arith in
    let x = get_or-set_other (set s at (v % 256)) (at + 1) at (v / 256 % 256) 0 ne ∙ get_or-set_same s at (v % 256) 0 (omega arith) in
    let y = get_or-set_same (set s at (v % 256)) (at + 1) (v / 256 % 256) 0 (simp length-set (omega arith)) in
    rw (x, y) (omega arith)

put_there : (s : List ℕ) (at v m : ℕ) → (m ≡ at → ⊥) → (m ≡ at + 1 → ⊥) → get_or (put_word s at v) m 0 ≡ get_or s m 0
unfolding put_word
put_there s at v m a b = get_or-set_other (set s at (v % 256)) (at + 1) m (v / 256 % 256) 0 b ∙ get_or-set_other s at m (v % 256) 0 a

-- writing a link
pub linked : (s t : List ℕ) (i k v : ℕ) → Linkable s i k v → t ≡ put_word s (link_place i k) v → Linked i k v s t
unfolding word
linked s t i k v z e =
    let b = room_bytes i (length s) z.room in
    let a = z.among in
    record {
      same_length = ap length e ∙ length_put s (link_place i k) v;
      here = ap (λ u. link_at u i k) e ∙ put_here s (link_place i k) v (omega arith) z.small;
      others = λ j m n h. ap (λ u. link_at u j m) e ∙ apart j m n h a;
      records = λ j. ap (λ u. record_at u j) e ∙ decode_same _ _ (length_chunk _ _ j (length_put s (link_place i k) v)) (λ m h.
          chunk_at (put_word s (link_place i k) v) j m (omega arith) ∙ put_there s (link_place i k) v (j * record_bytes + m) (λ q. omega arith) (λ q. omega arith) ∙ sym (chunk_at s j m (omega arith)));
    }
  where
    here : (j m : ℕ) → (j ≡ i → m ≡ k → ⊥) → m < links_most → k < links_most → j * 16 + m ≡ i * 16 + k → ⊥
    here j m n h a q = let e : j ≡ i = omega arith in n e (omega arith)

    -- two words begin at even places
    between : (j m : ℕ) → 2 * (j * 16 + m) ≡ 2 * (i * 16 + k) + 1 → ⊥
    between j m q = omega arith

    within : (j m : ℕ) → 2 * (j * 16 + m) + 1 ≡ 2 * (i * 16 + k) → ⊥
    within j m q = omega arith

    apart : (j m : ℕ) → (j ≡ i → m ≡ k → ⊥) → m < links_most → k < links_most → link_at (put_word s (link_place i k) v) j m ≡ link_at s j m
    apart j m n h a = ap₂ (λ x y. x + 256 * y)
        (put_there s (link_place i k) v (link_place j m) (λ q. here j m n h a (omega arith)) (λ q. between j m (omega arith)))
        (put_there s (link_place i k) v (link_place j m + 1) (λ q. within j m (omega arith)) (λ q. here j m n h a (omega arith)))

-- the list of records
pub length_recs : (k n : ℕ) (s : List ℕ) → length (recs k n s) ≡ n
unfolding recs
length_recs k zero s = refl
length_recs k (suc n) s = length-append (recs k n s) (rec_of k (record_at s n) ∷ []) ∙ (let e = length_recs k n s in omega arith)

pub recs_at : (k n : ℕ) (s : List ℕ) (i : ℕ) → i < n → at (recs k n s) i ≡ rec_of k (record_at s i)
unfolding recs
recs_at k zero s i h = absurd (omega arith)
recs_at k (suc n) s i h = go (recs_at k n s i) (ℕ_discrete i n)
  where
    go : (i < n → at (recs k n s) i ≡ rec_of k (record_at s i)) → Dec (i ≡ n) → at (recs k n s ++ (rec_of k (record_at s n) ∷ [])) i ≡ rec_of k (record_at s i)
    go f (yes e) = subst (λ m. at (recs k n s ++ (rec_of k (record_at s n) ∷ [])) m ≡ rec_of k (record_at s m)) (sym e) (get_or_at (recs k n s) (rec_of k (record_at s n)) [] no_rec n (length_recs k n s))
    go f (no e) = get_or-append (recs k n s) (rec_of k (record_at s n) ∷ []) no_rec i (omega (arith, length_recs k n s)) ∙ f (omega arith)

pub recs_same : (k n : ℕ) (s t : List ℕ) → ((j : ℕ) → j < n → record_at s j ≡ record_at t j) → recs k n s ≡ recs k n t
unfolding recs
recs_same k zero s t h = refl
recs_same k (suc n) s t h = λ i. recs_same k n s t (λ j l. h j (omega arith)) i ++ (rec_of k (h n (omega arith) i) ∷ [])

-- one record more
pub recs_more : (k n : ℕ) (r : Record) (s t : List ℕ) → Stored n r s t → recs k (n + 1) t ≡ recs k n s ++ (rec_of k r ∷ [])
unfolding recs
recs_more k n r s t w = ap (λ m. recs k m t) (add-one n) ∙ (λ i. recs_same k n t s w.others i ++ (rec_of k (w.here i) ∷ []))
