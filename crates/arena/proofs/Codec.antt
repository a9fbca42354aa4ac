-- The laws of the codec: a record that is written is read back, field by field. Assumes nothing.
use mathlib.Core.Path.{◌≡◌, refl, sym, ap, ◌∙◌}
use mathlib.Core.List.{List, [], ◌∷◌, ◌++◌, append-nil}
use Prim.Native.Nat.{ℕ, suc, ◌+◌, ◌*◌, ◌-◌, ◌/◌, ◌%◌, ◌<◌}
use native.Mathlib.Omega.{arith}
use native.Mathlib.Numerals.{add-one}
use lib.ListN.{length, get_or, set, take, drop, replicate, length-set, length-take, length-drop, length-append, drop_of_length-le}
use lib.Seq.{take_at, drop_at, get_or-take, get_or-append-add, take-set-lt}
use Rattle.rules.specs.Limits.{types_most, record_bytes}
use Rattle.rules.proofs.Classes.{one_more, more_set}
use Rattle.outline.specs.declared.Way.TheVariants.{Beside, Above}
use Rattle.arena.specs.declared.How.{How}
use Rattle.arena.specs.declared.How.TheVariants.{Piece, Joined}
use Rattle.arena.specs.declared.Link.{Link}
use Rattle.arena.specs.declared.Record.{Record}
use Rattle.outline.specs.Stands.{Sized, two_bytes}
use Rattle.arena.specs.Bytes.{word, put_word, two, link_of, how_of, behind, encode, decode, length_at, width_at, first_at, second_at, kind_at}
use Rattle.arena.specs.Records.{Loaded}

pub length_put : (s : List ℕ) (at v : ℕ) → length (put_word s at v) ≡ length s
unfolding put_word
length_put s at v = simp length-set

-- a word behind the counts
word_behind : (c t : List ℕ) (k : ℕ) → length c ≡ types_most → word (c ++ t) (types_most + k) ≡ word t k
unfolding word
word_behind c t k h =
    let e : get_or (c ++ t) (types_most + k) 0 ≡ get_or t k 0 = ap (λ n. get_or (c ++ t) (n + k) 0) (sym h) ∙ get_or-append-add c t k 0 in
    let p : types_most + k + 1 ≡ length c + (k + 1) = omega arith in
    let f : get_or (c ++ t) (types_most + k + 1) 0 ≡ get_or t (k + 1) 0 = ap (λ n. get_or (c ++ t) n 0) p ∙ get_or-append-add c t (k + 1) 0 in
    rw (e, f)

how_back : (h : How) → how_of (link_of h) ≡ h
how_back (Piece t) = refl
how_back (Joined Beside a b) = refl
how_back (Joined Above a b) = refl

-- a number that two bytes hold
low_high : (v : ℕ) → v < two_bytes → v % 256 + 256 * (v / 256 % 256) ≡ v
low_high v h = omega arith

module _ (r : Record) (hc : length r.outline.counts ≡ types_most) where
  abbrev c : List ℕ
  c = r.outline.counts

  abbrev t : List ℕ
  t = behind r.outline.length.0 r.outline.width.0 (link_of r.how)

  kind_back : get_or (c ++ t) kind_at 0 ≡ (link_of r.how).kind
  unfolding behind
  kind_back = ap (λ n. get_or (c ++ t) (n + 8) 0) (sym hc) ∙ get_or-append-add c t 8 0

  long_back : Sized r.outline → word (c ++ t) length_at ≡ r.outline.length.0
  unfolding behind word
  long_back z = word_behind c t 0 hc ∙ low_high _ z.long

  wide_back : Sized r.outline → word (c ++ t) width_at ≡ r.outline.width.0
  unfolding behind word
  wide_back z = word_behind c t 2 hc ∙ low_high _ z.wide

  first_back : (link_of r.how).first < two_bytes → word (c ++ t) first_at ≡ (link_of r.how).first
  unfolding behind word
  first_back h = word_behind c t 4 hc ∙ low_high _ h

  second_back : (link_of r.how).second < two_bytes → word (c ++ t) second_at ≡ (link_of r.how).second
  unfolding behind word
  second_back h = word_behind c t 6 hc ∙ low_high _ h

  pub decode_encode : Sized r.outline → (link_of r.how).first < two_bytes → (link_of r.how).second < two_bytes → decode (encode r) ≡ r
  unfolding decode encode
  decode_encode z hf hs =
      let link : how_of (record { kind = get_or (c ++ t) kind_at 0; first = word (c ++ t) first_at; second = word (c ++ t) second_at }) ≡ r.how = (λ i. how_of (record { kind = kind_back i; first = first_back hf i; second = second_back hs i })) ∙ how_back r.how in
      λ i. record {
        outline = record { length = record { 0 = long_back z i }; width = record { 0 = wide_back z i }; counts = take_at c t types_most hc i };
        how = link i;
      }

pub length_encode : (r : Record) → length r.outline.counts ≡ types_most → length (encode r) ≡ record_bytes
unfolding encode behind
length_encode r hc = length-append r.outline.counts _ ∙ ap (λ n. n + 20) hc

-- the four words and the byte behind the counts, written one after the other
front : (s : List ℕ) (l w a b k : ℕ) → length s ≡ 20 → take 9 (set (put_word (put_word (put_word (put_word s 0 l) 2 w) 4 a) 6 b) 8 k) ≡ two l (two w (two a (two b (k ∷ []))))
unfolding put_word
front [] l w a b k h = absurd (omega arith)
front (_ ∷ []) l w a b k h = absurd (omega arith)
front (_ ∷ _ ∷ []) l w a b k h = absurd (omega arith)
front (_ ∷ _ ∷ _ ∷ []) l w a b k h = absurd (omega arith)
front (_ ∷ _ ∷ _ ∷ _ ∷ []) l w a b k h = absurd (omega arith)
front (_ ∷ _ ∷ _ ∷ _ ∷ _ ∷ []) l w a b k h = absurd (omega arith)
front (_ ∷ _ ∷ _ ∷ _ ∷ _ ∷ _ ∷ []) l w a b k h = absurd (omega arith)
front (_ ∷ _ ∷ _ ∷ _ ∷ _ ∷ _ ∷ _ ∷ []) l w a b k h = absurd (omega arith)
front (_ ∷ _ ∷ _ ∷ _ ∷ _ ∷ _ ∷ _ ∷ _ ∷ []) l w a b k h = absurd (omega arith)
front (_ ∷ _ ∷ _ ∷ _ ∷ _ ∷ _ ∷ _ ∷ _ ∷ _ ∷ s) l w a b k h = refl

-- the same, step by step, as the code goes; the last eleven bytes are zeroed
pub behind_steps : (l w : ℕ) (k : Link) (s s1 s2 s3 s4 z : List ℕ) → length s ≡ 20
    → s1 ≡ put_word s 0 l → s2 ≡ put_word s1 2 w → s3 ≡ put_word s2 4 k.first → s4 ≡ put_word s3 6 k.second
    → z ≡ replicate (length (take (length (set s4 8 k.kind) - 9) (drop 9 (set s4 8 k.kind)))) 0
    → take 9 (set s4 8 k.kind) ++ (z ++ drop (length (set s4 8 k.kind) - 9) (drop 9 (set s4 8 k.kind))) ≡ behind l w k
unfolding behind
behind_steps l w k s s1 s2 s3 s4 z h e1 e2 e3 e4 ez =
    let h1 : length s1 ≡ 20 = ap length e1 ∙ length_put s 0 l ∙ h in
    let h2 : length s2 ≡ 20 = ap length e2 ∙ length_put s1 2 w ∙ h1 in
    let h3 : length s3 ≡ 20 = ap length e3 ∙ length_put s2 4 k.first ∙ h2 in
    let h4 : length s4 ≡ 20 = ap length e4 ∙ length_put s3 6 k.second ∙ h3 in
    let s5 = set s4 8 k.kind in
    let h5 : length s5 ≡ 20 = length-set s4 8 k.kind ∙ h4 in
    let hk : length s5 - 9 ≡ 11 = omega arith in
    let hz : length (take (length s5 - 9) (drop 9 s5)) ≡ 11 = simp (length-take, length-drop) (omega arith) in
    let none : drop 11 (drop 9 s5) ≡ [] = drop_of_length-le (drop 9 s5) {i = 11} (simp length-drop (omega arith)) in
    let f : take 9 s5 ≡ two l (two w (two k.first (two k.second (k.kind ∷ [])))) = ap (λ t. take 9 (set t 8 k.kind)) (e4 ∙ ap (λ t. put_word t 6 k.second) (e3 ∙ ap (λ t. put_word t 4 k.first) (e2 ∙ ap (λ t. put_word t 2 w) e1))) ∙ front s l w k.first k.second k.kind h in
    rw (ez, hz, hk, none, f) refl

-- one piece more among the first n types
pub more_of : (n t : ℕ) (c : List ℕ) → t < n → take n (set c t (get_or c t 0 + 1)) ≡ one_more t (take n c)
more_of n t c h = take-set-lt n c t (get_or c t 0 + 1) h ∙ ap (set (take n c) t) (add-one (get_or c t 0) ∙ ap suc (sym (get_or-take n c t 0 h))) ∙ sym (more_set t (take n c))

-- what stands behind the counts is written behind them
pub put_behind : (c d b : List ℕ) → length c ≡ types_most → length d ≡ 20 → take types_most (c ++ d) ++ (b ++ drop (length (c ++ d) - types_most) (drop types_most (c ++ d))) ≡ c ++ b
put_behind c d b hc hd =
    let e : length (c ++ d) - types_most ≡ 20 = let l = length-append c d in omega arith in
    let none : drop 20 d ≡ [] = drop_of_length-le d {i = 20} (omega arith) in
    rw (take_at c d types_most hc, drop_at c d types_most hc, e, none) (simp append-nil)

-- a record that is read has sizes of two bytes
pub loaded : (s : List ℕ) (c : List ℕ) (l w : ℕ) (h : How) → c ≡ take types_most s → (l ≡ word s length_at) × (l < two_bytes) → (w ≡ word s width_at) × (w < two_bytes) → h ≡ how_of (record { kind = get_or s kind_at 0; first = word s first_at; second = word s second_at }) → Loaded (decode s) (record { outline = record { length = record { 0 = l }; width = record { 0 = w }; counts = c }; how = h })
unfolding decode
loaded s c l w h ec el ew eh = record {
  is = λ i. record { outline = record { length = record { 0 = el.0 i }; width = record { 0 = ew.0 i }; counts = ec i }; how = eh i };
  sized = record { long = el.1; wide = ew.1 };
}
