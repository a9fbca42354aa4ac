-- A reading of a text from front to back in one pass: it reads the texts of the grammar, and stops at the place that the paper names. Assumes nothing.
use mathlib.Core.Path.{◌≡◌, refl, sym, ap, ◌∙◌, subst}
use mathlib.Core.Bool.{Bool, true, false, ◌&&◌, ◌||◌}
use mathlib.Core.Logic.{◌⊎◌, inl, inr}
use mathlib.Core.List.{List, [], ◌∷◌, ◌++◌, append_assoc}
use Prim.Native.Nat.{ℕ, suc, ◌+◌, ◌*◌, ◌-◌, ◌≤◌, ◌<◌}
use native.Mathlib.Omega.{arith}
use native.Mathlib.Numerals.{add-one}
use lib.ListN.{length, take, drop, take-append-drop, length-append}
use lib.Seq.{take-take}
use lib.Dec.{eqb, leb, ltb}
use borrow.Author.Tests.{leb-true, le-leb, ltb-true, lt-ltb, eqb-true}
use Rattle.rules.specs.Limits.{digits_most}
use Rattle.rules.specs.Decimal.{Decimal, digit, more}
use Rattle.rules.specs.Text.{End, space, line, byte, Script, end, num, Text, done, after, LeavesAt}
use Rattle.rules.proofs.Bools.{and_both, both_and, or_right, and_false_left, and_false_right}

-- the digits of a number of a text, and how many they are
pub record Numeral (ds : List ℕ) (n v : ℕ) : Type 0 where
  pub decimal : Decimal ds v
  pub digits : length ds ≡ n
  pub short : n ≤ digits_most

pub data Read : Type 0 where
  ok : List ℕ → Read
  stop : ℕ → Read

abbrev pub noted : ℕ → Read → Read
noted v (ok vs) = ok (v ∷ vs)
noted v (stop k) = stop k

abbrev pub is_digit : ℕ → Bool
is_digit b = leb 48 b && ltb b 58

-- after n digits with the value v another digit may come
abbrev pub room : ℕ → ℕ → Bool
room n v = eqb n 0 || (ltb 0 v && ltb n digits_most)

-- at byte number i, with n digits of a number read, whose value is v
abbrev pub read : Script → ℕ → ℕ → ℕ → List ℕ → Read
read end i n v [] = ok []
read (num e k) i n v [] = stop i
read end i n v (b ∷ t) = stop i
read (num e k) i n v (b ∷ t) =
    elim (is_digit b && room n v) [
      | true ↦ read (num e k) (suc i) (suc n) (10 * v + (b - 48)) t
      | false ↦ elim (eqb b (byte e) && ltb 0 n) [ true ↦ noted v (read (k v) (suc i) 0 0 t) | false ↦ stop i ]
    ]

-- one step each, as equations
module _ (e : End) (k : ℕ → Script) (i n v b : ℕ) (t : List ℕ) where
  read_digit : is_digit b ≡ true → room n v ≡ true → read (num e k) i n v (b ∷ t) ≡ read (num e k) (suc i) (suc n) (10 * v + (b - 48)) t
  read_digit p q = rw (both_and p q, read)

  read_end : (is_digit b && room n v) ≡ false → eqb b (byte e) ≡ true → 0 < n → read (num e k) i n v (b ∷ t) ≡ noted v (read (k v) (suc i) 0 0 t)
  read_end p q h = rw (p, both_and q (lt-ltb 0 n h), read)

  read_stop : (is_digit b && room n v) ≡ false → (eqb b (byte e) && ltb 0 n) ≡ false → read (num e k) i n v (b ∷ t) ≡ stop i
  read_stop p q = rw (p, q, read)

digit_is : {d : ℕ} → d < 10 → is_digit (48 + d) ≡ true
digit_is {d} h = both_and (le-leb 48 (48 + d) (omega arith)) (lt-ltb (48 + d) 58 (omega arith))

room_more : {n v : ℕ} → 0 < v → n < digits_most → room n v ≡ true
room_more {n} {v} p q = or_right (eqb n 0) (both_and (lt-ltb 0 v p) (lt-ltb n digits_most q))

decimal_some : {ds : List ℕ} {v : ℕ} → Decimal ds v → 0 < length ds
decimal_some (digit h) = omega arith
decimal_some (more {ds = ds} {d = d} p a b) = omega (arith, length-append ds ((48 + d) ∷ []))

numeral_some : {ds : List ℕ} {n v : ℕ} → Numeral ds n v → 0 < n
numeral_some m = omega (arith, decimal_some m.decimal, m.digits)

not_ends : (e : End) (n v : ℕ) → (is_digit (byte e) && room n v) ≡ false
not_ends space n v = refl
not_ends line n v = refl

ends : (e : End) → eqb (byte e) (byte e) ≡ true
ends space = refl
ends line = refl

-- a number's digits are read one after the other
feed : {ds : List ℕ} {v : ℕ} → Decimal ds v → length ds ≤ digits_most → (e : End) (k : ℕ → Script) (i : ℕ) (t : List ℕ) → read (num e k) i 0 0 (ds ++ t) ≡ read (num e k) (i + length ds) (length ds) v t
feed (digit {d = d} h) s e k i t =
    let p : 10 * 0 + (48 + d - 48) ≡ d = omega arith in
    let q : i + 1 ≡ suc i = omega arith in
    read_digit e k i 0 0 (48 + d) t (digit_is h) refl ∙ rw (p, q)
feed (more {ds = ds} {v = v} {d = d} m p h) s e k i t =
    let l : length (ds ++ ((48 + d) ∷ [])) ≡ suc (length ds) = length-append ds ((48 + d) ∷ []) ∙ add-one (length ds) in
    let c : length ds < digits_most = omega arith in
    let a : 48 + d - 48 ≡ d = omega arith in
    let b : i + suc (length ds) ≡ suc (i + length ds) = omega arith in
    ap (λ l. read (num e k) i 0 0 l) (append_assoc ds ((48 + d) ∷ []) t) ∙ feed m (omega arith) e k i ((48 + d) ∷ t) ∙ read_digit e k (i + length ds) (length ds) v (48 + d) t (digit_is h) (room_more p c) ∙ rw (a, l, b)

pub complete : {s : Script} {t vs : List ℕ} → Text s t vs → (i : ℕ) → read s i 0 0 t ≡ ok vs
complete done i = refl
complete (after {e = e} {k = k} {ds = ds} {t = t} {v = v} m s x) i =
    let n = length ds in
    feed m s e k i (byte e ∷ t) ∙ read_end e k (i + n) n v (byte e) t (not_ends e n v) (ends e) (decimal_some m) ∙ ap (noted v) (complete x (suc (i + n)))

-- where a reading stands: between numbers, or within one
pub data State : Script → List ℕ → ℕ → ℕ → Type 0 where
  fresh : {s : Script} → State s [] 0 0
  inside : {e : End} {k : ℕ → Script} {ds : List ℕ} {n v : ℕ} → Numeral ds n v → State (num e k) ds n v

is_digit_lem : (b : ℕ) → is_digit b ≡ true → (d : ℕ) × (d < 10) × (b ≡ 48 + d)
is_digit_lem b e =
    let p = and_both (leb 48 b) (ltb b 58) e in
    let h = leb-true 48 b p.0 in
    let g = ltb-true b 58 p.1 in
    (b - 48, omega arith, omega arith)

-- one more digit
numeral_first : (b d : ℕ) → d < 10 → b ≡ 48 + d → Numeral (b ∷ []) 1 (10 * 0 + (b - 48))
numeral_first b d h e =
    let x : 10 * 0 + (b - 48) ≡ d = omega arith in
    record { decimal = rw (x, e) (digit h); digits = refl; short = omega arith }

numeral_more : {ds : List ℕ} {n v : ℕ} (b d : ℕ) → Numeral ds n v → 0 < v → n < digits_most → d < 10 → b ≡ 48 + d → Numeral (ds ++ (b ∷ [])) (suc n) (10 * v + (b - 48))
numeral_more {ds} b d m p q h e =
    let x : b - 48 ≡ d = omega arith in
    record { decimal = rw (x, e) (more m.decimal p h); digits = omega (arith, length-append ds (b ∷ []), m.digits); short = omega arith }

room_true : (n v : ℕ) → 0 < n → room n v ≡ true → (0 < v) × (n < digits_most)
room_true n v h e = go (eqb n 0) refl e
  where
    go : (t : Bool) → eqb n 0 ≡ t → (t || (ltb 0 v && ltb n digits_most)) ≡ true → (0 < v) × (n < digits_most)
    go true z e = absurd (omega (arith, eqb-true n 0 z))
    go false z e = let p = and_both (ltb 0 v) (ltb n digits_most) e in (ltb-true 0 v p.0, ltb-true n digits_most p.1)

longer : {s : Script} {ds : List ℕ} {n v : ℕ} (b : ℕ) → State s ds n v → is_digit b ≡ true → room n v ≡ true → Numeral (ds ++ (b ∷ [])) (suc n) (10 * v + (b - 48))
longer b fresh p q = let r = is_digit_lem b p in numeral_first b r.0 r.1 r.2
longer {n = n} {v = v} b (inside {ds = ds} m) p q =
    let r = is_digit_lem b p in
    let c = room_true n v (numeral_some m) q in
    numeral_more b r.0 m c.0 c.1 r.1 r.2

-- the numeral of a state in which a digit was read
whole : {s : Script} {ds : List ℕ} {n v : ℕ} → State s ds n v → 0 < n → Numeral ds n v
whole fresh h = absurd (omega arith)
whole (inside m) h = m

noted_ok : (v : ℕ) (r : Read) (vs : List ℕ) → noted v r ≡ ok vs → (ws : List ℕ) × (r ≡ ok ws) × (vs ≡ v ∷ ws)
noted_ok v (ok ws) vs e = (ws, refl, cc)
noted_ok v (stop k) vs e = ([], cc, cc)

noted_stop : (v : ℕ) (r : Read) (j : ℕ) → noted v r ≡ stop j → r ≡ stop j
noted_stop v (ok ws) j e = cc
noted_stop v (stop k) j e = e

-- what is read is a text of the grammar
pub sound : (t : List ℕ) (s : Script) (ds : List ℕ) (i n v : ℕ) (vs : List ℕ) → State s ds n v → read s i n v t ≡ ok vs → Text s (ds ++ t) vs
sound [] end ds i n v vs fresh e = let x : vs ≡ [] = cc in rw x done
sound [] (num f k) ds i n v vs st e = absurd (never e)
  where
    never : stop i ≡ ok vs → ⊥
    never p = let z : ◌≡◌ {A = ℕ} 0 1 = cc in omega arith
sound (b ∷ t) end ds i n v vs st e = absurd (never e)
  where
    never : stop i ≡ ok vs → ⊥
    never p = let z : ◌≡◌ {A = ℕ} 0 1 = cc in omega arith
sound (b ∷ t) (num f k) ds i n v vs st e = go (is_digit b) refl (room n v) refl (eqb b (byte f)) refl (ltb 0 n) refl
    (λ ds v x. sound t (num f k) ds (suc i) (suc n) v vs x) (λ ws x. sound t (k v) [] (suc i) 0 0 ws fresh x) e
  where
    never : stop i ≡ ok vs → ⊥
    never p = let z : ◌≡◌ {A = ℕ} 0 1 = cc in omega arith

    ended : eqb b (byte f) ≡ true → 0 < n → ((ws : List ℕ) → read (k v) (suc i) 0 0 t ≡ ok ws → Text (k v) t ws) → noted v (read (k v) (suc i) 0 0 t) ≡ ok vs → Text (num f k) (ds ++ b ∷ t) vs
    ended q h g e =
        let r = noted_ok v (read (k v) (suc i) 0 0 t) vs e in
        rw (r.2, eqb-true b (byte f) q) (after (whole st h).decimal (omega (arith, (whole st h).digits, (whole st h).short)) (g r.0 r.1))

    digits : is_digit b ≡ true → room n v ≡ true → ((es : List ℕ) (w : ℕ) → State (num f k) es (suc n) w → read (num f k) (suc i) (suc n) w t ≡ ok vs → Text (num f k) (es ++ t) vs) →
        read (num f k) (suc i) (suc n) (10 * v + (b - 48)) t ≡ ok vs → Text (num f k) (ds ++ b ∷ t) vs
    digits p q g e = subst (λ l. Text (num f k) l vs) (append_assoc ds (b ∷ []) t) (g (ds ++ (b ∷ [])) (10 * v + (b - 48)) (inside (longer b st p q)) e)

    go : (x : Bool) → is_digit b ≡ x → (y : Bool) → room n v ≡ y → (z : Bool) → eqb b (byte f) ≡ z → (w : Bool) → ltb 0 n ≡ w →
        ((es : List ℕ) (w : ℕ) → State (num f k) es (suc n) w → read (num f k) (suc i) (suc n) w t ≡ ok vs → Text (num f k) (es ++ t) vs) →
        ((ws : List ℕ) → read (k v) (suc i) 0 0 t ≡ ok ws → Text (k v) t ws) →
        elim (x && y) as (λ (c : Bool). Read) [ true ↦ read (num f k) (suc i) (suc n) (10 * v + (b - 48)) t | false ↦ elim (z && w) as (λ (c : Bool). Read) [ true ↦ noted v (read (k v) (suc i) 0 0 t) | false ↦ stop i ] ] ≡ ok vs →
        Text (num f k) (ds ++ b ∷ t) vs
    go true p true q z r w u g h e = digits p q g e
    go true p false q true r true u g h e = ended r (ltb-true 0 n u) h e
    go true p false q true r false u g h e = absurd (never e)
    go true p false q false r w u g h e = absurd (never e)
    go false p y q true r true u g h e = ended r (ltb-true 0 n u) h e
    go false p y q true r false u g h e = absurd (never e)
    go false p y q false r w u g h e = absurd (never e)

-- every script has a text, and every state can be led to an end
live : (s : Script) → (u : List ℕ) × (vs : List ℕ) × Text s u vs
live end = ([], [], done)
live (num e k) = let r = live (k 0) in ((48 + 0) ∷ byte e ∷ r.0, 0 ∷ r.1, after (digit {d = 0} (omega arith)) (omega arith) r.2)

lives : {s : Script} {ds : List ℕ} {n v : ℕ} → State s ds n v → (i : ℕ) → (u : List ℕ) × (vs : List ℕ) × (read s i n v u ≡ ok vs)
lives {s} fresh i = let r = live s in (r.0, r.1, complete r.2 i)
lives {n = n} {v = v} (inside {e = e} {k = k} m) i =
    let r = live (k v) in
    (byte e ∷ r.0, v ∷ r.1, read_end e k i n v (byte e) r.0 (not_ends e n v) (ends e) (numeral_some m) ∙ ap (noted v) (complete r.2 (suc i)))

-- a reading that stops: after m bytes, which can be led to an end, and whatever comes behind the next byte
pub record Stopped (s : Script) (i n v : ℕ) (t : List ℕ) (j : ℕ) : Type 0 where
  pub m : ℕ
  pub at : j ≡ i + m
  pub within : m ≤ length t
  pub rest : List ℕ
  pub values : List ℕ
  pub goes : read s i n v (take m t ++ rest) ≡ ok values
  pub stays : m < length t → (w : List ℕ) → read s i n v (take (suc m) t ++ w) ≡ stop j

stop_same : {i j : ℕ} → stop i ≡ stop j → j ≡ i
stop_same e = cc

ok_stop : {vs : List ℕ} {j : ℕ} → ok vs ≡ stop j → ⊥
ok_stop e = let z : ◌≡◌ {A = ℕ} 0 1 = cc in omega arith

pub stopped : (t : List ℕ) (s : Script) (ds : List ℕ) (i n v j : ℕ) → State s ds n v → read s i n v t ≡ stop j → Stopped s i n v t j
stopped [] end ds i n v j st e = absurd (ok_stop e)
stopped [] (num f k) ds i n v j st e =
    let r = lives st i in
    record { m = 0; at = omega (arith, stop_same e); within = omega arith; rest = r.0; values = r.1; goes = r.2; stays = λ h. absurd (omega arith) }
stopped (b ∷ t) end ds i n v j st e = record { m = 0; at = omega (arith, stop_same e); within = omega arith; rest = []; values = []; goes = refl; stays = λ h w. e }
stopped (b ∷ t) (num f k) ds i n v j st e = go (is_digit b) refl (room n v) refl (eqb b (byte f)) refl (ltb 0 n) refl
    (λ es w x. stopped t (num f k) es (suc i) (suc n) w j x) (λ x. stopped t (k v) [] (suc i) 0 0 j fresh x) e
  where
    Out : Type 0
    Out = Stopped (num f k) i n v (b ∷ t) j

    here : (is_digit b && room n v) ≡ false → (eqb b (byte f) && ltb 0 n) ≡ false → stop i ≡ stop j → Out
    here p q e =
        let r = lives st i in
        record { m = 0; at = omega (arith, stop_same e); within = omega arith; rest = r.0; values = r.1; goes = r.2; stays = λ h w. read_stop f k i n v b w p q ∙ e }

    ended : (is_digit b && room n v) ≡ false → eqb b (byte f) ≡ true → 0 < n → (read (k v) (suc i) 0 0 t ≡ stop j → Stopped (k v) (suc i) 0 0 t j) → noted v (read (k v) (suc i) 0 0 t) ≡ stop j → Out
    ended p q h g e =
        let r = g (noted_stop v (read (k v) (suc i) 0 0 t) j e) in
        record {
          m = suc r.m;
          at = omega (arith, r.at);
          within = omega (arith, r.within);
          rest = r.rest;
          values = v ∷ r.values;
          goes = read_end f k i n v b (take r.m t ++ r.rest) p q h ∙ ap (noted v) r.goes;
          stays = λ l w. read_end f k i n v b (take (suc r.m) t ++ w) p q h ∙ ap (noted v) (r.stays (omega arith) w);
        }

    digits : is_digit b ≡ true → room n v ≡ true → ((es : List ℕ) (w : ℕ) → State (num f k) es (suc n) w → read (num f k) (suc i) (suc n) w t ≡ stop j → Stopped (num f k) (suc i) (suc n) w t j) →
        read (num f k) (suc i) (suc n) (10 * v + (b - 48)) t ≡ stop j → Out
    digits p q g e =
        let r = g (ds ++ (b ∷ [])) (10 * v + (b - 48)) (inside (longer b st p q)) e in
        record {
          m = suc r.m;
          at = omega (arith, r.at);
          within = omega (arith, r.within);
          rest = r.rest;
          values = r.values;
          goes = read_digit f k i n v b (take r.m t ++ r.rest) p q ∙ r.goes;
          stays = λ l w. read_digit f k i n v b (take (suc r.m) t ++ w) p q ∙ r.stays (omega arith) w;
        }

    go : (x : Bool) → is_digit b ≡ x → (y : Bool) → room n v ≡ y → (z : Bool) → eqb b (byte f) ≡ z → (w : Bool) → ltb 0 n ≡ w →
        ((es : List ℕ) (w : ℕ) → State (num f k) es (suc n) w → read (num f k) (suc i) (suc n) w t ≡ stop j → Stopped (num f k) (suc i) (suc n) w t j) →
        (read (k v) (suc i) 0 0 t ≡ stop j → Stopped (k v) (suc i) 0 0 t j) →
        elim (x && y) as (λ (c : Bool). Read) [ true ↦ read (num f k) (suc i) (suc n) (10 * v + (b - 48)) t | false ↦ elim (z && w) as (λ (c : Bool). Read) [ true ↦ noted v (read (k v) (suc i) 0 0 t) | false ↦ stop i ] ] ≡ stop j →
        Out
    go true p true q z r w u g h e = digits p q g e
    go true p false q true r true u g h e = ended (and_false_right (is_digit b) q) r (ltb-true 0 n u) h e
    go true p false q true r false u g h e = here (and_false_right (is_digit b) q) (cc) e
    go true p false q false r w u g h e = here (and_false_right (is_digit b) q) (cc) e
    go false p y q true r true u g h e = ended (and_false_left (room n v) p) r (ltb-true 0 n u) h e
    go false p y q true r false u g h e = here (and_false_left (room n v) p) (cc) e
    go false p y q false r w u g h e = here (and_false_left (room n v) p) (cc) e

-- the place at which a reading stops is the one that the paper names
pub leaves : (s : Script) (t : List ℕ) (k : ℕ) → read s 0 0 0 t ≡ stop k → LeavesAt s t k
leaves s t k e = record {
  none = λ vs x. ok_stop (sym (complete x 0) ∙ e);
  within = omega (arith, r.at, r.within);
  begins = (r.rest, r.values, subst (λ x. Text s (take x t ++ r.rest) r.values) (sym same) (sound (take r.m t ++ r.rest) s [] 0 0 0 r.values fresh r.goes));
  longest = λ i lt le x. ok_stop (sym (complete x.2 0) ∙ further i lt le x.0);
}
  where
    r : Stopped s 0 0 0 t k
    r = stopped t s [] 0 0 0 k fresh e

    same : k ≡ r.m
    same = omega (arith, r.at)

    further : (i : ℕ) → k < i → i ≤ length t → (u : List ℕ) → read s 0 0 0 (take i t ++ u) ≡ stop k
    further i lt le u =
        let split : take (suc r.m) t ++ (drop (suc r.m) (take i t) ++ u) ≡ take i t ++ u =
        sym (append_assoc (take (suc r.m) t) (drop (suc r.m) (take i t)) u) ∙ ap (λ l. l ++ u) (ap (λ l. l ++ drop (suc r.m) (take i t)) (sym (take-take (suc r.m) i t (omega (arith, same)))) ∙ take-append-drop (suc r.m) (take i t)) in
        ap (λ l. read s 0 0 0 l) (sym split) ∙ r.stays (omega (arith, same)) (drop (suc r.m) (take i t) ++ u)

-- every text is of the grammar or leaves it somewhere, and there only
pub reads : (s : Script) (t : List ℕ) → ((vs : List ℕ) × Text s t vs) ⊎ ((k : ℕ) × LeavesAt s t k)
reads s t = go (read s 0 0 0 t) refl
  where
    go : (r : Read) → read s 0 0 0 t ≡ r → ((vs : List ℕ) × Text s t vs) ⊎ ((k : ℕ) × LeavesAt s t k)
    go (ok vs) e = inl (vs, sound t s [] 0 0 0 vs fresh e)
    go (stop k) e = inr (k, leaves s t k e)

pub leaves_once : {s : Script} {t : List ℕ} {k l : ℕ} → LeavesAt s t k → LeavesAt s t l → k ≡ l
leaves_once {s} {t} {k} {l} a b =
    let p : ¬ (k < l) = λ h. a.longest l h b.within b.begins in
    let q : ¬ (l < k) = λ h. b.longest k h a.within a.begins in
    omega arith

-- a text has one reading
ok_same : {vs ws : List ℕ} → ok vs ≡ ok ws → vs ≡ ws
ok_same e = cc

pub text_once : {s : Script} {t vs ws : List ℕ} → Text s t vs → Text s t ws → vs ≡ ws
text_once x y = ok_same (sym (complete x 0) ∙ complete y 0)
