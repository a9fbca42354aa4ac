-- Lines and sections of numbers: their length, their steps, and that they are spelled as the rules ask. Assumes nothing.
use mathlib.Core.Path.{◌≡◌, refl, sym, ap, ◌∙◌, subst}
use mathlib.Core.List.{List, [], ◌∷◌, ◌++◌, append_assoc, append-nil}
use Prim.Native.Nat.{ℕ, zero, suc, ◌+◌, ◌*◌, ◌-◌, ◌/◌, ◌%◌, ◌≤◌, ◌<◌}
use native.Mathlib.Omega.{arith}
use native.Mathlib.Nat.{suc-mul}
use lib.ListN.{length, take, drop, set, get_or, length-append, length-drop, take-append-drop, drop_of_length-le}
use lib.Seq.{drop-cons, length-take-le, drop-drop}
use Rattle.rules.specs.Text.{Script, a_line, some_lines, section, byte, space, line}
use Rattle.rules.specs.Printed.{Spelled, done, after}
use Rattle.writing.specs.Answer.{LineOf}
use Rattle.writing.specs.Steps.{digits, end_byte, line_text, lines_text, section_text, needed, Ruled, InScratch, CopyFits, Put, Reaches, LinesFit, SectionFits}
use Rattle.std.specs.Prelude.{Option, Some, None}
use Rattle.writing.proofs.Digits.{leading, are_digits, last_digit, leading_some}
use Rattle.writing.proofs.Paste.{OnTheWay, length_pasted, way_start, way_on, way_end, put_one, put_both}

-- the digits counted so far, and those of what is left of the number
pub record Counting (n count rest : ℕ) : Type 0 where
  pub small : count + rest ≤ 1 + n / 10
  pub all : count + length (leading rest) ≡ length (digits n)

pub counting_first : (n : ℕ) → Counting n 1 (n / 10)
counting_first n = record { small = omega arith; all = omega (arith, ap length (last_digit n), length-append (leading (n / 10)) ((48 + n % 10) ∷ [])) }

module _ {n count rest : ℕ} (c : Counting n count rest) where
  pub counting_next : 0 < rest → Counting n (count + 1) (rest / 10)
  counting_next h =
      record {
        small = omega (arith, c.small);
        all = omega (arith, c.all, ap length (leading_some rest h), ap length (last_digit rest), length-append (leading (rest / 10)) ((48 + rest % 10) ∷ []));
      }

  pub counting_done : rest ≤ 0 → count ≡ length (digits n)
  counting_done h =
      let z : rest ≡ 0 = omega arith in
      omega (arith, c.all, ap (λ r. length (leading r)) z)

-- the bytes that numbers take
pub line_length : (vs : List ℕ) → length (line_text vs) ≡ needed vs
line_length [] = refl
line_length (v ∷ vs) = omega (arith, length-append (digits v) (end_byte (length vs) ∷ line_text vs), line_length vs)

needed_append : (us vs : List ℕ) → needed (us ++ vs) ≡ needed us + needed vs
needed_append [] vs = omega arith
needed_append (u ∷ us) vs = omega (arith, needed_append us vs)

pub lines_length : (n w : ℕ) (vs : List ℕ) → Ruled n w vs → length (lines_text n w vs) ≡ needed vs
lines_length zero w vs e = sym (ap needed e)
lines_length (suc n) w vs (h, r) =
    omega (arith, length-append (line_text (take w vs)) (lines_text n w (drop w vs)), line_length (take w vs), lines_length n w (drop w vs) r, needed_append (take w vs) (drop w vs), ap needed (take-append-drop w vs))

pub section_length : (n w : ℕ) (vs : List ℕ) → Ruled n w vs → length (section_text n w vs) ≡ needed (n ∷ vs)
section_length n w vs r = omega (arith, length-append (digits n) (byte line ∷ lines_text n w vs), lines_length n w vs r)

-- the place behind the numbers
next_one : (vs : List ℕ) (i : ℕ) → i < length vs → drop i vs ≡ get_or vs i 0 ∷ drop (i + 1) vs
next_one vs i h =
    let n : suc i ≡ i + 1 = omega arith in
    drop-cons vs i 0 h ∙ ap (λ k. get_or vs i 0 ∷ drop k vs) n

-- the place behind the numbers up to i
pub record Reaching (numbers : List ℕ) (at size i next : ℕ) : Type 0 where
  pub within : i ≤ length numbers
  pub room : next ≤ size
  pub ends : next + needed (drop i numbers) ≡ at + needed numbers

module _ {vs : List ℕ} {at size : ℕ} where
  pub reaching_first : at ≤ size → Reaching vs at size 0 at
  reaching_first h = record { within = omega arith; room = h; ends = refl }

  module _ {i next : ℕ} (r : Reaching vs at size i next) where
    module _ (h : i < length vs) {count : ℕ} (e : count ≡ length (digits (get_or vs i 0))) where
      pub reaching_next : count < size - next → Reaching vs at size (i + 1) (next + (count + 1))
      reaching_next k = record { within = omega arith; room = omega (arith, r.room); ends = omega (arith, r.ends, ap needed (next_one vs i h)) }

      pub reaching_beyond : size - next ≤ count → size < at + needed vs
      reaching_beyond k = omega (arith, r.room, r.ends, ap needed (next_one vs i h))

    pub reaching_done : length vs ≤ i → (next ≡ at + needed vs) × (next ≤ size)
    reaching_done h = (omega (arith, r.ends, ap needed (drop_of_length-le vs {i = i} h)), r.room)

-- what the answer says of the room
pub has_room : (bytes at size : ℕ) {k : ℕ} {r : Option ℕ} → r ≡ Some k → Reaches bytes at size r → at + bytes ≤ size
has_room bytes at size e x = let y = subst (Reaches bytes at size) e x in omega (arith, y.0, y.1)

pub has_none : (bytes at size : ℕ) {r : Option ℕ} → r ≡ None → Reaches bytes at size r → size < at + bytes
has_none bytes at size e x = subst (Reaches bytes at size) e x

pub reaches_then : (a b at size : ℕ) {next : ℕ} {r : Option ℕ} → r ≡ Some next → Reaches a at size r → (q : Option ℕ) → Reaches b next size q → Reaches (a + b) at size q
reaches_then a b at size e x (Some k) y = let z = subst (Reaches a at size) e x in (omega (arith, z.0, y.0), y.1)
reaches_then a b at size e x None y = let z = subst (Reaches a at size) e x in omega (arith, z.0)

-- a count, and then the numbers behind it
module _ (n : ℕ) (vs : List ℕ) (at size : ℕ) {r : Option ℕ} (x : Reaches (needed (n ∷ [])) at size r) where
  pub section_reaches : {next : ℕ} → r ≡ Some next → (q : Option ℕ) → Reaches (needed vs) next size q → Reaches (needed (n ∷ vs)) at size q
  section_reaches e q y =
      let s : needed (n ∷ []) + needed vs ≡ needed (n ∷ vs) = omega arith in
      subst (λ b. Reaches b at size q) s (reaches_then (needed (n ∷ [])) (needed vs) at size e x q y)

  pub section_no_room : r ≡ None → size < at + needed (n ∷ vs)
  section_no_room e = let z = has_none (needed (n ∷ [])) at size e x in omega arith

-- a line, number by number
pub end_space : (behind : ℕ) → (behind ≡ 0 → ⊥) → byte space ≡ end_byte behind
end_space zero h = absurd (h refl)
end_space (suc behind) h = refl

module _ {n : ℕ} {bytes : List ℕ} {from : ℕ} (s : InScratch n bytes from) (e : ℕ) (o : List ℕ) (at : ℕ) (room : at + length (digits n ++ (e ∷ [])) ≤ length o) where
  ended_length : at + length (drop from bytes) + 1 ≤ length o
  ended_length = omega (arith, ap length s.all, length-append (digits n) (e ∷ []))

  pub ended_room : CopyFits from o at
  ended_room = record { within = s.within; room = omega (arith, ended_length, s.size, s.within, length-drop from bytes) }

  module _ {m : List ℕ} {next : ℕ} (p : Put (drop from bytes) o at m next) where
    pub ended_place : next < length m
    ended_place = omega (arith, ended_length, p.ends, ap length p.left, length_pasted o at (drop from bytes) (omega (arith, ended_length)))

    pub put_ended : Put (digits n ++ (e ∷ [])) o at (set m next e) (next + 1)
    put_ended = put_both room (subst (λ ds. Put ds o at m next) s.all p) (put_one m next e ended_place)

-- the numbers of a line are put up to i
pub record Lining (numbers before : List ℕ) (at : ℕ) (now : List ℕ) (i next : ℕ) : Type 0 where
  pub within : i ≤ length numbers
  pub way : OnTheWay (line_text numbers) before at (line_text (drop i numbers)) now next

module _ (vs : List ℕ) {o : List ℕ} {at : ℕ} where
  pub lining_first : at + length (line_text vs) ≤ length o → Lining vs o at o 0 at
  lining_first h = record { within = omega arith; way = way_start (line_text vs) o at h }

  module _ {now : List ℕ} {i next : ℕ} (l : Lining vs o at now i next) where
    module _ (h : i < length vs) (e : ℕ) (is : e ≡ end_byte (length vs - (i + 1))) where
      abbrev part : List ℕ
      part = digits (get_or vs i 0) ++ (e ∷ [])

      split : line_text (drop i vs) ≡ part ++ line_text (drop (i + 1) vs)
      split =
          let k : length (drop (i + 1) vs) ≡ length vs - (i + 1) = length-drop (i + 1) vs in
          ap line_text (next_one vs i h) ∙ ap (λ b. digits (get_or vs i 0) ++ b ∷ line_text (drop (i + 1) vs)) (ap end_byte k ∙ sym is) ∙ sym (append_assoc (digits (get_or vs i 0)) (e ∷ []) (line_text (drop (i + 1) vs)))

      pub lining_room : next + length part ≤ length now
      lining_room = omega (arith, l.way.size, l.way.room, l.way.ends, ap length split, length-append part (line_text (drop (i + 1) vs)))

      pub lining_next : {after : List ℕ} {then : ℕ} → Put part now next after then → Lining vs o at after (i + 1) then
      lining_next p = record { within = omega arith; way = way_on part (line_text (drop (i + 1) vs)) l.way split p }

    pub lining_done : length vs ≤ i → Put (line_text vs) o at now next
    lining_done h = way_end l.way (ap line_text (drop_of_length-le vs {i = i} h))

-- lines, one behind the other
-- the lines are put up to line i, which begins at `from`
pub record Ruling (count width : ℕ) (flat before : List ℕ) (at : ℕ) (now : List ℕ) (i from next : ℕ) : Type 0 where
  pub within : i ≤ count
  pub there : from ≤ length flat
  pub ruled : Ruled (count - i) width (drop from flat)
  pub way : OnTheWay (lines_text count width flat) before at (lines_text (count - i) width (drop from flat)) now next

module _ {count w : ℕ} {flat o : List ℕ} {at : ℕ} where
  pub ruling_first : LinesFit count w flat o at → Ruling count w flat o at o 0 0 at
  ruling_first f =
      let z : count - 0 ≡ count = omega arith in
      record { within = omega arith; there = omega arith; ruled = rw z f.ruled; way = rw z (way_start (lines_text count w flat) o at f.room) }

  module _ {now : List ℕ} {i from next : ℕ} (r : Ruling count w flat o at now i from next) where
    module _ (h : i < count) where
      one_more : count - i ≡ suc (count - (i + 1))
      one_more = omega arith

      ruled_more : Ruled (suc (count - (i + 1))) w (drop from flat)
      ruled_more = subst (λ n. Ruled n w (drop from flat)) one_more r.ruled

      pub ruling_there : from + w ≤ length flat
      ruling_there = omega (arith, r.there, ruled_more.0, length-drop from flat)

      -- the line as the code takes it out of the flat numbers
      abbrev this_line : List ℕ
      this_line = take (from + w - from) (drop from flat)

      behind : drop w (drop from flat) ≡ drop (from + w) flat
      behind = drop-drop w from flat

      split_lines : lines_text (count - i) w (drop from flat) ≡ line_text this_line ++ lines_text (count - (i + 1)) w (drop (from + w) flat)
      split_lines =
          let n : w ≡ from + w - from = omega arith in
          ap (λ k. lines_text k w (drop from flat)) one_more ∙ ap (λ l. line_text (take w (drop from flat)) ++ lines_text (count - (i + 1)) w l) behind ∙ ap (λ k. line_text (take k (drop from flat)) ++ lines_text (count - (i + 1)) w (drop (from + w) flat)) n

      pub ruling_room : next + length (line_text this_line) ≤ length now
      ruling_room = omega (arith, r.way.size, r.way.room, r.way.ends, ap length split_lines, length-append (line_text this_line) (lines_text (count - (i + 1)) w (drop (from + w) flat)))

      pub ruling_next : {after : List ℕ} {then : ℕ} → Put (line_text this_line) now next after then → Ruling count w flat o at after (i + 1) (from + w) then
      ruling_next p =
          record {
            within = omega arith;
            there = ruling_there;
            ruled = subst (Ruled (count - (i + 1)) w) behind ruled_more.1;
            way = way_on (line_text this_line) (lines_text (count - (i + 1)) w (drop (from + w) flat)) r.way split_lines p;
          }

    pub ruling_done : count ≤ i → Put (lines_text count w flat) o at now next
    ruling_done h =
        let z : count - i ≡ 0 = omega arith in
        way_end r.way (ap (λ n. lines_text n w (drop from flat)) z)

-- lines of as many numbers as there are
no_numbers_lem : (vs : List ℕ) → length vs ≡ 0 → vs ≡ []
no_numbers_lem [] e = refl
no_numbers_lem (v ∷ vs) e = absurd (omega arith)

pub ruled_by : (n w : ℕ) (vs : List ℕ) → length vs ≡ n * w → Ruled n w vs
ruled_by zero w vs e = no_numbers_lem vs (omega arith)
ruled_by (suc n) w vs e =
    let m = suc-mul n w in
    (omega arith, ruled_by n w (drop w vs) (omega (arith, length-drop w vs)))

-- a section: its count, and then its lines
module _ (n w : ℕ) (vs o : List ℕ) (at : ℕ) (f : SectionFits n w vs o at) where
  abbrev count_line : List ℕ
  count_line = digits n ++ (byte line ∷ [])

  section_parts : count_line ++ lines_text n w vs ≡ section_text n w vs
  section_parts = append_assoc (digits n) (byte line ∷ []) (lines_text n w vs)

  both_fit : at + length (count_line ++ lines_text n w vs) ≤ length o
  both_fit = omega (arith, f.room, ap length section_parts)

  pub count_room : at + length count_line ≤ length o
  count_room = omega (arith, both_fit, length-append count_line (lines_text n w vs))

  module _ {m : List ℕ} {next : ℕ} (p : Put count_line o at m next) where
    pub lines_room : LinesFit n w vs m next
    lines_room = record { ruled = f.ruled; room = omega (arith, both_fit, length-append count_line (lines_text n w vs), p.ends, ap length p.left, length_pasted o at count_line count_room) }

    pub section_put : {after : List ℕ} {then : ℕ} → Put (lines_text n w vs) m next after then → Put (section_text n w vs) o at after then
    section_put {after} {then} q = subst (λ l. Put l o at after then) section_parts (put_both both_fit p q)

-- spelled as the rules ask
pub spelled_line : (vs : List ℕ) {s : Script} {t ws : List ℕ} → Spelled s t ws → Spelled (a_line (length vs) s) (line_text vs ++ t) (vs ++ ws)
spelled_line [] x = x
spelled_line (v ∷ []) {t = t} x = rw (append_assoc (digits v) (byte line ∷ []) t) (after {e = line} (are_digits v) x)
spelled_line (v ∷ u ∷ vs) {t = t} x = rw (append_assoc (digits v) (byte space ∷ line_text (u ∷ vs)) t) (after {e = space} (are_digits v) (spelled_line (u ∷ vs) x))

pub spelled_lines : (n w : ℕ) (vs : List ℕ) → Ruled n w vs → {s : Script} {t ws : List ℕ} → Spelled s t ws → Spelled (some_lines n w s) (lines_text n w vs ++ t) (vs ++ ws)
spelled_lines zero w vs e {s} {t} {ws} x = subst (λ l. Spelled s t (l ++ ws)) (sym e) x
spelled_lines (suc n) w vs (h, r) {s} {t} {ws} x =
    let a = line_text (take w vs) in
    let b = lines_text n w (drop w vs) in
    let l : length (take w vs) ≡ w = length-take-le w vs h in
    let y = spelled_line (take w vs) (spelled_lines n w (drop w vs) r x) in
    let z = subst (λ k. Spelled (a_line k (some_lines n w s)) (a ++ (b ++ t)) (take w vs ++ (drop w vs ++ ws))) l y in
    let v : take w vs ++ (drop w vs ++ ws) ≡ vs ++ ws = sym (append_assoc (take w vs) (drop w vs) ws) ∙ ap (λ l. l ++ ws) (take-append-drop w vs) in
    rw append_assoc (subst (Spelled (some_lines (suc n) w s) (a ++ (b ++ t))) v z)

pub spelled_section : (n w : ℕ) (vs : List ℕ) → Ruled n w vs → {s : Script} {t ws : List ℕ} → Spelled s t ws → Spelled (section w s) (section_text n w vs ++ t) (n ∷ vs ++ ws)
spelled_section n w vs r {t = t} x = rw (append_assoc (digits n) (byte line ∷ lines_text n w vs) t) (after {e = line} (are_digits n) (spelled_lines n w vs r x))

-- .. with nothing behind
pub spelled_alone : {s : Script} {t vs : List ℕ} → Spelled s (t ++ []) (vs ++ []) → Spelled s t vs
spelled_alone {s} {t} {vs} x = subst (λ l. Spelled s l vs) (append-nil t) (subst (Spelled s (t ++ [])) (append-nil vs) x)

pub line_is : (vs : List ℕ) → LineOf vs (line_text vs)
line_is vs = spelled_alone (spelled_line vs done)
