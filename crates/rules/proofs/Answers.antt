-- Every input has an answer, and one only: texts, jobs as numbers and lists, for the planner and for the checker.
-- The one exception is which plan of the best outline stands in the buffer after number 0. Assumes nothing.
use mathlib.Core.Path.{◌≡◌, refl, sym, ap, ◌∙◌, subst}
use mathlib.Core.Logic.{◌⊎◌, inl, inr, ◌≢◌}
use mathlib.Core.Option.{Option, none, some}
use mathlib.Core.List.{List, [], ◌∷◌}
use Prim.Native.Nat.{ℕ, zero, suc, ◌*◌, ◌≤◌}
use native.Mathlib.Omega.{arith}
use native.Mathlib.Decide.{dec_le, ℕ_discrete}
use lib.ListN.{length, drop, length-drop}
use Rattle.rules.specs.Limits.{types_most, input_most}
use Rattle.rules.specs.Text.{Script, end, Text, LeavesAt, job_text, section, some_lines, a_line}
use Rattle.rules.specs.Items.{out_of_range, numbers_from, placements_from, ranges, piece_count, handed_over}
use Rattle.rules.specs.Numbers.{PieceType, job_of, entries}
use Rattle.rules.specs.Checker.{CheckAnswer}
use Rattle.rules.specs.Planner.{PlanAnswer, no_plan, plan_of, room_of, slots_of, Planned, none_fits, too_many, no_slots, done, numbers_for, arena_after}
use Rattle.rules.specs.Answers.{Ranged, outside, within, Read, no_text, a_text, Given, too_long, a_length, PlanLeft, refused_plan, PlanItems, PlanNumbers, PlanText, PlanInput, CheckItems, CheckNumbers, CheckText, CheckInput}
use Rattle.rules.proofs.Reading.{reads, leaves_once, text_once}
use Rattle.rules.proofs.Writing.{Asked, one, text_asked}
use Rattle.rules.proofs.Order.{best_unique}
use Rattle.rules.proofs.Planning.{planned, planned_once, is_done}
use Rattle.rules.proofs.Checking.{checked, checked_is, checked_once}
use Rattle.rules.proofs.Accept.{job_typed}
use Rattle.rules.proofs.Ranges.{InRange, Whole, in_range, kept, this, those, handed_whole}
use Rattle.rules.proofs.Arrange.{written_exists}

none_some : {i : ℕ} → ◌≡◌ {A = Option ℕ} none (some i) → ⊥
none_some e = let z : ◌≡◌ {A = ℕ} 0 1 = cc in omega arith

some_same : {i k : ℕ} → some i ≡ some k → i ≡ k
some_same e = cc

-- One answer: whatever relation the answers to a job's items have, the answers to all inputs have.
module _ {A : Type 0} {refuse : ℕ → ℕ → A} {Then : List ℕ → A → Type 0} (R : A → A → Type 0) (itself : (a : A) → R a a) (f : (vs : List ℕ) (a b : A) → Then vs a → Then vs b → R a b) where
  pub ranged_once : {vs : List ℕ} {a b : A} → Ranged refuse Then vs a → Ranged refuse Then vs b → R a b
  ranged_once (outside {item = i} e) (outside g) = subst (λ k. R (refuse 2 i) (refuse 2 k)) (some_same (sym e ∙ g)) (itself (refuse 2 i))
  ranged_once (outside e) (within g x) = absurd (none_some (sym g ∙ e))
  ranged_once (within e x) (outside g) = absurd (none_some (sym e ∙ g))
  ranged_once {vs} (within {a = a} e x) (within {a = b} g y) = f vs a b x y

  pub read_once : {s : Script} {t : List ℕ} {a b : A} → Read refuse s Then t a → Read refuse s Then t b → R a b
  read_once (no_text {place = k} l) (no_text m) = subst (λ i. R (refuse 1 k) (refuse 1 i)) (leaves_once l m) (itself (refuse 1 k))
  read_once (no_text l) (a_text {vs = vs} x r) = absurd (l.none vs x)
  read_once (a_text {vs = vs} x r) (no_text l) = absurd (l.none vs x)
  read_once (a_text {vs = vs} {a = a} x r) (a_text {vs = ws} y q) = ranged_once (subst (λ us. Ranged refuse Then us a) (text_once x y) r) q

  pub given_once : {s : Script} {t : List ℕ} {a b : A} → Given refuse s Then t a → Given refuse s Then t b → R a b
  given_once (too_long h) (too_long k) = itself (refuse 11 input_most)
  given_once (too_long h) (a_length k y) = absurd (omega arith)
  given_once (a_length h x) (too_long k) = absurd (omega arith)
  given_once (a_length h x) (a_length k y) = read_once x y

-- An answer: where the items of a job in range have one, all inputs have one.
module _ {A : Type 0} {refuse : ℕ → ℕ → A} {Then : List ℕ → A → Type 0} where
  pub ranged_some : (vs : List ℕ) → (out_of_range vs ≡ none → (a : A) × Then vs a) → (a : A) × Ranged refuse Then vs a
  ranged_some vs f = go (out_of_range vs) refl
    where
      go : (o : Option ℕ) → out_of_range vs ≡ o → (a : A) × Ranged refuse Then vs a
      go none e = let r = f e in (r.0, within e r.1)
      go (some i) e = (refuse 2 i, outside e)

  pub read_some : (s : Script) (t : List ℕ) → ((vs : List ℕ) → Text s t vs → out_of_range vs ≡ none → (a : A) × Then vs a) → (a : A) × Read refuse s Then t a
  read_some s t f = go (reads s t)
    where
      go : ((vs : List ℕ) × Text s t vs) ⊎ ((k : ℕ) × LeavesAt s t k) → (a : A) × Read refuse s Then t a
      go (inl r) = let a = ranged_some r.0 (f r.0 r.1) in (a.0, a_text r.1 a.1)
      go (inr r) = (refuse 1 r.0, no_text r.1)

  pub given_some : (s : Script) (t : List ℕ) → ((vs : List ℕ) → Text s t vs → out_of_range vs ≡ none → (a : A) × Then vs a) → (a : A) × Given refuse s Then t a
  given_some s t f = go (dec_le (length t) input_most)
    where
      go : Dec (length t ≤ input_most) → (a : A) × Given refuse s Then t a
      go (yes h) = let r = read_some s t f in (r.0, a_length h r.1)
      go (no h) = (refuse 11 input_most, too_long (omega arith))

-- The checker
pub check_items : (flat vs : List ℕ) → (a : CheckAnswer) × CheckItems flat vs a
check_items flat vs = (checked (numbers_from vs) (entries flat), checked_is (numbers_from vs) (entries flat))

pub check_numbers_some : (flat vs : List ℕ) → (a : CheckAnswer) × CheckNumbers flat vs a
check_numbers_some flat vs = ranged_some vs (λ e. check_items flat vs)

pub check_text_some : (t : List ℕ) → (a : CheckAnswer) × CheckText t a
check_text_some t = read_some _ t (λ vs x e. check_items (placements_from vs) vs)

pub check_input_some : (t : List ℕ) → (a : CheckAnswer) × CheckInput t a
check_input_some t = given_some _ t (λ vs x e. check_items (placements_from vs) vs)

pub check_numbers_once : (flat : List ℕ) {vs : List ℕ} {a b : CheckAnswer} → CheckNumbers flat vs a → CheckNumbers flat vs b → a ≡ b
check_numbers_once flat x y = ranged_once (λ a b. a ≡ b) (λ a. refl) (λ vs a b p q. checked_once p q) x y

pub check_text_once : {t : List ℕ} {a b : CheckAnswer} → CheckText t a → CheckText t b → a ≡ b
check_text_once x y = read_once (λ a b. a ≡ b) (λ a. refl) (λ vs a b p q. checked_once p q) x y

pub check_input_once : {t : List ℕ} {a b : CheckAnswer} → CheckInput t a → CheckInput t b → a ≡ b
check_input_once x y = given_once (λ a b. a ≡ b) (λ a. refl) (λ vs a b p q. checked_once p q) x y

-- The planner: what two calls on the same input may leave. Only the placements that 0 writes may differ.
pub record Agree (p q : PlanLeft) : Type 0 where
  pub answer : p.answer ≡ q.answer
  pub arena : p.arena ≡ q.arena
  pub refused : p.answer.number ≢ 0 → p.buffer ≡ q.buffer
  pub rest : drop (3 * p.answer.pieces) p.buffer ≡ drop (3 * p.answer.pieces) q.buffer

agree_self : (p : PlanLeft) → Agree p p
agree_self p = record { answer = refl; arena = refl; refused = λ h. refl; rest = refl }

-- what 0 leaves behind the placements is what stood there
rest_kept : {arena buffer vs : List ℕ} {p : PlanLeft} → PlanItems arena buffer vs p → drop (3 * p.answer.pieces) p.buffer ≡ drop (3 * p.answer.pieces) buffer
rest_kept {buffer = buffer} {vs = vs} {p = p} x = go (ℕ_discrete p.answer.number 0)
  where
    go : Dec (p.answer.number ≡ 0) → drop (3 * p.answer.pieces) p.buffer ≡ drop (3 * p.answer.pieces) buffer
    go (yes z) =
        let d = is_done x.planned z in
        let w = x.buffer_left.written z in
        let e : numbers_for w.0 ≡ 3 * p.answer.pieces = ap numbers_for (best_unique w.1 d.best) ∙ ap (λ (a : PlanAnswer). 3 * a.pieces) (sym d.answer) in
        subst (λ k. drop k p.buffer ≡ drop k buffer) e w.2.rest
    go (no z) = ap (drop (3 * p.answer.pieces)) (x.buffer_left.kept z)

pub items_agree : {arena buffer : List ℕ} (vs : List ℕ) (p q : PlanLeft) → PlanItems arena buffer vs p → PlanItems arena buffer vs q → Agree p q
items_agree {arena} {buffer} vs p q x y =
    let e = planned_once x.planned y.planned in
    record {
      answer = e;
      arena = x.arena_left ∙ ap (λ (a : PlanAnswer). arena_after a.number arena) e ∙ sym y.arena_left;
      refused = λ h. x.buffer_left.kept h ∙ sym (y.buffer_left.kept (λ z. h (ap (λ (a : PlanAnswer). a.number) e ∙ z)));
      rest = rest_kept x ∙ sym (subst (λ (a : PlanAnswer). drop (3 * a.pieces) q.buffer ≡ drop (3 * a.pieces) buffer) (sym e) (rest_kept y));
    }

pub plan_numbers_once : {arena buffer vs : List ℕ} {p q : PlanLeft} → PlanNumbers arena buffer vs p → PlanNumbers arena buffer vs q → Agree p q
plan_numbers_once x y = ranged_once Agree agree_self items_agree x y

pub plan_text_once : {arena buffer t : List ℕ} {p q : PlanLeft} → PlanText arena buffer t p → PlanText arena buffer t q → Agree p q
plan_text_once x y = read_once Agree agree_self items_agree x y

pub plan_input_once : {arena buffer t : List ℕ} {p q : PlanLeft} → PlanInput arena buffer t p → PlanInput arena buffer t q → Agree p q
plan_input_once x y = given_once Agree agree_self items_agree x y

-- every job in range can be answered, with a plan where the answer is 0
pub plan_items : (arena buffer vs : List ℕ) → InRange (numbers_from vs) → (p : PlanLeft) × PlanItems arena buffer vs p
plan_items arena buffer vs r =
    let j = job_of (numbers_from vs) in
    let a = planned j (job_typed (numbers_from vs)) (room_of (length arena)) (slots_of (length buffer)) in go a.1
  where
    refuses : (number : ℕ) → number ≢ 0 → Planned (job_of (numbers_from vs)) (room_of (length arena)) (slots_of (length buffer)) (no_plan number 0) → (p : PlanLeft) × PlanItems arena buffer vs p
    refuses number h x = (refused_plan arena buffer number 0, record { planned = x; arena_left = refl; buffer_left = record { written = λ z. absurd (h z); kept = λ z. refl } })

    go : {a : PlanAnswer} → Planned (job_of (numbers_from vs)) (room_of (length arena)) (slots_of (length buffer)) a → (p : PlanLeft) × PlanItems arena buffer vs p
    go (none_fits h) = refuses 3 (λ z. omega arith) (none_fits h)
    go (too_many h) = refuses 4 (λ z. omega arith) (too_many h)
    go (no_slots e l b h) = refuses 5 (λ z. omega arith) (no_slots e l b h)
    go (done {l = l} {o = o} e m b h) =
        let w = written_exists r b.build buffer (omega arith) in (
          record { answer = plan_of (job_of (numbers_from vs)) o (length l); arena = arena_after 0 arena; buffer = w.0 },
          record { planned = done e m b h; arena_left = refl; buffer_left = record { written = λ z. (o, b, w.1); kept = λ z. absurd (z refl) } },
        )

-- a job text has the items of all its types
pub asked_line : (w : ℕ) (s : Script) {vs : List ℕ} → Asked (a_line w s) vs → (w ≤ length vs) × Asked s (drop w vs)
asked_line zero s a = (omega arith, a)
asked_line (suc zero) s (one a) = (omega arith, a)
asked_line (suc (suc w)) s (one a) = let r = asked_line (suc w) s a in (omega (arith, r.0), r.1)

pub asked_lines : (n w : ℕ) (s : Script) {vs : List ℕ} → Asked (some_lines n w s) vs → n * w ≤ length vs
asked_lines zero w s a = omega arith
asked_lines (suc n) w s {vs} a =
    let r = asked_line w (some_lines n w s) a in
    omega (arith, r.0, asked_lines n w s r.1, length-drop w vs)

asked_whole : (vs : List ℕ) → Asked (section 3 (section 4 end)) vs → out_of_range vs ≡ none → Whole vs
asked_whole [] a e = elim a [ ]
asked_whole (c ∷ vs) (one a) e =
    let k = this (kept 0 (ranges (piece_count (c ∷ vs))) (c ∷ vs) e) in
    let z : c ≡ 1 = omega (arith, k.low, k.high) in
    let r = asked_line 3 (section 4 end) (subst (λ n. Asked (some_lines n 3 (section 4 end)) vs) z a) in
    go vs r.0 r.1
  where
    go : (vs : List ℕ) → 3 ≤ length vs → Asked (section 4 end) (drop 3 vs) → Whole (c ∷ vs)
    go [] h b = absurd (omega arith)
    go (l ∷ []) h b = absurd (omega arith)
    go (l ∷ w ∷ []) h b = absurd (omega arith)
    go (l ∷ w ∷ k ∷ []) h b = elim b [ ]
    go (l ∷ w ∷ k ∷ n ∷ us) h (one b) = record { items = omega (arith, asked_lines n 4 end b) }

pub text_in_range : {t vs : List ℕ} → Text job_text t vs → out_of_range vs ≡ none → InRange (numbers_from vs)
unfolding job_text
text_in_range {vs = vs} x e = in_range vs (asked_whole vs (text_asked x) e) e

pub handed_in_range : (l w k n : ℕ) (ps : List PieceType) → length ps ≡ types_most → out_of_range (handed_over l w k n ps) ≡ none → InRange (numbers_from (handed_over l w k n ps))
handed_in_range l w k n ps h e =
    let c = this (those (those (those (those (kept 0 (ranges n) (handed_over l w k n ps) e))))) in
    in_range (handed_over l w k n ps) (handed_whole l w k n ps (omega (arith, c.high))) e

pub plan_numbers_some : (arena buffer : List ℕ) (l w k n : ℕ) (ps : List PieceType) → length ps ≡ types_most → (p : PlanLeft) × PlanNumbers arena buffer (handed_over l w k n ps) p
plan_numbers_some arena buffer l w k n ps h = ranged_some (handed_over l w k n ps) (λ e. plan_items arena buffer (handed_over l w k n ps) (handed_in_range l w k n ps h e))

pub plan_text_some : (arena buffer t : List ℕ) → (p : PlanLeft) × PlanText arena buffer t p
plan_text_some arena buffer t = read_some job_text t (λ vs x e. plan_items arena buffer vs (text_in_range x e))

pub plan_input_some : (arena buffer t : List ℕ) → (p : PlanLeft) × PlanInput arena buffer t p
plan_input_some arena buffer t = given_some job_text t (λ vs x e. plan_items arena buffer vs (text_in_range x e))
