-- What a writer wrote: there is one answer and one content of the buffer, and the written texts are read back as the same numbers. Assumes nothing.
use mathlib.Core.Path.{◌≡◌, refl, sym, ap, ◌∙◌, subst}
use mathlib.Core.Option.{none}
use mathlib.Core.List.{List, [], ◌∷◌, ◌++◌, map, append_assoc}
use Prim.Native.Nat.{ℕ, zero, suc, ◌+◌, ◌*◌, ◌-◌, ◌≤◌, ◌<◌}
use native.Mathlib.Omega.{arith}
use lib.ListN.{length, take, drop, length-take}
use lib.Seq.{take_at, drop_at, length-take-le}
use Rattle.rules.specs.Limits.{size_most, kerf_most, types_most, profit_most, demand_most, pieces_most, placement_numbers}
use Rattle.rules.specs.Bag.{All, nil, cons}
use Rattle.rules.specs.Items.{Range, from, ranges, piece_ranges, out_of_range}
use Rattle.rules.specs.Planner.{slots_of}
use Rattle.rules.specs.Text.{Script, end, section, Text, job_text}
use Rattle.rules.specs.Printed.{Spelled}
use Rattle.rules.proofs.Ranges.{Kept, no_range, no_item, item, kept, length_items}
use Rattle.rules.proofs.Writing.{decimal_once, spelled_once, spelled_text, read_back}
use Rattle.shapes.specs.Handed.{type_of, items_of}
use Rattle.shapes.specs.declared.Job.{Job}
use Rattle.writing.specs.Answer.{Stored, Writes, NumberOf, SectionOf, HouseText}
use Rattle.std.specs.Prelude.{Result, Ok, Err}
use Rattle.writing.specs.declared.Unwritten.{Unwritten}
use Rattle.writing.specs.declared.Unwritten.TheVariants.{Full, NoText}

-- where one list of bytes is as asked for, one answer is permitted, and one content of the buffer
pub record Same (r q : Result ℕ Unwritten) (x y : List ℕ) : Type 0 where
  pub answer : r ≡ q
  pub buffer : x ≡ y

module _ (Asked : List ℕ → Type 0) (single : (a b : List ℕ) → Asked a → Asked b → a ≡ b) (o : List ℕ) (at : ℕ) where
  pub written_once : (r q : Result ℕ Unwritten) (x y : List ℕ) → Writes Asked o at x r → Writes Asked o at y q → Same r q x y
  written_once (Ok m) (Ok n) x y s t =
      let e = single s.bytes t.bytes s.asked t.asked in
      let k : m ≡ n = s.ends ∙ ap (λ b. at + length b) e ∙ sym t.ends in
      record { answer = ap Ok k; buffer = s.left ∙ (λ i. take at o ++ e i ++ drop (k i) o) ∙ sym t.left }
  written_once (Ok m) (Err Full) x y s t = absurd (omega (arith, s.ends, s.room, t.short, ap length (single s.bytes t.bytes s.asked t.asked)))
  written_once (Ok m) (Err NoText) x y s t = absurd (t.none s.bytes s.asked)
  written_once (Err Full) (Ok n) x y s t = absurd (omega (arith, t.ends, t.room, s.short, ap length (single s.bytes t.bytes s.asked t.asked)))
  written_once (Err Full) (Err Full) x y s t = record { answer = refl; buffer = s.left ∙ sym t.left }
  written_once (Err Full) (Err NoText) x y s t = absurd (t.none s.bytes s.asked)
  written_once (Err NoText) (Ok n) x y s t = absurd (s.none t.bytes t.asked)
  written_once (Err NoText) (Err Full) x y s t = absurd (s.none t.bytes t.asked)
  written_once (Err NoText) (Err NoText) x y s t = record { answer = refl; buffer = s.left ∙ sym t.left }

  -- a caller that lends enough room gets all that it asks for
  pub enough_room : (bytes : List ℕ) → Asked bytes → at + length bytes ≤ length o → (r : Result ℕ Unwritten) (x : List ℕ) → Writes Asked o at x r → r ≡ Ok (at + length bytes)
  enough_room bytes a h (Ok n) x s = ap Ok (s.ends ∙ ap (λ b. at + length b) (single s.bytes bytes s.asked a))
  enough_room bytes a h (Err Full) x s = absurd (omega (arith, s.short, ap length (single s.bytes bytes s.asked a)))
  enough_room bytes a h (Err NoText) x s = absurd (s.none bytes a)

pub number_once : (n : ℕ) (o : List ℕ) (at : ℕ) (r q : Result ℕ Unwritten) (x y : List ℕ) → Writes (NumberOf n) o at x r → Writes (NumberOf n) o at y q → Same r q x y
number_once n = written_once (NumberOf n) (λ a b. decimal_once)

-- every line, section and house text is asked for by a script and its numbers
pub text_once : (s : Script) (vs o : List ℕ) (at : ℕ) (r q : Result ℕ Unwritten) (x y : List ℕ) → Writes (λ bytes. Spelled s bytes vs) o at x r → Writes (λ bytes. Spelled s bytes vs) o at y q → Same r q x y
text_once s vs = written_once (λ bytes. Spelled s bytes vs) (λ a b. spelled_once)

-- what stands between the two places
abbrev pub between : ℕ → ℕ → List ℕ → List ℕ
between at next after = take (next - at) (drop at after)

pub stands_between : {Asked : List ℕ → Type 0} {o after : List ℕ} {at next : ℕ} (s : Stored Asked o at after next) → between at next after ≡ s.bytes
stands_between {o = o} {after = after} {at = at} {next = next} s =
    let l : length (take at o) ≡ at = length-take-le at o (omega (arith, s.ends, s.room)) in
    let n : length s.bytes ≡ next - at = omega (arith, s.ends) in
    let d : drop at after ≡ s.bytes ++ drop next o = ap (drop at) (s.left ∙ append_assoc (take at o) s.bytes (drop next o)) ∙ drop_at (take at o) (s.bytes ++ drop next o) at l in
    ap (take (next - at)) d ∙ take_at s.bytes (drop next o) (next - at) n

-- a text of these numbers, and of no others
pub record ReadsAs (s : Script) (part vs : List ℕ) : Type 0 where
  pub text : Text s part vs
  pub once : (ws : List ℕ) → Text s part ws → ws ≡ vs

pub reads_back : (s : Script) (vs : List ℕ) {o after : List ℕ} {at next : ℕ} → All (λ v. v < 100_000_000) vs → Stored (λ bytes. Spelled s bytes vs) o at after next → ReadsAs s (between at next after) vs
reads_back s vs small x =
    let e = sym (stands_between x) in
    record {
      text = subst (λ p. Text s p vs) e (spelled_text x.asked small);
      once = λ ws t. read_back x.asked small (subst (λ p. Text s p ws) (sym e) t);
    }

-- "what is written is read back as the same numbers": a placement section, where its count and its numbers have at most 8 digits
pub section_reads_back : (flat : List ℕ) {o after : List ℕ} {at next : ℕ} → All (λ v. v < 100_000_000) (slots_of (length flat) ∷ take (slots_of (length flat) * placement_numbers) flat) → Stored (SectionOf flat) o at after next → ReadsAs (section placement_numbers end) (between at next after) (slots_of (length flat) ∷ take (slots_of (length flat) * placement_numbers) flat)
section_reads_back flat small x = reads_back (section placement_numbers end) (slots_of (length flat) ∷ take (slots_of (length flat) * placement_numbers) flat) small x

-- the ranges of a job's items are those of numbers of at most 8 digits
abbrev Short : Range → Type 0
Short r = r.high < 100_000_000

also : (low high : ℕ) {rs : List Range} → high < 100_000_000 → All Short rs → All Short (from low high ∷ rs)
also low high h a = cons {x = from low high} h a

pieces_short : (n : ℕ) {rs : List Range} → All Short rs → All Short (piece_ranges n rs)
pieces_short zero a = a
pieces_short (suc n) a = also 1 size_most (omega arith) (also 1 size_most (omega arith) (also 1 profit_most (omega arith) (also 1 demand_most (omega arith) (pieces_short n a))))

ranges_short : (n : ℕ) → All Short (ranges n)
ranges_short n =
    let behind = pieces_short n (also 0 pieces_most (omega arith) nil) in
    also 1 1 (omega arith) (also 1 size_most (omega arith) (also 1 size_most (omega arith) (also 0 kerf_most (omega arith) (also 1 types_most (omega arith) behind))))

pieces_count : (n : ℕ) (rs : List Range) → length (piece_ranges n rs) ≡ 4 * n + length rs
pieces_count zero rs = omega arith
pieces_count (suc n) rs = omega (arith, pieces_count n rs)

kept_short : {rs : List Range} {vs : List ℕ} → Kept rs vs → All Short rs → length vs ≤ length rs → All (λ v. v < 100_000_000) vs
kept_short {vs = []} no_range a h = nil
kept_short {vs = v ∷ vs} no_range a h = absurd (omega arith)
kept_short no_item a h = nil
kept_short (item {v = v} b k) (cons s a) h = cons {x = v} (omega (arith, b.high)) (kept_short k a (omega arith))

pub items_short : (job : Job) → out_of_range (items_of job) ≡ none → All (λ v. v < 100_000_000) (items_of job)
items_short job e =
    let types = map type_of job.types in
    kept_short (kept 0 (ranges job.count) (items_of job) e) (ranges_short job.count)
    (omega (arith, pieces_count job.count (from 0 pieces_most ∷ []), length_items (take job.count types), length-take job.count types))

-- .. and a job's house text, where the job is in range
pub job_reads_back : (job : Job) {o after : List ℕ} {at next : ℕ} → out_of_range (items_of job) ≡ none → Stored (HouseText job) o at after next → ReadsAs job_text (between at next after) (items_of job)
job_reads_back job e x = reads_back job_text (items_of job) (items_short job e) x
