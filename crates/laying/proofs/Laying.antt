-- The boxes of a list, one after the other. Assumes nothing.
use mathlib.Core.Path.{◌≡◌, refl, sym, ap, ◌∙◌, subst}
use mathlib.Core.List.{List}
use Prim.Native.Nat.{ℕ, ◌+◌, ◌-◌, ◌≤◌, ◌<◌}
use native.Mathlib.Omega.{arith}
use native.Mathlib.Decide.{ℕ_discrete}
use lib.ListN.{length, get_or, set, length-set}
use lib.Seq.{get_or-set_same, get_or-set_other}
use mathlib.Core.Logic.{◌≢◌}
use Rattle.rules.specs.Limits.{size_most}
use Rattle.rules.specs.Placed as rules
use Rattle.rules.specs.Box.{Way, along, across, near, far}
use Rattle.rules.specs.Numbers.{PieceType, Entry, entries, no_type, placed, job_of}
use Rattle.rules.specs.Planner.{slots_of}
use Rattle.rules.proofs.Bags.{all_index}
use Rattle.rules.proofs.Accept.{sheet_kept}
use Rattle.shapes.specs.Handed.{numbers_of, entry_of}
use Rattle.shapes.specs.declared.Job.{Job}
use Rattle.shapes.specs.declared.PieceType as declared
use Rattle.shapes.specs.declared.Placement.{Placement}
use Rattle.parting.specs.Region.{no_lines, box_of, box_at, Listed}
use Rattle.parting.specs.declared.Lines.{Lines}
use Rattle.placing.specs.Place.{no_entry, entry_at, TypeOf}
use Rattle.placing.proofs.Entries.{length_entries}
use Rattle.laying.specs.Laid.{Laid, ToLay}

pub record Laying (j : Job) (flat : List ℕ) (was s : List Lines) (i : ℕ) : Type 0 where
  pub within : i ≤ slots_of (length flat)
  pub same_length : length s ≡ length was
  pub listed : (k : ℕ) → k < i → Listed s k
  pub at : (k : ℕ) → k < i → box_at s k ≡ (placed (numbers_of j) (entry_at flat k)).box

pub laying_start : {j : Job} {flat : List ℕ} {s : List Lines} → Laying j flat s s 0
laying_start = record { within = omega arith; same_length = refl; listed = λ k h. absurd (omega arith); at = λ k h. absurd (omega arith) }

module _ {j : Job} {flat : List ℕ} {was s : List Lines} {i : ℕ} (ask : ToLay j flat was) (g : Laying j flat was s i) (h : i < slots_of (length flat)) (p : Placement) (is-p : entry_of p ≡ entry_at flat i) (t : declared.PieceType) (is-t : TypeOf j p.kind t) where
  length_is : (rules.of_type no_type (numbers_of j).types p.kind).long ≡ t.length
  length_is = sym (ap (λ (q : PieceType). q.long) is-t.is)

  width_is : (rules.of_type no_type (numbers_of j).types p.kind).wide ≡ t.width
  width_is = sym (ap (λ (q : PieceType). q.wide) is-t.is)

  on_sheet : rules.OnSheet (job_of (numbers_of j)) (placed (numbers_of j) (entry_of p))
  on_sheet = subst (λ (e : Entry). rules.OnSheet (job_of (numbers_of j)) (placed (numbers_of j) e)) (sym is-p) (all_index no_entry (sheet_kept (numbers_of j) (entries flat) ask.on_sheet.sheet) i (omega (arith, length_entries flat)))

  -- no line of the piece is beyond the largest sheet
  pub far_along : p.x + (t.length + j.kerf) ≤ size_most
  far_along = omega (arith, on_sheet.right, length_is, ask.on_sheet.typed.fine.numbers.long.high)

  pub far_across : p.y + (t.width + j.kerf) ≤ size_most
  far_across = omega (arith, on_sheet.high, width_is, ask.on_sheet.typed.fine.numbers.wide.high)

  abbrev laid : Lines
  laid = record { along = record { near = p.x; far = p.x + (t.length + j.kerf) }; across = record { near = p.y; far = p.y + (t.width + j.kerf) } }

  pub laying_next : Laying j flat was (set s i laid) (i + 1)
  laying_next = record {
    within = omega arith;
    same_length = simp length-set g.same_length;
    listed = λ k l. listed k l (ℕ_discrete k i);
    at = λ k l. box k l (ℕ_discrete k i);
  }
    where
      here : get_or (set s i laid) i no_lines ≡ laid
      here = get_or-set_same s i laid no_lines (omega (arith, ask.there, g.same_length))

      kept : (k : ℕ) → k ≢ i → get_or (set s i laid) k no_lines ≡ get_or s k no_lines
      kept k e = get_or-set_other s i k laid no_lines e

      sizes : (w : Way) → near w (box_of laid) < far w (box_of laid)
      sizes along = omega (arith, is-t.range.long.low)
      sizes across = omega (arith, is-t.range.wide.low)

      listed : (k : ℕ) → k < i + 1 → Dec (k ≡ i) → Listed (set s i laid) k
      listed k l (yes e) = record { there = simp length-set (omega (arith, ask.there, g.same_length)); thick = λ w. rw (e, here) (sizes w) }
      listed k l (no e) =
          let old = g.listed k (omega arith) in
          record { there = simp length-set old.there; thick = λ w. rw (kept k e) (old.thick w) }

      box : (k : ℕ) → k < i + 1 → Dec (k ≡ i) → box_at (set s i laid) k ≡ (placed (numbers_of j) (entry_at flat k)).box
      box k l (yes e) =
          let long : p.x + (t.length + j.kerf) - p.x ≡ t.length + j.kerf = omega arith in
          let wide : p.y + (t.width + j.kerf) - p.y ≡ t.width + j.kerf = omega arith in
          let new : box_of laid ≡ (placed (numbers_of j) (entry_of p)).box =
          λ d. record { x = p.x; y = p.y; long = (long ∙ ap (λ n. n + j.kerf) (sym length_is)) d; wide = (wide ∙ ap (λ n. n + j.kerf) (sym width_is)) d } in
          ap (box_at (set s i laid)) e ∙ ap box_of here ∙ new ∙ ap (λ (u : Entry). (placed (numbers_of j) u).box) (is-p ∙ ap (entry_at flat) (sym e))
      box k l (no e) = ap box_of (kept k e) ∙ g.at k (omega arith)

pub laying_end : {j : Job} {flat : List ℕ} {was s : List Lines} {i : ℕ} → Laying j flat was s i → slots_of (length flat) ≤ i → Laid (numbers_of j) flat s
laying_end g h = record { boxed = record { listed = λ i l. g.listed i (omega arith) }; at = λ i l. g.at i (omega arith) }
