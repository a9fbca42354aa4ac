-- How many entries of each type came before: the search of test 8. Assumes nothing.
use mathlib.Core.Path.{◌≡◌, refl, sym, ap, ◌∙◌}
use mathlib.Core.Bool.{true, false}
use mathlib.Core.List.{List}
use Prim.Native.Nat.{ℕ, suc, ◌+◌, ◌-◌, ◌≤◌, ◌<◌}
use native.Mathlib.Omega.{arith}
use native.Mathlib.Numerals.{add-one}
use native.Mathlib.Decide.{ℕ_discrete}
use lib.ListN.{length, get_or, set, length-set}
use lib.Seq.{get_or-set_same, get_or-set_other}
use Rattle.std.specs.Prelude.{Some}
use lib.Dec.{eqb}
use borrow.Author.Tests.{le-leb, lt-leb, eq-eqb, ne_eqb}
use Rattle.rules.specs.Limits.{types_most}
use Rattle.rules.specs.Bag.{tick, count}
use Rattle.rules.specs.Placed.{of_type}
use Rattle.rules.specs.Numbers.{PieceType, Entry, entries, no_type}
use Rattle.rules.specs.Planner.{slots_of}
use Rattle.rules.specs.Checker.{above_demand}
use Rattle.shapes.specs.Handed.{numbers_of, entry_of}
use Rattle.shapes.specs.declared.Job.{Job}
use Rattle.shapes.specs.declared.PieceType as declared
use Rattle.shapes.specs.declared.Placement.{Placement}
use Rattle.placing.specs.Place.{entry_at, FirstAt, OfJob, TypeOf}
use Rattle.placing.proofs.Seeking.{earlier, Seeking, seek_next, seek_found}

-- how many of the first i entries are of type t
abbrev had : List ℕ → ℕ → ℕ → ℕ
had flat i t = count (λ u. eqb u.type t) (earlier i (entries flat))

pub record Counting (j : Job) (flat counts : List ℕ) (i : ℕ) : Type 0 where
  pub seeking : Seeking (above_demand (numbers_of j)) flat i
  pub long : length counts ≡ types_most
  pub held : (k : ℕ) → k < types_most → get_or counts k 0 ≡ had flat i (suc k)

module _ {j : Job} {flat counts : List ℕ} {i : ℕ} (g : Counting j flat counts i) (h : i < slots_of (length flat)) (p : Placement) (at : entry_of p ≡ entry_at flat i) (o : OfJob j p.kind) (t : declared.PieceType) (is : TypeOf j p.kind t) where
  pub have_is : get_or counts (p.kind - 1) 0 ≡ had flat i p.kind
  have_is =
      let e : suc (p.kind - 1) ≡ p.kind = omega (arith, o.low) in
      g.held (p.kind - 1) (omega (arith, o.low, o.high, o.fine.count)) ∙ ap (had flat i) e

  demand_is : t.demand ≡ (of_type no_type (numbers_of j).types p.kind).demand
  demand_is = ap (λ (q : PieceType). q.demand) is.is

  pub counting_found : t.demand ≤ get_or counts (p.kind - 1) 0 → FirstAt (above_demand (numbers_of j)) flat (Some i)
  counting_found l = seek_found g.seeking h at {r = true} (sym (le-leb (of_type no_type (numbers_of j).types p.kind).demand (had flat i p.kind) (omega (arith, have_is, demand_is)))) refl

  pub counting_next : get_or counts (p.kind - 1) 0 < t.demand → Counting j flat (set counts (p.kind - 1) (get_or counts (p.kind - 1) 0 + 1)) (i + 1)
  counting_next l = record {
    seeking = seek_next g.seeking h at {r = false} (sym (lt-leb (of_type no_type (numbers_of j).types p.kind).demand (had flat i p.kind) (omega (arith, have_is, demand_is)))) refl;
    long = simp length-set g.long;
    held = λ k b. let z : i + 1 ≡ suc i = add-one i in rw z (held k b (ℕ_discrete p.kind (suc k)));
  }
    where
      kind_at : p.kind ≡ (entry_at flat i).type
      kind_at = ap (λ (u : Entry). u.type) at

      held : (k : ℕ) → k < types_most → Dec (p.kind ≡ suc k) → get_or (set counts (p.kind - 1) (get_or counts (p.kind - 1) 0 + 1)) k 0 ≡ tick (eqb (entry_at flat i).type (suc k)) (had flat i (suc k))
      held k b (yes e) =
          let z : p.kind - 1 ≡ k = omega arith in
          rw (z, get_or-set_same counts k (get_or counts k 0 + 1) 0 (omega (arith, g.long)), eq-eqb (entry_at flat i).type (suc k) (sym kind_at ∙ e)) (omega (arith, g.held k b))
      held k b (no e) =
          rw (get_or-set_other counts (p.kind - 1) k (get_or counts (p.kind - 1) 0 + 1) 0 (omega (arith, o.low)), ne_eqb (entry_at flat i).type (suc k) (λ q. e (kind_at ∙ q))) (g.held k b)
