-- Single pieces: each comes as a class of its own, and with all of them the queue begins. Assumes nothing.
use mathlib.Core.Path.{◌≡◌, refl, sym, ap, ◌∙◌, subst}
use mathlib.Core.Bool.{true, false}
use mathlib.Core.List.{List}
use Prim.Native.Nat.{ℕ, zero, suc, ◌+◌, ◌≤◌, ◌<◌}
use native.Mathlib.Omega.{arith}
use native.Mathlib.Decide.{dec_lt}
use lib.Dec.{eqb}
use lib.ListN.{get_or}
use borrow.Author.Tests.{eq-eqb, ne_eqb}
use Rattle.rules.specs.Bag.{tick, sum}
use Rattle.rules.specs.Job as rules
use Rattle.rules.specs.Job.{table, types}
use Rattle.rules.proofs.Accept.{job_typed}
use Rattle.rules.proofs.Halves.{whole_single}
use Rattle.rules.proofs.Outlines.{fits}
use Rattle.rules.proofs.Tally.{sum_unit}
use Rattle.shapes.specs.declared.Job.{Job}
use Rattle.shapes.specs.Handed.{numbers_of, JobInRange}
use Rattle.outline.specs.declared.Outline.{Outline}
use Rattle.outline.specs.Stands.{job_for, outline_of, Alone}
use Rattle.outline.proofs.Laws.{types_count, get_or_table}
use Rattle.arena.specs.declared.How.TheVariants.{Piece}
use Rattle.arena.specs.declared.Record.{Record}
use Rattle.classes.specs.Directory.{Directory, Entered}
use Rattle.outlines.specs.Listing.{recs_in, outlines_in, outlines_of, Held, OutlineIn, SingleIn, StartsIn}
use Rattle.outlines.proofs.Laws.{SinglesIn, all_starts, grown_self, grown_then, none_held, single_addable, single_in, single_not, singles_more}
use Rattle.growing.specs.Growing.{Came, class_of, Growable}
use Rattle.growing.proofs.Laws.{nothing_grows}
use Rattle.pairing.specs.Pairs.{key_at}
use Rattle.listing.specs.Queue.{pieces_at, Queued, SinglesTo, SinglesGrown}
use Rattle.listing.proofs.Laws.{recs_stay, held_stays, key_same}

-- a table has none of a type where what it is made of has none
table_none : (n : ℕ) (f : ℕ → ℕ) (u : ℕ) → f (suc u) ≡ 0 → get_or (table n f) u 0 ≡ 0
table_none zero f u e = refl
table_none (suc n) f zero e = e
table_none (suc n) f (suc u) e = table_none n (λ t. f (suc t)) u e

-- the piece of type t, behind those of the types before
module _ {job : Job} {s : List ℕ} {n t : ℕ} (h : SinglesTo job s n t) (l : t < job.count) {o : Outline} (al : Alone job t o) where
  abbrev piece : Record
  piece = record { outline = o; how = Piece (t + 1) }

  -- its counts: one of its type
  unit : class_of job piece ≡ table (types (job_for job)) (λ u. tick (eqb (suc t) u) 0)
  unit = ap (λ (u : rules.Outline). u.counts) al.alone

  in_types : t < types (job_for job)
  in_types = omega (arith, types_count job h.singles.ready.range)

  unit_pieces : sum (class_of job piece) ≡ 1
  unit_pieces = ap sum unit ∙ sum_unit (types (job_for job)) (suc t) (omega arith) (omega (arith, in_types))

  unit_here : get_or (class_of job piece) t 0 ≡ 1
  unit_here = ap (λ c. get_or c t 0) unit ∙ get_or_table (types (job_for job)) _ t in_types ∙ ap (λ b. tick b 0) (eq-eqb (suc t) (suc t) refl)

  unit_later : (u : ℕ) → suc t ≤ u → get_or (class_of job piece) u 0 ≡ 0
  unit_later u x = ap (λ c. get_or c u 0) unit ∙ table_none (types (job_for job)) _ u (ap (λ b. tick b 0) (ne_eqb (suc t) (suc u) (λ e. omega arith)))

  pub single_growable : fits (job_for job) (outline_of job.count o) ≡ true → Growable job s n n piece
  single_growable f = record {
    growing = nothing_grows h.singles.directory (λ q x e. omega (arith, unit_here, h.later q t x (omega arith), ap (λ c. get_or c t 0) e));
    addable = single_addable job h.singles.ready.range s n t o h.singles.ready l al f;
  }

  -- it does not fit
  pub single_left : fits (job_for job) (outline_of job.count o) ≡ false → SinglesGrown job (SingleIn job t) (suc t) s n s n
  single_left f = record {
    grown = grown_self job s n h.singles.ready.held (single_not job t o al f (outlines_in job s n));
    to = record { singles = h.singles; later = λ q u x y. h.later q u x (omega arith) };
  }

  -- it came, and its class is closed
  pub single_came : {x u : List ℕ} {m : ℕ} → Came job n (class_of job piece) (OutlineIn job piece) s n x m → Entered job.count m x u → SinglesGrown job (SingleIn job t) (suc t) s n u m
  single_came {x} {u} {m} g k = record {
    grown = record { held = held; behind = g.grown.behind; stay = same ∙ g.grown.stay; has = single_in job t o al (outlines_in job u m) (subst (OutlineIn job piece) (ap outlines_of (sym same)) g.grown.has) };
    to = record {
      singles = record { ready = record { range = h.singles.ready.range; held = held }; directory = k.directory; alone = λ q a. single q a (dec_lt q n) };
      later = λ q v a b. none q v a b (dec_lt q n);
    };
  }
    where
      same : recs_in job u m ≡ recs_in job x m
      same = recs_stay job x u m k.same_length (λ i _. k.records i)

      held : Held job u m
      held = held_stays job x u m k.same_length (λ i _. k.records i) g.grown.held

      old : (q : ℕ) → q < m → q < n → key_at job u q ≡ key_at job s q
      old q a b = key_same job x u m k.same_length (λ i _. k.records i) q a ∙ key_same job s x n g.kept.same_length g.kept.records q b

      new : (q : ℕ) → q < m → n ≤ q → key_at job u q ≡ class_of job piece
      new q a b = key_same job x u m k.same_length (λ i _. k.records i) q a ∙ g.growing.counts q b a

      single : (q : ℕ) → q < m → Dec (q < n) → pieces_at job u q ≡ 1
      single q a (yes b) = ap sum (old q a b) ∙ h.singles.alone q b
      single q a (no b) = ap sum (new q a (omega arith)) ∙ unit_pieces

      none : (q v : ℕ) → q < m → suc t ≤ v → Dec (q < n) → get_or (key_at job u q) v 0 ≡ 0
      none q v a b (yes c) = ap (λ d. get_or d v 0) (old q a c) ∙ h.later q v c (omega arith)
      none q v a b (no c) = ap (λ d. get_or d v 0) (new q a (omega arith)) ∙ unit_later v b

-- the walk over the types
pub singles_none : (job : Job) (s : List ℕ) → JobInRange job → Directory job.count s 0 → SinglesGrown job (SinglesIn job 0) 0 s 0 s 0
singles_none job s r d = record {
  grown = grown_self job s 0 (none_held job s) (λ u h. absurd (omega arith));
  to = record {
    singles = record { ready = record { range = r; held = none_held job s }; directory = d; alone = λ q h. absurd (omega arith) };
    later = λ q u h l. absurd (omega arith);
  };
}

pub singles_then : {job : Job} {t n m : ℕ} {s x u : List ℕ} → SinglesGrown job (SinglesIn job t) t s 0 x n → SinglesGrown job (SingleIn job t) (suc t) x n u m → SinglesGrown job (SinglesIn job (t + 1)) (t + 1) s 0 u m
singles_then {job} {t} {n} g h = record {
  grown = grown_then job (singles_more job t n) g.grown h.grown;
  to = record { singles = h.to.singles; later = λ q u x y. h.to.later q u x (omega arith) };
}

pub singles_all : {job : Job} {t n : ℕ} {s x : List ℕ} → t ≡ job.count → SinglesGrown job (SinglesIn job t) t s 0 x n → SinglesGrown job (StartsIn job) job.count s 0 x n
singles_all {job} {n = n} {x = x} e g = record {
  grown = record { held = g.grown.held; behind = g.grown.behind; stay = g.grown.stay; has = all_starts job g.to.singles.ready.range (outlines_in job x n) (λ u h. g.grown.has u (omega arith)) };
  to = record { singles = g.to.singles; later = λ q u h l. g.to.later q u h (omega arith) };
}

-- all classes have one piece, so that the queue stands before its first
pub singles_queued : {job : Job} {s x : List ℕ} {n : ℕ} → SinglesGrown job (StartsIn job) job.count s 0 x n → Queued job x n 0
singles_queued {job} {x = x} {n = n} g = record {
  classed = record {
    ready = g.to.singles.ready;
    directory = g.to.singles.directory;
    starts = g.grown.has;
    whole = λ q h. whole_single (job_typed (numbers_of job)) (outlines_in job x n) g.grown.has (key_at job x q) (g.to.singles.alone q h);
    rising = λ p q a b. omega (arith, g.to.singles.alone p (omega arith), g.to.singles.alone q b);
  };
  turn = record { upto = omega arith; begins = λ h q l. absurd (omega arith) };
  top = λ h q l. omega (arith, g.to.singles.alone q l);
  next = λ q h. absurd (omega arith);
}
