-- The planner's story in laws: what fits, the best of the list, its placements, and the answers. Assumes nothing.
use mathlib.Core.Path.{◌≡◌, refl, sym, ap, ◌∙◌, subst}
use mathlib.Core.Bool.{true}
use mathlib.Core.Option.{none, some}
use mathlib.Core.List.Memᴰ
use mathlib.Core.List.{List, [], ◌++◌, map, Memᴰ}
use Prim.Native.Nat.{ℕ, ◌≤◌, ◌<◌}
use native.Mathlib.Omega.{arith}
use lib.ListN.{length, take, drop, length-append, length-drop, length-map}
use lib.Seq.{take_at, drop_at}
use Rattle.std.specs.Prelude.{Ok, Err}
use Rattle.rules.specs.Limits.{types_most}
use Rattle.rules.specs.Bag.{Same, sum}
use Rattle.rules.specs.Made.{one}
use Rattle.rules.specs.Job as rules
use Rattle.rules.specs.Numbers.{job_of, entries, placed, lying}
use Rattle.rules.specs.Items.{out_of_range}
use Rattle.rules.specs.Placed.{Placed}
use Rattle.rules.specs.Planner.{room_of, slots_of, Planned, none_fits, too_many, no_slots, done, PlanFor, numbers_for, Written, BufferLeft}
use Rattle.rules.specs.Answers.{PlanLeft, PlanNumbers, outside, within}
use Rattle.rules.proofs.Accept.{job_typed}
use Rattle.rules.proofs.Arrange.{entry_of, flat, entries_flat, length-flat, lying_entries, plan_for}
use Rattle.rules.proofs.Bags.{index, all_at, all_of, all_map, mem_map, from_map, same_map}
use Rattle.rules.proofs.Lay.{Laid}
use Rattle.rules.proofs.Outlines.{fits, fits_true}
use Rattle.rules.proofs.Ranges.{positive}
use Rattle.rules.proofs.Tally.{pieces_counts}
use Rattle.rules.proofs.Unfold.{Rec, no_rec, at, MadeBy, Lays, lays_some, unfolded}
use Rattle.shapes.specs.declared.Job.{Job}
use Rattle.shapes.specs.declared.Refusal.TheVariants.{OutOfRange, NothingFits, ArenaFull, BufferShort}
use Rattle.shapes.specs.Answer.{plan_answer}
use Rattle.shapes.specs.Handed.{items_of, numbers_of, JobInRange}
use Rattle.jobs.proofs.Fine.{count_fine, same_numbers, job_in_range}
use Rattle.outline.specs.declared.Outline.{Outline}
use Rattle.outline.specs.Stands.{job_for, piece_at, outline_of, Alone}
use Rattle.arena.specs.declared.Record.{Record}
use Rattle.arena.specs.Records.{record_at, maker_of, Loaded}
use Rattle.arena.proofs.Laws.{length_recs, recs_at}
use Rattle.outlines.specs.Listing.{recs_in, outlines_in, SingleIn, AllListed, TooMany}
use Rattle.outlines.proofs.Laws.{length_outlines, piece_mem, all_starts}
use Rattle.outlines.proofs.Lists.{mem_at}
use Rattle.choice.specs.Best.{Top}
use Rattle.unfolding.specs.Laying.{Falls, Layable, Wrote, LaidOut}
use Rattle.order.specs.Order.{Sorted}
use Rattle.planning.specs.Plans.{SomeFits, Fitting, Choosing, Answered, Left}

-- whether some type fits alone
module _ (job : Job) (range : JobInRange job) where
  pub this_fits : (t : ℕ) → t < job.count → (o : Outline) → Alone job t o → fits (job_for job) (outline_of job.count o) ≡ true → SomeFits job
  this_fits t h o al e = record { piece = piece_at job t; single = piece_mem job range t h; fits = subst (rules.Fits (job_for job)) al.alone (fits_true _ _ e) }

  pub none_fit : ((t : ℕ) → t < job.count → SingleIn job t []) → SomeFits job → ⊥
  none_fit f s = Memᴰ.not-nil (all_starts job range [] f (rules.alone (job_for job) s.piece) (mem_map (rules.alone (job_for job)) s.single) s.fits)

-- what fits is listed
pub choosing : (job : Job) (s t : List ℕ) (n : ℕ) → Fitting job → length t ≡ length s → AllListed job s t n → Choosing job t n
choosing job s t n f e a = record {
  range = f.range;
  some = let m = index (rules.alone (job_for job) f.some.piece) (a.all.each (rules.alone (job_for job) f.some.piece) (one (mem_map (rules.alone (job_for job)) f.some.single) f.some.fits)) in omega (arith, m.1, length_outlines job t n);
  room = omega (arith, a.room, ap room_of e);
  all = a.all;
  valid = a.valid;
}

-- record i of the list, as it is read
module _ (job : Job) (s : List ℕ) (n : ℕ) (c : Choosing job s n) (i : ℕ) (h : i < n) (r : Record) (l : Loaded (record_at s i) r) where
  abbrev outline : rules.Outline
  outline = outline_of job.count r.outline

  abbrev records : List Rec
  records = recs_in job s n

  in_list : i < length records
  in_list = omega (arith, length_recs job.count n s)

  outline_is : (at records i).outline ≡ outline
  outline_is = ap (λ (q : Rec). q.outline) (recs_at job.count n s i h) ∙ ap (λ (q : Record). outline_of job.count q.outline) (sym l.is)

  pub best_of : Top job s n i → rules.Best (job_for job) outline
  best_of t = record {
    build = all_at c.all.only (Memᴰ.cast (sym outline_is) (mem_map (λ (q : Rec). q.outline) (mem_at no_rec records i in_list)));
    top = λ u b. top_over u (from_map (λ (q : Rec). q.outline) records (c.all.each u b));
  }
    where
      top_over : (u : rules.Outline) → (q : Rec) × Memᴰ q records × (u ≡ q.outline) → rules.AtLeastAsGood (job_for job) outline u
      top_over u m =
          let k = index no_rec m.1 in
          let hk : k.0 < n = omega (arith, k.1, length_recs job.count n s) in
          let e : outline_of job.count (record_at s k.0).outline ≡ u = sym (ap (λ (q : Rec). q.outline) (recs_at job.count n s k.0 hk)) ∙ ap (λ (q : Rec). q.outline) k.2 ∙ sym m.2 in
          subst (rules.AtLeastAsGood (job_for job) outline) e (subst (λ (q : Record). rules.AtLeastAsGood (job_for job) (outline_of job.count q.outline) (outline_of job.count (record_at s k.0).outline)) (sym l.is) (t.top k.0 hk))

  -- what it lays
  laying : (ps : List Placed) × Lays records i 0 0 ps
  laying = lays_some (job_for job) c.valid i 0 0 in_list

  laid : Laid (job_for job) outline 0 0 laying.0
  laid = subst (λ o. Laid (job_for job) o 0 0 laying.0) outline_is (unfolded (positive c.range.numbers) c.valid in_list laying.1)

  laid_pieces : length laying.0 ≡ rules.pieces outline
  laid_pieces = sym (pieces_counts (all_map (λ q k. all_at (job_typed (numbers_of job)) k.of) laid.known)) ∙ ap sum laid.counts

  falls : Falls s i
  falls k hk w a b e =
      let m = subst (λ (q : Rec). MadeBy (job_for job) records k q.outline q.maker) (recs_at job.count n s k (omega arith)) (c.valid k (omega (arith, length_recs job.count n s))) in
      let p = subst (MadeBy (job_for job) records k (outline_of job.count (record_at s k).outline)) (ap (maker_of (record_at s k).outline) e) m in
      (p.0, p.1)

  pub layable : (buffer : List ℕ) → rules.pieces outline ≤ slots_of (length buffer) → Layable s i 0 0 buffer
  layable buffer k = record {
    placeable = record { room = omega (arith, c.room); falls = falls; along = omega (arith, c.room); across = omega (arith, c.room) };
    types = job.count;
    records = records;
    reads = λ q hq. recs_at job.count n s q (omega arith);
    placements = laying.0;
    lays = laying.1;
    fits = omega (arith, laid_pieces);
  }

  module _ (buffer b1 : List ℕ) (w : ℕ) (k : rules.pieces outline ≤ slots_of (length buffer)) (o : LaidOut s i 0 0 buffer b1 w) where
    wrote : Wrote laying.0 buffer b1 w
    wrote = o.wrote job.count records laying.0 (λ q hq. recs_at job.count n s q (omega arith)) laying.1

    pub end_is : w ≡ numbers_for outline
    end_is = omega (arith, wrote.count, laid_pieces)

    abbrev flats : List ℕ
    flats = flat (map entry_of laying.0)

    length_flats : length flats ≡ w
    length_flats = omega (arith, length-flat (map entry_of laying.0), length-map laying.0 entry_of, wrote.count)

    pub length_b1 : length b1 ≡ length buffer
    length_b1 = omega (arith, ap length wrote.numbers, length-append flats (drop w buffer), length-drop w buffer, length_flats, end_is)

    front_is : take w b1 ≡ flats
    front_is = ap (take w) wrote.numbers ∙ take_at flats (drop w buffer) w length_flats

    rest_is : drop w b1 ≡ drop w buffer
    rest_is = ap (drop w) wrote.numbers ∙ drop_at flats (drop w buffer) w length_flats

    pub written : rules.Build (job_for job) outline → (e : List ℕ) → length e ≡ length (take w b1) → Sorted (take w b1) e → Written (numbers_of job) outline buffer (e ++ drop w b1)
    written b e le st =
        let front : entries (take w b1) ≡ map entry_of laying.0 = ap entries front_is ∙ entries_flat (map entry_of laying.0) in
        let back = lying_entries (numbers_of job) (all_map (λ q m. m.of) laid.known) in
        let same : Same (lying (numbers_of job) (entries e)) laying.0 = subst (λ ps. Same (lying (numbers_of job) (entries e)) ps) back (same_map (placed (numbers_of job)) (entries e) (map entry_of laying.0) (subst (λ q. Same (entries e) q) front st.same)) in
        let size : length e ≡ numbers_for outline = le ∙ ap length front_is ∙ length_flats ∙ end_is in
        record {
          same_length = omega (arith, length-append e (drop w b1), size, ap length rest_is, length-drop w buffer, end_is);
          plan = subst (λ q. PlanFor (numbers_of job) outline (entries q)) (sym (take_at e (drop w b1) (numbers_for outline) size)) (plan_for b laid (entries e) same st.ordered);
          rest = drop_at e (drop w b1) (numbers_for outline) size ∙ rest_is ∙ ap (λ m. drop m buffer) end_is;
        }

-- the answers
module _ (job : Job) where
  pub answer_full : (s : List ℕ) (buffer : List ℕ) → TooMany job s → Answered job (length s) buffer buffer (Err ArenaFull)
  answer_full s buffer m = record { planned = too_many m; buffer = record { written = λ z. absurd (omega arith); kept = λ _. refl }; wiped = λ _. refl }

  module _ (s : List ℕ) (n : ℕ) (c : Choosing job s n) (i : ℕ) (r : Record) (l : Loaded (record_at s i) r) (t : Top job s n i) where
    abbrev chosen : rules.Outline
    chosen = outline_of job.count r.outline

    abbrev best : rules.Best (job_for job) chosen
    best = best_of job s n c i t.low r l t

    all_room : length (outlines_in job s n) ≤ room_of (length s)
    all_room = omega (arith, c.room, length_outlines job s n)

    pub answer_short : (buffer : List ℕ) → slots_of (length buffer) < rules.pieces chosen → Answered job (length s) buffer buffer (Err BufferShort)
    answer_short buffer h = record { planned = no_slots c.all all_room best h; buffer = record { written = λ z. absurd (omega arith); kept = λ _. refl }; wiped = λ _. refl }

    pub answer_done : (buffer after : List ℕ) (profit pieces : ℕ) → profit ≡ rules.profit (job_for job) chosen → pieces ≡ rules.pieces chosen → rules.pieces chosen ≤ slots_of (length buffer) → Written (numbers_of job) chosen buffer after → Answered job (length s) buffer after (Ok (record { profit = profit; length = r.outline.length.0; width = r.outline.width.0; pieces = pieces; outlines = n }))
    answer_done buffer after profit pieces ep ec h w = record {
      planned = subst (Planned (job_for job) (room_of (length s)) (slots_of (length buffer))) (λ k. record { number = 0; place = 0; profit = sym ep k; long = chosen.long; wide = chosen.wide; pieces = sym ec k; outlines = length_outlines job s n k }) (done c.all all_room best h);
      buffer = record { written = λ _. (chosen, best, w); kept = λ z. absurd (z refl) };
      wiped = λ _. refl;
    }

  -- nothing fits, and nothing is touched
  pub left_unfit : (arena buffer : List ℕ) → (SomeFits job → ⊥) → Left job arena buffer (record { answer = plan_answer (Err NothingFits); arena = arena; buffer = buffer })
  left_unfit arena buffer f = record {
    planned = none_fits (all_of (job_for job).singles (λ p m k. f (record { piece = p; single = m; fits = k })));
    arena_left = refl;
    buffer_left = record { written = λ z. absurd (omega arith); kept = λ _. refl };
  }

  -- the arena is wiped
  -- the check of the numbers comes first
  pub refused_item : (arena buffer : List ℕ) (item : ℕ) → out_of_range (items_of job) ≡ some item → PlanNumbers arena buffer (items_of job) (record { answer = plan_answer (Err (OutOfRange item)); arena = arena; buffer = buffer })
  refused_item arena buffer item e = outside e

  module _ (h : length job.types ≡ types_most) (fine : out_of_range (items_of job) ≡ none) where
    pub range_of : JobInRange job
    range_of = record { numbers = job_in_range job h fine; count = count_fine job h fine; types = h }

    pub in_range_left : (arena buffer : List ℕ) (p : PlanLeft) → Left job arena buffer p → PlanNumbers arena buffer (items_of job) p
    in_range_left arena buffer p l =
        let e = sym (same_numbers job h fine) in
        within fine (record {
          planned = subst (λ n. Planned (job_of n) (room_of (length arena)) (slots_of (length buffer)) p.answer) e l.planned;
          arena_left = l.arena_left;
          buffer_left = subst (λ n. BufferLeft n p.answer.number buffer p.buffer) e l.buffer_left;
        })
