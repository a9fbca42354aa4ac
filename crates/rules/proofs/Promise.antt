-- Demand 3, as one theorem: what the planner writes is accepted and earns what it says, and no accepted list for the job earns more. Assumes nothing.
use mathlib.Core.Path.{◌≡◌, refl, sym, ap, ◌∙◌, subst}
use mathlib.Core.List.{List}
use Prim.Native.Nat.{ℕ, ◌*◌}
use native.Mathlib.Omega.{arith}
use lib.ListN.{take}
use Rattle.rules.specs.Job.{Outline, Best, profit, pieces, dot}
use Rattle.rules.specs.Placed.{Accepted, worth}
use Rattle.rules.specs.Numbers.{Numbers, job_of, Entry, entries, lying}
use Rattle.rules.specs.Items.{numbers_from}
use Rattle.rules.specs.Checker.{CheckAnswer, taken, Checked, refusal, not_parted, accepted}
use Rattle.rules.specs.Planner.{PlanAnswer, PlanFor, numbers_for}
use Rattle.rules.specs.Answers.{PlanLeft, PlanItems}
use Rattle.rules.specs.Promise.{Promise}
use Rattle.rules.proofs.Tally.{worth_counts}
use Rattle.rules.proofs.Order.{best_unique, none_earns_more}
use Rattle.rules.proofs.Planning.{is_done}
use Rattle.rules.proofs.Accept.{accepted_passes, accepts_exactly, profits_of, refusal_number}
use Rattle.rules.proofs.Arrange.{plan_pieces}

-- the checker says of an accepted list what it earns and how many pieces it has
pub accepted_taken : {n : Numbers} {l : List Entry} → Accepted (job_of n) (lying n l) → Checked n l (taken n l)
accepted_taken {n} {l} a = accepted (accepted_passes n l a) a.parted

-- what an accepting answer says a list earns
pub earns : {n : Numbers} {l : List Entry} {a : CheckAnswer} → Checked n l a → a.number ≡ 0 → a.profit ≡ worth (job_of n) (lying n l)
earns {n} {l} (refusal e) z = absurd (omega (arith, refusal_number n l e, z))
earns (not_parted e p) z = absurd (omega (arith, z))
earns (accepted e p) z = refl

-- a plan of the best outline keeps the promise
pub plan_promise : {n : Numbers} {o : Outline} {l : List Entry} → Best (job_of n) o → PlanFor n o l → Promise n (profit (job_of n) o) (pieces o) l
plan_promise {n} {o} {l} b p = record {
  own_accepted =
      let w : worth (job_of n) (lying n l) ≡ profit (job_of n) o = sym (worth_counts (job_of n) (profits_of n) (lying n l)) ∙ ap (λ c. dot c (job_of n).profits) p.counts in
      let c = plan_pieces p in
      subst (Checked n l) (λ i. record { number = 0; place = 0; profit = w i; pieces = c i }) (accepted_taken p.accepted);
  none_earns_more = λ drawn a x z.
      omega (arith, earns x z, none_earns_more (profits_of n) b (lying n drawn) ((accepts_exactly n drawn a x).0 z));
}

-- "When the planner answers a job, its own plan is accepted, and no accepted plan for that job earns more."
pub promise_kept : {arena buffer vs : List ℕ} {p : PlanLeft} → PlanItems arena buffer vs p → p.answer.number ≡ 0 →
    Promise (numbers_from vs) p.answer.profit p.answer.pieces (entries (take (3 * p.answer.pieces) p.buffer))
promise_kept {vs = vs} {p = p} x z =
    let n = numbers_from vs in
    let d = is_done x.planned z in
    let w = x.buffer_left.written z in
    let e = best_unique w.1 d.best in
    let q = subst (λ (o : Outline). PlanFor n o (entries (take (numbers_for o) p.buffer))) e w.2.plan in
    subst (λ (a : PlanAnswer). Promise n a.profit a.pieces (entries (take (3 * a.pieces) p.buffer))) (sym d.answer) (plan_promise d.best q)
