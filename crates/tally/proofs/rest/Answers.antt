use Prim.Native.Nat.{ℕ, ◌≤◌, ◌<◌}
use native.Mathlib.Omega.{arith}
use mathlib.Core.Path.{◌≡◌}
use mathlib.Core.Bool.{true}
use mathlib.Core.List.{List}
use lib.ListN.{length, get_or, take, length-take}
use lib.Seq.{get_or-take}
use Rattle.rules.specs.Limits.{types_most}
use Rattle.rules.proofs.Outlines.{at_most}
use Rattle.rules.proofs.Places.{at_most_at, plus_all}
use borrow.Author.Rules.{rules}
use Rattle.tally.proofs.rest.Goals as goal

-- no count of the record is over
kept : (s b : List ℕ) (n : ℕ) → types_most ≤ length s → n ≤ types_most → at_most (take n (take types_most s)) (take n b) ≡ true → (k : ℕ) → k < n → get_or s k 0 ≤ get_or b k 0
kept s b n room few w k h =
    omega (arith, at_most_at n (take types_most s) (take n b) k h (simp length-take (omega arith)) w, get_or-take types_most s k 0 (omega arith), get_or-take n b k 0 h)

pub overflow_sub-r : goal.overflow_sub-r
overflow_sub-r c = kept c.args.s.now c.args.counts c.args.n (search rules) c.requires.0 c.requires.1 c.loop-i.i (search rules)

pub returns : goal.returns
returns c =
    let s = c.args.s.now in
    plus_all c.args.n (take types_most s) c.loop-i.r c.args.counts (simp length-take (omega arith)) (omega arith) (search rules) (λ k h. omega (arith, c.loop-i.invariant.1 k (search rules), kept c.args.s.now c.args.counts c.args.n (search rules) c.requires.0 c.requires.1 k h, get_or-take types_most s k 0 (omega arith)))
