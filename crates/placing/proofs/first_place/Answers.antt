use Rattle.std.proofs.Common.{◌<◌, length, arith}
use Rattle.rules.specs.Planner.{slots_of}
use Rattle.placing.proofs.Seeking.{seek_next, seek_found, seek_none}
use Rattle.placing.proofs.first_place.Goals as goal

pub returns-then-test : goal.returns-then-test
returns-then-test g c = λ f asks.
    let h : c.loop-i.i < slots_of (length c.args.list.now) = omega (arith, c.loop-i-test.true, c.placements_in-i-end.ensures) in
    seek_found (c.loop-i.invariant.each f asks) h c.entry_at.ensures (asks _ h _ c.entry_at.ensures _ c.test.ensures _) c.if-test.true

pub loop-i-preserved : goal.loop-i-preserved
loop-i-preserved g c = record {
  each = λ f asks.
      let h : c.loop-i.i < slots_of (length c.args.list.now) = omega (arith, c.loop-i-test.true, c.placements_in-i-end.ensures) in
      seek_next (c.loop-i.invariant.each f asks) h c.entry_at.ensures (asks _ h _ c.entry_at.ensures _ c.test.ensures _) c.if-test.false;
}

pub returns : goal.returns
returns g c = λ f asks. seek_none (c.loop-i.invariant.each f asks) (omega (arith, c.loop-i-test.false, c.placements_in-i-end.ensures))
