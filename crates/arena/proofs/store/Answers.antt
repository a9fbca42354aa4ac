-- `arena::store` meets its contract. Assumes nothing.
use Prim.Native.Nat.{◌+◌, ◌*◌, ◌-◌}
use native.Mathlib.Omega.{arith}
use mathlib.Core.Path.{◌≡◌, refl}
use Rattle.arena.specs.Bytes.{put_chunk}
use Rattle.arena.proofs.Laws.{stored}
use borrow.Author.Rules.{rules}
use Rattle.rules.specs.Limits.{record_bytes}
use Rattle.arena.proofs.store.Goals as goal

pub returns : goal.returns
unfolding put_chunk
returns c =
    let i = c.args.i in
    let e : i * record_bytes + record_bytes - i * record_bytes ≡ record_bytes = omega arith in
    stored c.args.arena.now _ i c.args.r c.requires (search rules) (rw (e, c.write.ensures) refl)
