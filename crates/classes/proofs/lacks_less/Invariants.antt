-- `classes::lacks_less` meets its contract. The invariant: the types before t lack no class. Assumes nothing.
use mathlib.Core.Path.{◌≡◌}
use lib.ListN.{take}
use Rattle.weighing.specs.Weights.{weight_of}
use Rattle.classes.proofs.OneLess.{Finding}
use Rattle.classes.proofs.lacks_less.Given as goal

abbrev pub invariant-loop-t : goal.invariant-loop-t
invariant-loop-t l = Finding l.types l.arena l.n (take l.types l.fn.counts) l.t × (l.next ≡ weight_of l.t)
