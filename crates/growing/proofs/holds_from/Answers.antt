-- `growing::holds_from` meets its contract. Assumes nothing.
use Rattle.growing.proofs.Laws.{sized_holds, sized_none}
use Rattle.growing.proofs.holds_from.Goals as goal

pub returns : goal.returns
returns c =
    let h = c.has_sizes.ensures in
    record { yes_if = λ e. let k = h.yes_if e in sized_holds c.requires k.0 k.1; no_if = λ e. sized_none c.requires (h.no_if e) }
