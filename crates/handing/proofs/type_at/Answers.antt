-- `handing::type_at` meets its contract. Assumes nothing.
use Rattle.handing.proofs.type_at.Goals as goal

pub returns : goal.returns
returns c = λ i. record { long = c.number_at.ensures i; wide = c.number_at-2.ensures i; profit = c.number_at-3.ensures i; demand = c.number_at-4.ensures i }
