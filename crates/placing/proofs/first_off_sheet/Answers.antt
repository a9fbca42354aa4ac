-- `first_off_sheet` meets its contract: test 6 found nothing, so each entry is of a type. Assumes nothing.
use Rattle.std.proofs.Common.{rules}
use Rattle.placing.proofs.Types.{typed_at}
use Rattle.placing.proofs.first_off_sheet.Goals as goal

pub first_place-requires : goal.first_place-requires
first_place-requires c = λ i h p e. let o = typed_at c.requires i h p e in search (rules, o)

pub returns : goal.returns
returns c = c.first_place.ensures _ (λ i h p e b post es. search (rules, post.1))
