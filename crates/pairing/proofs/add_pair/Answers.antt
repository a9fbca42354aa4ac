-- `pairing::add_pair` meets its contract. Assumes nothing.
use Rattle.pairing.proofs.Laws.{second_way, both_ways}
use Rattle.pairing.proofs.add_pair.Goals as goal

pub add_way-requires-2 : goal.add_way-requires-2
add_way-requires-2 c = second_way c.requires (rw c.in_ok-beside.was at c.add_way.ensures)

pub returns : goal.returns
returns c = both_ways c.requires c.add_way-2.new.arena c.add_way-2.result (rw c.in_ok-beside.was at c.add_way.ensures) c.add_way-2.ensures
