use Rattle.pair_indexed.proofs.Taking.{takes_i, takes_j, hands_i, hands_j, takings}
use Rattle.pair_indexed.proofs.take.Goals as goal

pub retire-requires : goal.retire-requires
retire-requires c = takes_i c.requires.0 c.requires.1

pub retire-requires-2 : goal.retire-requires-2
retire-requires-2 c = takes_j c.requires.0 c.requires.1 c.retire.ensures

pub replace-requires : goal.replace-requires
replace-requires c = hands_i c.requires.0 c.requires.1 c.retire.ensures c.retire-2.ensures

pub replace-requires-2 : goal.replace-requires-2
replace-requires-2 c = hands_j c.requires.0 c.requires.1 c.retire.ensures c.retire-2.ensures c.replace.ensures

pub returns : goal.returns
returns c = takings c.requires.0 c.requires.1 c.retire.ensures c.retire-2.ensures c.replace.ensures c.replace-2.ensures
