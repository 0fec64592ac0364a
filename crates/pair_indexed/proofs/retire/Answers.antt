use Rattle.pair_indexed.proofs.Parts.{retires_whole}
use Rattle.pair_indexed.proofs.retire.Goals as goal

pub set-requires-clause-whole : goal.set-requires-clause-whole
set-requires-clause-whole c = retires_whole c.requires
