use Rattle.pair_indexed.proofs.Beginning.{begins_fills}
use Rattle.pair_indexed.proofs.begin.Goals as goal

pub fill-requires : goal.fill-requires
fill-requires c = begins_fills c.requires.0 c.requires.1 c.plant.ensures c.clear.ensures
