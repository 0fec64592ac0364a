-- The words are the bits, and that each number is a float of 64 bits is known of any slice of them.
use Rattle.pair_lending.proofs.put_directions.Goals as goal

pub returns : goal.returns
returns c = record { holds = c.put.ensures; doubles = c.type_inv.directions }
