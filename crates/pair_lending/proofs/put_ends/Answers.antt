-- The three parts are written one behind another.
use Rattle.pair_lending.proofs.Copies.{words_same}
use Rattle.pair_lending.proofs.Writing.{put_three}
use Rattle.pair_lending.proofs.put_ends.Goals as goal

pub returns : goal.returns
returns c =
    put_three c.requires (rw words_same at c.put.ensures) c.put_directions.ensures (rw words_same at c.put-2.ensures)
