use Rattle.chain_keys.specs.Keys.{keyed_at}
use Rattle.chain_keys.proofs.put_cell.Goals as goal

pub returns : goal.returns
unfolding keyed_at
returns c =
    rw (c.put_words.ensures, c.group_of-group.ensures, c.words_of.ensures.x, c.words_of.ensures.y, c.point_at-point.ensures.x, c.point_at-point.ensures.y)
