-- `walk_round` is the first half of a round: grouped ends, and the walks over them.
use Rattle.chain_round.proofs.Joining.{grouped_noded}
use Rattle.chain_round.proofs.walk_round.Goals as goal

pub walk_pieces-requires : goal.walk_pieces-requires
walk_pieces-requires c =
    grouped_noded c.args.grid c.requires c.pairing_limit.ensures (c.group_ends.ensures c.requires.rounding c.args.settings)

pub returns : goal.returns
returns c =
    λ y.
    c.walk_pieces.ensures (grouped_noded c.args.grid y c.pairing_limit.ensures (c.group_ends.ensures y.rounding c.args.settings))
