-- `join_pieces` is one round: grouped ends, and its second half over them.
use Rattle.chain_round.proofs.Joining.{grouped_round, rounded_from}
use Rattle.chain_round.proofs.join_pieces.Goals as goal

pub join_grouped-requires : goal.join_grouped-requires
join_grouped-requires c =
    grouped_round c.args.grid c.pairing_limit.ensures c.requires (c.group_ends.ensures c.requires.walkable.rounding c.args.settings)

pub returns : goal.returns
returns c =
    λ y.
    let g = c.group_ends in
    rounded_from g.auto.w (c.join_grouped.ensures (grouped_round c.args.grid c.pairing_limit.ensures y (g.ensures y.walkable.rounding c.args.settings)))
