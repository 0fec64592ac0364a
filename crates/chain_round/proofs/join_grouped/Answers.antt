-- `join_grouped` is the second half of a round: walks over grouped ends, and the pieces of the walks.
use Rattle.chain_round.proofs.Joining.{walked_round, rounded_from}
use Rattle.chain_round.proofs.join_grouped.Goals as goal

pub emit_round-requires : goal.emit_round-requires
emit_round-requires c = let y = c.requires in walked_round y (c.walk_pieces-r.ensures y.noded)

pub returns : goal.returns
returns c =
    λ y.
    let p = c.walk_pieces-r in
    rounded_from p.auto.w (c.emit_round.ensures (walked_round y (p.ensures y.noded))).rounded
