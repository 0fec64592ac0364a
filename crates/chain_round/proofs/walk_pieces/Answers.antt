-- `walk_pieces` clears the table and the marks, joins the nodes and walks: the table is the partners', so the walks are the book's.
use Rattle.chain_nodes.proofs.Frames.{noded_kept}
use Rattle.chain_round.proofs.Walking.{noded₁, walk_asks, pieces_walked}
use Rattle.chain_round.proofs.walk_pieces.Goals as goal

pub join_nodes-requires : goal.join_nodes-requires
join_nodes-requires c =
    noded₁ _ c.requires c.clear.auto.w c.clear.ensures

pub walk_all-requires : goal.walk_all-requires
unfolding noded_kept
walk_all-requires c =
    walk_asks _ c.requires c.clear.auto.w c.clear.ensures (c.join_nodes.ensures (noded₁ _ c.requires c.clear.auto.w c.clear.ensures))

pub returns : goal.returns
unfolding noded_kept
returns c =
    λ y. pieces_walked _ y c.clear.auto.w c.clear.ensures (c.join_nodes.ensures (noded₁ _ y c.clear.auto.w c.clear.ensures)) c.walk_all.auto.w c.walk_all.ensures
