-- `round_two` leaves the pieces of the book's round with cells, of whichever pieces it finds.
use Rattle.build_chains.proofs.Second.{two_asks, two_left}
use Rattle.build_chains.proofs.round_two.Goals as goal

pub join_pieces-requires : goal.join_pieces-requires
join_pieces-requires c = two_asks c.requires

pub returns : goal.returns
unfolding two_asks
returns c = λ y. two_left y c.join_pieces.auto.w (c.join_pieces.ensures (two_asks y))
