-- `join_again` leaves the book's `round_two` of the pieces that it finds: those of round two where the tolerance is above 0, and else the pieces themselves.
use lib.Ieee.{of_bits}
use Rattle.lent_calls.proofs.Again.{joined_left, keep_asks, kept_left}
use Rattle.lent_calls.proofs.join_again.Goals as goal

pub returns-then-settings : goal.returns-then-settings
unfolding of_bits
returns-then-settings c = λ y. joined_left y c.if-settings.true (c.round_two.ensures y)

pub keep_pieces-requires : goal.keep_pieces-requires
keep_pieces-requires c = keep_asks c.requires

pub returns : goal.returns
unfolding keep_asks of_bits
returns c = λ y. kept_left y c.if-settings.false c.keep_pieces.auto.w (c.keep_pieces.ensures (keep_asks y))
