-- `join_lines` leaves the pieces that the book's rounds leave: two where the tolerance is above 0, as in the book, and one otherwise.
use lib.Ieee.{of_bits}
use Rattle.build_chains.proofs.Rounds.{once_left}
use Rattle.build_chains.proofs.join_lines.Goals as goal

pub returns-else-settings : goal.returns-else-settings
unfolding of_bits
returns-else-settings c = once_left c.requires.0 c.if-settings.false c.round_one.ensures.0 c.round_one.ensures.2
