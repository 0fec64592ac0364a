-- `round_one` leaves the pieces of the book's round one: each call takes what the one before left in its part of the workspace.
use mathlib.Core.Path.{refl}
use Rattle.build_chains.proofs.First.{one_asks, one_left, taken_are}
use Rattle.build_chains.proofs.round_one.Goals as goal

pub join_pieces-number-requires : goal.join_pieces-number-requires
join_pieces-number-requires c = one_asks c.requires c.take_lines-taken.auto.w c.take_lines-taken.ensures

pub returns : goal.returns
unfolding one_asks
returns c =
    let s = c.requires in
    let t = c.take_lines-taken in
    let j = c.join_pieces-number in
    (one_left s t.auto.w t.ensures j.auto.w (j.ensures (one_asks s t.auto.w t.ensures)), refl, taken_are s t.auto.w t.ensures)
