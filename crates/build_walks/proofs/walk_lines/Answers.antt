-- `walk_lines` takes the lines, walks them, groups the ends of the walks and looks whether any can be joined: each step takes what the one before left.
use native.Mathlib.Omega.{arith}
use Rattle.build_walks.proofs.Walks.{walk_asks, meet_asks, walks_few, apart_asks, lines_walked}
use Rattle.build_walks.proofs.walk_lines.Goals as goal

pub walk_round-number-requires : goal.walk_round-number-requires
walk_round-number-requires c = walk_asks c.requires c.take_lines-taken.ensures

pub meet-requires : goal.meet-requires
meet-requires c =
    let s = c.requires in
    let T = c.take_lines-taken.ensures in
    meet_asks s T (c.walk_round-number.ensures (walk_asks s T))

pub overflow_mul-number : goal.overflow_mul-number
overflow_mul-number c =
    let s = c.requires in
    let T = c.take_lines-taken.ensures in
    omega (arith, walks_few s T (c.walk_round-number.ensures (walk_asks s T)), s.few)

pub apart-apart-requires : goal.apart-apart-requires
apart-apart-requires c =
    let s = c.requires in
    let T = c.take_lines-taken.ensures in
    let W = c.walk_round-number.ensures (walk_asks s T) in
    apart_asks s T W (c.meet.ensures (meet_asks s T W))

pub returns : goal.returns
returns c =
    let s = c.requires in
    let T = c.take_lines-taken.ensures in
    let W = c.walk_round-number.ensures (walk_asks s T) in
    lines_walked s T W (c.meet.ensures (meet_asks s T W)) c.apart-apart.ensures
