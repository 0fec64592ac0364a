-- `take_row`: records, members, marks and listing are put as they are, each in a block of its own.
use Rattle.std.proofs.Common.{◌≡◌, length, take, sym, arith}
use Rattle.lent_taking.proofs.Converting.{same_converted}
use Rattle.lent_taking.proofs.Row.{front_long, members_fit, marks_fit, listing_fit, row_few, took_row}
use Rattle.lent_taking.proofs.take_row.Goals as goal
use Rattle.lent_taking.proofs.take_row.Goals.{Start}

-- the members of all are in each of the three slices
members_in : (c : Start) → length (take c.args.m c.args.pieces.now.members.now) ≡ c.args.m
members_in c = front_long _ _ (omega (arith, c.requires.end, members_fit c.requires.takable c.requires.row))

marks_in : (c : Start) → length (take c.args.m c.args.pieces.now.marks.now) ≡ c.args.m
marks_in c = front_long _ _ (omega (arith, c.requires.end, marks_fit c.requires.takable c.requires.row))

listing_in : (c : Start) → length (take c.args.m c.args.pieces.now.listing.now) ≡ c.args.m
listing_in c = front_long _ _ (omega (arith, c.requires.end, listing_fit c.requires.takable c.requires.row))

pub slice_bounds-put-end-2 : goal.slice_bounds-put-end-2
slice_bounds-put-end-2 c = sym (members_in (goal.at.slice_bounds-put-end-2 c).Start)

pub put-requires-2 : goal.put-requires-2
put-requires-2 c = omega (arith, members_in (goal.at.put-requires-2 c).Start, c.requires.end, row_few c.requires.takable c.requires.row, c.requires.takable.room, c.put.auto.w)

pub slice_bounds-put-end-3 : goal.slice_bounds-put-end-3
slice_bounds-put-end-3 c = sym (marks_in (goal.at.slice_bounds-put-end-3 c).Start)

pub put-requires-3 : goal.put-requires-3
put-requires-3 c = omega (arith, marks_in (goal.at.put-requires-3 c).Start, c.requires.end, row_few c.requires.takable c.requires.row, c.requires.takable.room, c.put.auto.w, c.put-2.auto.w)

pub slice_bounds-put-end-4 : goal.slice_bounds-put-end-4
slice_bounds-put-end-4 c = sym (listing_in (goal.at.slice_bounds-put-end-4 c).Start)

pub put-requires-4 : goal.put-requires-4
put-requires-4 c = omega (arith, listing_in (goal.at.put-requires-4 c).Start, c.requires.end, row_few c.requires.takable c.requires.row, c.requires.takable.room, c.put.auto.w, c.put-2.auto.w, c.put-3.auto.w)

pub returns : goal.returns
returns c = took_row c.requires.takable c.requires.row c.requires.end (same_converted _ c.put.ensures) (same_converted _ c.put-2.ensures) (same_converted _ c.put-3.ensures) (same_converted _ c.put-4.ensures)
