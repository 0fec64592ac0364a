-- THE MAP of a round's part of the workspace: where each block begins, in words for each line of the call. docs/ARCHITECTURE.md draws it.
use Rattle.std.specs.Prelude.{ℕ}

-- ---- the pieces that come out: records from the start on, members, marks, and listing
abbrev pub member_block : ℕ
member_block = 5

abbrev pub mark_block : ℕ
mark_block = 6

abbrev pub listing_block : ℕ
listing_block = 7

-- ---- joins, visited marks, entries and lengths of walks
abbrev pub join_block : ℕ
join_block = 8

-- ---- the pieces that go in: records, members, marks, and listing. Round one's part of the workspace begins here, so that what comes out of it goes in
abbrev pub taken_block : ℕ
taken_block = 13

abbrev pub taken_members : ℕ
taken_members = 18

abbrev pub taken_marks : ℕ
taken_marks = 19

abbrev pub taken_listing : ℕ
taken_listing = 20

-- ---- the ends of one node, and their pairing; the block of the pieces that go in ends here
abbrev pub node_block : ℕ
node_block = 21

abbrev pub pair_block : ℕ
pair_block = 23

-- ---- the ends grouped by key, and their keys
abbrev pub group_block : ℕ
group_block = 151

-- ---- all of it
abbrev pub round_room : ℕ
round_room = 165
