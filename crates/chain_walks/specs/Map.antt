-- The map of the part in which n pieces are walked: where each block begins, in words for each piece. Two joins a piece stand first, then a mark for each visited piece.
use Rattle.std.specs.Prelude.{ℕ}

abbrev pub visited_block : ℕ
visited_block = 2

abbrev pub entry_block : ℕ
entry_block = 3

abbrev pub length_block : ℕ
length_block = 4

-- all of it
abbrev pub walk_room : ℕ
walk_room = 5
