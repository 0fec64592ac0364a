-- The map of a pairing's workspace of d ends, `end_room` words for each: where each block begins, counted in ends, so that block b begins at d * b. At the
-- beginning stand the presence marks, a word for each end, and from d on the directions, two words for each, in bits.
use Rattle.std.specs.Prelude.{ℕ}

-- the piece numbers; the pairs, two words for each; the marks, which are 0 for an end that is free
abbrev pub pieces_from : ℕ
pieces_from = 3

abbrev pub pairs_from : ℕ
pairs_from = 4

abbrev pub marks_from : ℕ
marks_from = 5

-- ---- the plain route: the key and the partner that each row holds; of each block of rows the least key, and its row

abbrev pub row_keys_from : ℕ
row_keys_from = 6

abbrev pub partners_from : ℕ
partners_from = 7

abbrev pub lows_from : ℕ
lows_from = 8

abbrev pub tops_from : ℕ
tops_from = 9

abbrev pub tops_end : ℕ
tops_end = 10

-- ---- the indexed route: the ends in order, and each end's position; the three words for each that it sorts by; the groups, their cursors and the owners'
-- slots; the heap, two words for each node; the index, five for each; and a word that notes whether all directions are in the disk

abbrev pub order_from : ℕ
order_from = 6

abbrev pub positions_from : ℕ
positions_from = 7

abbrev pub sort_keys_from : ℕ
sort_keys_from = 8

abbrev pub groups_from : ℕ
groups_from = 11

abbrev pub cursors_from : ℕ
cursors_from = 12

abbrev pub slots_from : ℕ
slots_from = 13

abbrev pub heap_from : ℕ
heap_from = 14

abbrev pub index_from : ℕ
index_from = 22

abbrev pub note_from : ℕ
note_from = 42

abbrev pub note_end : ℕ
note_end = 43
