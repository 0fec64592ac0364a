-- The map of the part in which m ends are grouped: where each block begins, in words for each end. The heads of m buckets stand first, then a word of chain for each end.
use Rattle.std.specs.Prelude.{ℕ}

abbrev pub next_block : ℕ
next_block = 2

abbrev pub last_block : ℕ
last_block = 3

abbrev pub key_block : ℕ
key_block = 4

-- all of it
abbrev pub group_room : ℕ
group_room = 7

-- the words of one end's key
abbrev pub key_size : ℕ
key_size = 3
