-- Walks in a workspace of n pieces: 2 n joins, n marks of visited pieces, n entries, n lengths. What stands beyond these 5 n words stays.
use Rattle.std.specs.Prelude.{ℕ, suc, Option, Some, None, ◌+◌, ◌*◌, ◌≤◌, ◌<◌, ◌≡◌, length, take, drop, replicate}
use mathlib.Core.List.{List, ◌++◌, map, flatten}
use Rattle.std.proofs.Math.Seq.{slice}
use Rattle.chain_laws.specs.Joins.{Joins}
use Rattle.rules.specs.Walking.{walks}
use Rattle.chain_laws.specs.Table.{from_table, Table, forward_m, marked}
use Rattle.chain_walks.specs.Map.{visited_block, entry_block, length_block, walk_room}

-- the word of a partner in the table of joins: 1 more than its number, or 0 for none
abbrev pub join_word : Option ℕ → ℕ
join_word None = 0
join_word (Some f) = suc f

abbrev pub joins_of : ℕ → List ℕ → List ℕ
joins_of n w = take (2 * n) w

abbrev pub marks_of : ℕ → List ℕ → List ℕ
marks_of n w = slice (visited_block * n) (entry_block * n) w

-- the walk forward from the entry `first`
abbrev pub ahead : List ℕ → ℕ → ℕ → List ℕ
ahead w n first = forward_m (joins_of n w) n (marks_of n w) first

-- what a walk from `first` asks whose entries go behind `at` others
pub record Walkable (w : List ℕ) (n first at : ℕ) : Type 0 where
  pub table : Table n (joins_of n w)
  pub room : walk_room * n ≤ length w
  pub entry : first < 2 * n
  pub fits : at + length (ahead w n first) ≤ n

-- what it leaves: r entries behind the others, and the marks of their pieces
pub record Walked (w' w : List ℕ) (n first at r : ℕ) : Type 0 where
  pub count : r ≡ length (ahead w n first)
  pub whole : w' ≡ joins_of n w ++ (marked (marks_of n w) (ahead w n first) ++ (slice (entry_block * n) (entry_block * n + at) w ++ (ahead w n first ++ drop (entry_block * n + at + r) w)))

-- what all walks ask
pub record WalksReady (w : List ℕ) (n : ℕ) : Type 0 where
  pub table : Table n (joins_of n w)
  pub joins : Joins n (from_table (joins_of n w))
  pub room : walk_room * n ≤ length w
  pub zeros : marks_of n w ≡ replicate n 0

abbrev pub walks_of : List ℕ → ℕ → List (List ℕ)
walks_of w n = walks (from_table (joins_of n w)) n

-- what they leave: every piece marked, the n entries of all walks, and the length of each walk; the rest as before
pub record AllWalked (w' w : List ℕ) (n r : ℕ) : Type 0 where
  pub count : r ≡ length (walks_of w n)
  pub whole : w' ≡ joins_of n w ++ (replicate n 1 ++ (flatten (walks_of w n) ++ (map length (walks_of w n) ++ drop (length_block * n + r) w)))
