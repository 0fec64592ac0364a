-- What the route asks of a workspace, and how it begins: the trees' sizes, the ends in order, the index of all ends, and each first owner's pair in the heap.
use Rattle.std.specs.Prelude.{ℕ, ◌+◌, ◌*◌, ◌^◌, ◌≤◌, ◌<◌, ◌≡◌, false, List, ◌⊎◌, replicate, Float}
use Rattle.pair_ends.specs.Blocks.{heap_from, index_from, note_from, note_end}
use Rattle.pair_ends.specs.Ends.{EndsRoom, direction_at, ends_in}
use Rattle.pair_laws.specs.Ends.{end_at}
use Rattle.pair_laws.specs.Owners.{AtMostTwice}
use Rattle.pair_laws.specs.Ranked.{none as nobody}
use Rattle.pair_tree.specs.Places.{gone, none}
use Rattle.pair_tree.specs.Words.{Changes}
use Rattle.pair_index.specs.Search.{round_at}
use Rattle.pair_index.specs.Index.{Indexed, Finite, Noted, KeyOf}
use Rattle.pair_all_directions.specs.Around.{Every, round_of}
use Rattle.pair_heap.specs.Heap.{node_at}
use Rattle.pair_owners.specs.Tables.{order_at, group_at, cursor_at, slot_at, TablesSorted, GroupRuns, GroupOfDirection, Started}
use Rattle.pair_owners.proofs.Seats.{seated}
use Rattle.pair_indexed.specs.declared.Size.{Size}
use Rattle.pair_indexed.specs.Route.{Sized, marks_in}

-- What a workspace must hold: room for at most 8192 ends, a limit's key, finite directions, and no piece number more than twice.
pub record Asks (w : List ℕ) (d limit : ℕ) : Type 0 where
  pub room : EndsRoom w d
  pub limited : limit < gone
  pub bounded : (bound : Float) × KeyOf bound limit
  pub finite_ends : Finite (ends_in w d)
  pub twice : AtMostTwice (λ e. (end_at (ends_in w d) e).piece) d

-- a power of two with a place for each of n, and not twice as great as need be
pub record Fits (n : ℕ) (s : Size) : Type 0 where
  pub power : s.base ≡ 2 ^ s.height
  pub few : n ≤ s.base
  pub most : (s.base ≡ 1) ⊎ (s.base ≤ 2 * n)

-- the ends in order and in groups, with m first owners
pub record Arranged (w : List ℕ) (d m : ℕ) : Type 0 where
  pub sorted : TablesSorted w d
  pub runs : GroupRuns (ends_in w d) (order_at w d) (group_at w d) d
  pub whole : GroupOfDirection w d (order_at w d) (group_at w d) d
  pub own : ℕ → ℕ
  pub started : Started (ends_in w d) (order_at w d) (group_at w d) (cursor_at w d) (slot_at w d) own d d m

-- how many ends it asks at the least to look whether all directions are in the disk
abbrev pub noted_from : ℕ
noted_from = 48

-- it is noted whether all directions are in the disk; among few ends that is not looked at, and noted as if not
pub record Notes (w w' : List ℕ) (d : ℕ) : Type 0 where
  pub few : d < noted_from → round_at w' d ≡ false
  pub told : noted_from ≤ d → Every (λ e. round_of (direction_at w d e)) d (round_at w' d)
  pub kept : Changes w w' (d * note_from) (d * note_end)

-- ---- the index of all ends

pub record Plants (w : List ℕ) (d base : ℕ) : Type 0 where
  pub sorted : TablesSorted w d
  pub finite_ends : Finite (ends_in w d)
  pub some : 0 < base
  pub most : base ≤ 2 * d

pub record Planted (w w' : List ℕ) (d base : ℕ) : Type 0 where
  pub indexed : Indexed w' (d * index_from) base (ends_in w d) nobody (seated (order_at w d) d)
  pub kept : Changes w w' (d * index_from) (d * note_from)

-- ---- a heap without pairs

pub record Clears (w : List ℕ) (d slots : ℕ) : Type 0 where
  pub room : EndsRoom w d
  pub narrow : slots ≤ 2 * d

pub record Cleared (w w' : List ℕ) (d slots : ℕ) : Type 0 where
  pub empty : (s : ℕ) → s < slots → node_at w' (d * heap_from) (slots + s) ≡ none
  pub kept : Changes w w' (d * heap_from) (d * index_from)

-- ---- the first owners' pairs

pub record Startable (w : List ℕ) (d height slots limit : ℕ) : Type 0 where
  pub asks : Asks w d limit
  pub noted : Noted w d (ends_in w d)
  pub m : ℕ
  pub arranged : Arranged w d m
  pub fits : m ≤ slots
  pub sized : Sized d height slots
  pub unmarked : marks_in w d ≡ replicate d 0

pub record Fills (w : List ℕ) (d height slots limit : ℕ) : Type 0 where
  pub begins : Startable w d height slots limit
  pub indexed : Indexed w (d * index_from) (2 ^ height) (ends_in w d) nobody (seated (order_at w d) d)
  pub empty : (s : ℕ) → s < slots → node_at w (d * heap_from) (slots + s) ≡ none
