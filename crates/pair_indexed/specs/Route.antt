-- The indexed route over its workspace: what it keeps between two turns, and what each of its functions asks and gives.
-- From 4 d on stand the pairs, from 5 d the marks of the ends taken, from 6 d to 14 d the tables of the owners, from 14 d the heap, from 22 d the index, and at 42 d the note on the disk.
use Rattle.std.specs.Prelude.{ℕ, ◌+◌, ◌*◌, ◌^◌, ◌≤◌, ◌<◌, ◌≡◌, Bool, true, false, List, set, replicate, Float}
use Rattle.std.proofs.Math.Seq.{slice}
use Rattle.rules.specs.Selecting.{End}
use Rattle.pair_laws.specs.Ranked.{RankedPair, Node, candidates, busy, before}
use Rattle.pair_laws.specs.Sets.{In, EndOf}
use Rattle.pair_laws.specs.Ends.{end_at, node_of}
use Rattle.pair_laws.specs.Owners.{AtMostTwice}
use Rattle.pair_laws.specs.Taking.{used_of}
use Rattle.pair_ends.specs.Blocks.{pairs_from, marks_from, order_from, cursors_from, heap_from, index_from, note_from}
use Rattle.pair_ends.specs.Ends.{EndsRoom, ends_in}
use Rattle.pair_tree.specs.declared.Place.{Place}
use Rattle.pair_tree.specs.Places.{worth, gone}
use Rattle.pair_tree.specs.Flat.{own}
use Rattle.pair_tree.specs.Words.{Changes}
use Rattle.pair_index.specs.Nodes.{node_at}
use Rattle.pair_index.specs.Nodes as index
use Rattle.pair_index.specs.Index.{Indexed, Finite, Noted, Query, KeyOf, Answers}
use Rattle.pair_heap.specs.Heap.{Heaps, coded, Enters, Sets}
use Rattle.pair_heap.specs.Heap as heap
use Rattle.pair_owners.specs.Tables.{order_at, position_at, group_at, cursor_at, slot_at, OneDirection, Ordered, GroupRuns, GroupOfDirection}
use Rattle.pair_owners.specs.Owners.{Owners, without}
use Rattle.pair_owners.proofs.Seats.{seated}

-- ---- sizes

-- the heights and widths of index and heap for d ends
pub record Sized (d height slots : ℕ) : Type 0 where
  pub few : d ≤ 2 ^ height
  pub most : 2 ^ height ≤ 2 * d
  pub some : 0 < slots
  pub narrow : slots ≤ 2 * d

-- ---- the parts of the workspace

abbrev pub pairs_in : List ℕ → ℕ → List ℕ
pairs_in w d = slice (d * pairs_from) (d * marks_from) w

abbrev pub marks_in : List ℕ → ℕ → List ℕ
marks_in w d = slice (d * marks_from) (d * order_from) w

-- the ends that are taken
abbrev pub taken_in : List ℕ → ℕ → ℕ → Bool
taken_in w d = used_of (marks_in w d)

-- what the tables hold, entry by entry
pub record Fixed (w : List ℕ) (d : ℕ) (order pos group : ℕ → ℕ) : Type 0 where
  pub order_is : (p : ℕ) → p < d → order_at w d p ≡ order p
  pub pos_is : (e : ℕ) → e < d → position_at w d e ≡ pos e
  pub group_is_lem : (e : ℕ) → e < d → group_at w d e ≡ group e

pub record Moving (w : List ℕ) (d : ℕ) (cursor slot : ℕ → ℕ) : Type 0 where
  pub cursor_is : (g : ℕ) → g < d → cursor_at w d g ≡ cursor g
  pub slot_is : (e : ℕ) → e < d → slot_at w d e ≡ slot e

-- ---- what is kept between two turns

-- p is at or before each free pair of the end o; where it is none, o has none
pub record Bound (n : Node) (limit : ℕ) (used : ℕ → Bool) (o : ℕ) (p : RankedPair) : Type 0 where
  pub nothing : p.j ≡ 0 → (q : RankedPair) → In q (candidates n limit) → busy used q ≡ false → EndOf o q → ⊥
  pub member : 0 < p.j → In p (candidates n limit)
  pub owned : 0 < p.j → EndOf o p
  pub first : 0 < p.j → (q : RankedPair) → In q (candidates n limit) → busy used q ≡ false → EndOf o q → before q p ≡ false

-- the ends l, their order and their groups
pub record Ground (l : List End) (w : List ℕ) (d height slots limit : ℕ) (order pos group : ℕ → ℕ) : Type 0 where
  pub room : EndsRoom w d
  pub ends : ends_in w d ≡ l
  pub sized : Sized d height slots
  pub limited : limit < gone
  pub bounded : (bound : Float) × KeyOf bound limit
  pub finite_ends : Finite l
  pub noted : Noted w d l
  pub twice : AtMostTwice (λ e. (end_at l e).piece) d
  pub fixed : Fixed w d order pos group
  pub ordered : Ordered order pos d
  pub runs : GroupRuns l order group d
  pub whole : GroupOfDirection w d order group d

-- The pair P s of each slot s, and its owner: an owner's pair is at or before all that the owner still has. The pair of the slot `but` is still to come.
pub record Filled (n : Node) (d slots limit : ℕ) (used past : ℕ → Bool) (slot owner : ℕ → ℕ) (P : ℕ → RankedPair) (but : ℕ) : Type 0 where
  pub held : (e : ℕ) → e < d → slot e < d → past e ≡ false → (slot e < slots) × ((slot e ≡ but → ⊥) → Bound n limit used e (P (slot e)))
  pub holder : (s : ℕ) → s < slots → (s ≡ but → ⊥) → 0 < (P s).j → (owner s < d) × (slot (owner s) ≡ s) × (past (owner s) ≡ false) × (s < d)

-- these pairs stand in the heap
pub record Heaped (w : List ℕ) (d slots : ℕ) (owner : ℕ → ℕ) (P : ℕ → RankedPair) (but : ℕ) : Type 0 where
  pub whole : Heaps w (d * heap_from) slots (own (heap.node_at w (d * heap_from)) slots)
  pub leaf : (s : ℕ) → s < slots → (s ≡ but → ⊥) → heap.node_at w (d * heap_from) (slots + s) ≡ coded (owner s) (P s)

-- `past` are the taken ends that have handed on their slots; the pair of the slot `but` is still to come, or of none where that is `slots`
pub record Owning (l : List End) (w : List ℕ) (d height slots limit : ℕ) (past : ℕ → Bool) (but : ℕ) : Type 0 where
  pub order : ℕ → ℕ
  pub pos : ℕ → ℕ
  pub group : ℕ → ℕ
  pub cursor : ℕ → ℕ
  pub slot : ℕ → ℕ
  pub owner : ℕ → ℕ
  pub P : ℕ → RankedPair
  pub ground : Ground l w d height slots limit order pos group
  pub moving : Moving w d cursor slot
  pub owners : Owners l d order pos group cursor slot owner (taken_in w d) past
  pub filled : Filled (node_of l) d slots limit (taken_in w d) past slot owner P but
  pub heaped : Heaped w d slots owner P but
  pub indexed : Indexed w (d * index_from) (2 ^ height) l (taken_in w d) (seated order d)

-- The heap never holds a third active owner of a direction: no three slots have entries of owners whose directions are one, bit for bit.
abbrev pub NoThird : List ℕ → ℕ → ℕ → Type 0
NoThird w d slots =
    (s t u a b c : ℕ) → s < t → t < u → u < slots
    → Enters w (d * heap_from) slots s a → Enters w (d * heap_from) slots t b → Enters w (d * heap_from) slots u c
    → OneDirection w d a b → OneDirection w d b c → ⊥

-- ---- what the functions ask and give

-- the owner o's first pair, as the heap holds it
pub record Offers (w : List ℕ) (d height limit o : ℕ) (r : Place) : Type 0 where
  pub best : RankedPair
  pub answers : Answers w d (d * index_from) height limit o best
  pub coded_is : worth r ≡ coded o best

-- what renewing the owner o's pair asks, and what it gives
pub record Stale (w : List ℕ) (d slots height limit o : ℕ) : Type 0 where
  pub query : Query w d (d * index_from) height limit o
  pub whole : heap.HeapWhole w (d * heap_from) slots (slot_at w d o)

pub record Refreshed (w w' : List ℕ) (d slots height limit o : ℕ) : Type 0 where
  pub best : RankedPair
  pub answers : Answers w d (d * index_from) height limit o best
  pub sets : Sets w w' (d * heap_from) slots (slot_at w d o) (coded o best)

-- what taking the end x out of the index asks; the mark is set first
pub record Retires (w : List ℕ) (d base x : ℕ) : Type 0 where
  pub room : EndsRoom w d
  pub within : x < d
  pub most : base ≤ 2 * d
  pub whole : index.IndexWhole w (d * index_from) base (position_at w d x)

abbrev pub marked : List ℕ → ℕ → ℕ → List ℕ
marked w d x = set w (d * marks_from + x) 1

-- the taken end x hands on its slot
pub record Replaces (w : List ℕ) (d slots height limit x : ℕ) : Type 0 where
  pub l : List End
  pub past : ℕ → Bool
  pub owning : Owning l w d height slots limit past slots
  pub within : x < d
  pub taken : taken_in w d x ≡ true
  pub holds : past x ≡ false

pub record Replaced (w w' : List ℕ) (d slots height limit x : ℕ) : Type 0 where
  pub owning : (l : List End) (past : ℕ → Bool) → Owning l w d height slots limit past slots → past x ≡ false
      → Owning l w' d height slots limit (without past x) slots
  pub kept : Changes w w' (d * cursors_from) (d * index_from)

-- the free pair (i, j) is taken as the one after n others
pub record Takes (w : List ℕ) (d height slots limit n i j : ℕ) : Type 0 where
  pub l : List End
  pub owning : Owning l w d height slots limit (taken_in w d) slots
  pub lower : i < j
  pub below : j < d
  pub free_i : taken_in w d i ≡ false
  pub free_j : taken_in w d j ≡ false
  pub place : n + n + 2 ≤ d

pub record Takings (w w' : List ℕ) (d height slots limit n i j : ℕ) : Type 0 where
  pub owning : (l : List End) → Owning l w d height slots limit (taken_in w d) slots → Owning l w' d height slots limit (taken_in w' d) slots
  pub pairs : pairs_in w' d ≡ set (set (pairs_in w d) (n + n) i) (n + n + 1) j
  pub marks : marks_in w' d ≡ set (set (marks_in w d) i 1) j 1
  pub few : NoThird w' d slots
  pub kept : Changes w w' (d * pairs_from) (d * note_from)

-- all owners' pairs are in the heap, and no end is taken
pub record RouteReady (w : List ℕ) (d height slots limit : ℕ) : Type 0 where
  pub owning : Owning (ends_in w d) w d height slots limit (taken_in w d) slots
  pub unmarked : marks_in w d ≡ replicate d 0
  pub few : NoThird w d slots
