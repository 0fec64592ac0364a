-- The heap as a row of nodes in a list of words, from h on, two for each: a key and a tie. Each node is the lesser of its children, and there is a leaf for each
-- slot; so the first of all is node 1.
use Rattle.std.specs.Prelude.{ℕ, ◌+◌, ◌*◌, ◌/◌, ◌%◌, ◌≤◌, ◌<◌, min, ◌≡◌, cond, List, eqb, Option, Some, None}
use Rattle.pair_bounds.specs.Search.{place}
use Rattle.rules.specs.Refusals.{most_ends}
use Rattle.pair_laws.specs.Ranked.{RankedPair}
use Rattle.pair_laws.specs.Sets.{EndOf}
use Rattle.pair_tree.specs.Places.{gone, none}
use Rattle.pair_tree.specs.Flat.{NodesKept}
use Rattle.pair_tree.specs.Rows.{row, RowPut, RowRoom, RowJoined, RowWhole, RowSets, Any}
use Rattle.pair_bounds.specs.Reading.{place_at}
use Rattle.pair_heap.specs.declared.Entry.{Entry}

-- node n as one number
abbrev pub node_at : List ℕ → ℕ → ℕ → ℕ
node_at w h n = row place_at 2 w h n

-- node n is v, and nothing else is changed
abbrev pub HeapPut : List ℕ → List ℕ → ℕ → ℕ → ℕ → Type 0
HeapPut w w' h n v = RowPut place_at 2 w w' h n v

-- the heap of the leaves l
abbrev pub Heaps : List ℕ → ℕ → ℕ → (ℕ → ℕ) → Type 0
Heaps w h base l = NodesKept min Any (node_at w h) base 1 0 l

-- room for a heap with `base` leaves
abbrev pub HeapRoom : List ℕ → ℕ → ℕ → Type 0
HeapRoom w h base = RowRoom 2 w h base

abbrev pub HeapJoined : List ℕ → List ℕ → ℕ → ℕ → Type 0
HeapJoined w w' h base = RowJoined place_at 2 min Any w w' h base

-- what changing the slot s asks, and what it gives
abbrev pub HeapWhole : List ℕ → ℕ → ℕ → ℕ → Type 0
HeapWhole w h base s = RowWhole place_at 2 min Any w h base s

abbrev pub Sets : List ℕ → List ℕ → ℕ → ℕ → ℕ → ℕ → Type 0
Sets w w' h base s v = RowSets place_at 2 min Any w w' h base s v

-- ---- candidates

-- a pair in one word, with a bit that says which of its ends owns it; the ends are below 8192
unfoldable pub code_of : ℕ → RankedPair → ℕ
code_of o p = (p.i * 8192 + p.j) * 2 + cond (eqb o p.j) 1 0

-- the pair p of the owner o; its j is 0 where it is none
unfoldable pub coded : ℕ → RankedPair → ℕ
coded o p = cond (eqb p.j 0) none (place p.key (code_of o p))

-- the slot s has an entry of the owner o: a pair that o is an end of
pub record Enters (w : List ℕ) (h base s o : ℕ) : Type 0 where
  pub pair : RankedPair
  pub some : 0 < pair.j
  pub i_below : pair.i < most_ends
  pub j_below : pair.j < most_ends
  pub owned : EndOf o pair
  pub here : node_at w h (base + s) ≡ coded o pair

-- the candidate that is found; its j is 0 where there is none
abbrev pub entry_of : Option Entry → Entry
entry_of None = record { i = 0; j = 0; owner = 0 }
entry_of (Some r) = r

-- what a code stands for
pub record Decoded (code : ℕ) (r : Entry) : Type 0 where
  pub word : code ≤ gone
  pub nothing : code ≡ gone → r.j ≡ 0
  pub i_is : (code ≡ gone → ⊥) → r.i ≡ code / 16384
  pub j_is : (code ≡ gone → ⊥) → r.j ≡ code / 2 % 8192
  pub owner_is : (code ≡ gone → ⊥) → r.owner ≡ cond (eqb (code % 2) 1) (code / 2 % 8192) (code / 16384)
