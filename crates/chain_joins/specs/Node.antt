-- Nodes by leaders: v is the part of the workspace where m ends are grouped.
use Rattle.std.specs.Prelude.{ℕ, zero, suc, ◌+◌, ◌*◌, ◌≤◌, ◌<◌, ◌≡◌, Bool, true, List, [], ◌∷◌, map, leb, length, get_or, drop}
use Rattle.rules.specs.Lists.{keep, upto}
use Rattle.rules.specs.Refusals.{most_ends}
use Rattle.chain_grouping.specs.Group.{same_words, words_of, Nodes}
use Rattle.chain_grouping.specs.Map.{group_room, last_block}

-- the ends with the key of e
unfoldable pub node_of : List ℕ → ℕ → ℕ → List ℕ
unfolding keep upto same_words
node_of v m e = keep (λ f. same_words (words_of v m e) (words_of v m f)) (upto m)

-- e leads its node
unfoldable pub leading : List ℕ → ℕ → ℕ → Bool
leading v m e = leb e (get_or v (m * last_block + e) 0)

-- the nodes of the leaders below i, one after another
unfoldable pub runs_to : List ℕ → ℕ → ℕ → List (List ℕ)
unfolding keep upto leading node_of
runs_to v m i = map (node_of v m) (keep (leading v m) (upto i))

-- r leads the node of e
pub record Leads (v : List ℕ) (m e r : ℕ) : Type 0 where
  pub within : r < m
  pub leads : r ≤ get_or v (m * last_block + r) 0
  pub same : same_words (words_of v m r) (words_of v m e) ≡ true

-- what listing the node of a leader asks: the list stands below the groups
pub record NodeListable (w : List ℕ) (list at m e : ℕ) : Type 0 where
  pub few : m ≤ most_ends
  pub below : list + m ≤ at
  pub room : at + m * group_room ≤ length w
  pub within : e < m
  pub leads : e ≤ get_or w (at + m * last_block + e) 0
  pub nodes : Nodes (drop at w) (drop at w) m

-- k pairs of places in the list, from `pairs` on, as pairs of ends
unfoldable pub named_pairs : List ℕ → ℕ → ℕ → ℕ → List (ℕ × ℕ)
named_pairs w list pairs zero = []
named_pairs w list pairs (suc k) =
    (get_or w (list + get_or w pairs 0) 0, get_or w (list + get_or w (pairs + 1) 0) 0) ∷ named_pairs w list (pairs + 2) k

-- what putting them asks: they are places among the d ends of the list, which are ends of the table, and all stand beyond the table
pub record Puttable (w : List ℕ) (joins m list d pairs r : ℕ) : Type 0 where
  pub below : joins + m ≤ list
  pub listed : list + d ≤ pairs
  pub room : pairs + r * 2 ≤ length w
  pub places : (k : ℕ) → k < r * 2 → get_or w (pairs + k) 0 < d
  pub ends : (i : ℕ) → i < d → get_or w (list + i) 0 < m
