-- Whether any ends can be joined: v is the part of the workspace where m ends are grouped, and `on` says whether junction pairing is on.
use Rattle.std.specs.Prelude.{ℕ, zero, suc, Bool, true, false, not, List, [], ◌∷◌, eqb}
use Rattle.rules.specs.Walking.{piece_of}
use Rattle.chain_joins.specs.Node.{node_of, leading}

-- the ends of a node can be joined: two, of two pieces, or more where junction pairing is on
unfoldable pub joinable : Bool → List ℕ → Bool
joinable on [] = false
joinable on (a ∷ []) = false
joinable on (a ∷ b ∷ []) = not (eqb (piece_of a) (piece_of b))
joinable on (a ∷ b ∷ c ∷ l) = on

-- those of the node that e leads can be, if e leads one
unfoldable pub meets_at : Bool → List ℕ → ℕ → ℕ → Bool
unfolding leading node_of joinable
meets_at on v m e = elim (leading v m e) [ true ↦ joinable on (node_of v m e) | false ↦ false ]

-- those of no node that one of the first i ends leads can be
unfoldable pub apart_to : Bool → List ℕ → ℕ → ℕ → Bool
unfolding meets_at
apart_to on v m zero = true
apart_to on v m (suc i) = elim (meets_at on v m i) [ true ↦ false | false ↦ apart_to on v m i ]
