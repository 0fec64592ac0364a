-- A round joins by the keys that its grid gives, and by nothing else of the grid: two grids with the same keys leave the same pieces (`join_alike`). So
-- with an origin of zero, of either sign in either axis, the chains are those of 01's cells (`zero_key`), one and the same (`zero_origins`).
use Prim.Native.Nat.{ℕ, ◌*◌}
use mathlib.Core.Path.{◌≡◌, refl, sym, ap, ap₂, ◌∙◌}
use mathlib.Core.Bool.{Bool, true, false}
use mathlib.Core.List.{List, [], ◌∷◌, ◌++◌, map}
use mathlib.Core.Option.{Option}
use lib.Ieee.{Float, binary64, div, lt}
use lib.ListN.{length}
use Rattle.rules.specs.Answers.{Grid}
use Rattle.rules.specs.Answers.{Cells}
use Rattle.rules.specs.declared.Settings.{Settings}
use Rattle.rules.specs.Lists.{keep, upto}
use Rattle.rules.specs.Cell.{floor64}
use Rattle.rules.specs.Plane.{Point, key, same_key, float, cell_key, key_of, nought}
use Rattle.rules.specs.Walking.{walks}
use Rattle.rules.specs.Chaining.{Piece, Rule, mate, piece_at, run, key_at, node, end_at, chosen, joined, partner, merged, passed, turned, merge, join, Line, pieces, limit_of, cells_of, round_one, round_two, chains}
use Rattle.chain_origins.proofs.Zeros.{zero_of}
use Rattle.chain_origins.proofs.Cells.{from_zero}

-- ---- two grids with the same keys

module _ (g h : Grid) (limit : Option Float) (ps : List Piece) (alike : (k : ℕ) (p : Point) → key_of g k p ≡ key_of h k p) where
  abbrev by_g : Rule
  by_g = record { grid = g; limit = limit }

  abbrev by_h : Rule
  by_h = record { grid = h; limit = limit }

  key_alike : (e : ℕ) → key_at by_g ps e ≡ key_at by_h ps e
  unfolding key_at run piece_at
  key_alike e = alike _ _

  node_alike : (e : ℕ) → node by_g ps e ≡ node by_h ps e
  unfolding node
  node_alike e = λ i. keep (λ f. same_key (key_alike e i) (key_alike f i)) (upto (2 * length ps))

  joined_alike : (l : List ℕ) → joined by_g ps l ≡ joined by_h ps l
  unfolding joined chosen end_at run piece_at
  joined_alike [] = refl
  joined_alike (a ∷ []) = refl
  joined_alike (a ∷ b ∷ []) = refl
  joined_alike (a ∷ b ∷ c ∷ l) = refl

  partner_alike : (e : ℕ) → partner by_g ps e ≡ partner by_h ps e
  unfolding partner
  partner_alike e = ap (mate e) (joined_alike (node by_g ps e) ∙ ap (joined by_h ps) (node_alike e))

  merge_alike : (w : List ℕ) → merge by_g ps w ≡ merge by_h ps w
  unfolding merge passed turned merged run piece_at
  merge_alike [] = refl
  merge_alike (e ∷ []) = refl
  merge_alike (e ∷ f ∷ w) = refl

  pub join_alike : join (record { grid = g; limit = limit }) ps ≡ join (record { grid = h; limit = limit }) ps
  unfolding join
  join_alike = λ i. map (λ w. merge_alike w i) (walks (λ e. partner_alike e i) (length ps))

-- ---- an origin of zero

-- the key is that of 01: the floors of x / tolerance and y / tolerance
pub zero_key : (tolerance : Float) (a b : Bool) (k : ℕ) (p : Point)
    → key_of (Cells tolerance (zero_of a) (zero_of b)) k p
    ≡ key k (floor64 (div binary64 (float p.x) tolerance)) (floor64 (div binary64 (float p.y) tolerance))
unfolding key_of cell_key
zero_key tolerance a b k p = ap₂ (key k) (from_zero tolerance a p.x) (from_zero tolerance b p.y)

-- settings with an origin of zero
abbrev pub zeroed : Bool → Bool → Settings → Settings
zeroed a b s = record { tolerance = s.tolerance; origin_x = zero_of a; origin_y = zero_of b; switch = s.switch; limit = s.limit }

-- whichever zeros they are, the chains are the same
pub zero_origins : (a b c d : Bool) (s : Settings) (ls : List Line) → chains (zeroed a b s) ls ≡ chains (zeroed c d s) ls
unfolding chains round_two round_one limit_of
zero_origins a b c d s ls = go (lt nought s.tolerance)
  where
    ps : List Piece
    ps = round_one (zeroed a b s) (pieces true 0 ls)

    keys : (k : ℕ) (p : Point) → key_of (cells_of (zeroed a b s)) k p ≡ key_of (cells_of (zeroed c d s)) k p
    keys k p = zero_key s.tolerance a b k p ∙ sym (zero_key s.tolerance c d k p)

    go : (t : Bool)
        → elim t [ true ↦ join (record { grid = cells_of (zeroed a b s); limit = limit_of s }) ps | false ↦ ps ] ++ pieces false 0 ls
        ≡ elim t [ true ↦ join (record { grid = cells_of (zeroed c d s); limit = limit_of s }) ps | false ↦ ps ] ++ pieces false 0 ls
    go true = ap (λ (l : List Piece). l ++ pieces false 0 ls) (join_alike (cells_of (zeroed a b s)) (cells_of (zeroed c d s)) (limit_of s) ps keys)
    go false = refl
