-- 02, Which way was this line drawn: a chain's lines in the order in which its points pass them, each as it was drawn or turned, laid end to end;
-- and what is said of every chain.
use Rattle.std.specs.Prelude.{ℕ, ◌≤◌, ◌≡◌, Bool, true, false, ◌&&◌, cond, eqb, length, get_or}
use mathlib.Core.List.{List, [], ◌∷◌, flat_map, reverse}
use Rattle.std.proofs.Math.Option.{none}
use Rattle.rules.specs.Lists.{count, first_place}
use Rattle.rules.specs.Plane.{Point, equal}
use Rattle.rules.specs.Chaining.{Piece, Line, lay}
use Rattle.chain_extras.specs.Bare.{own_points}

-- two lists of points, equal number by number under `==`
unfoldable pub agree : List Point → List Point → Bool
agree [] [] = true
agree [] (q ∷ r) = false
agree (p ∷ l) [] = false
agree (p ∷ l) (q ∷ r) = equal p q && agree l r

-- points as they are passed by a mark: as they were drawn where it is 0, and turned otherwise
unfoldable pub drawn : ℕ → List Point → List Point
drawn mark points = cond (eqb mark 0) points (reverse points)

-- the mark of line k, which stands at its place among the members
unfoldable pub mark_of : List ℕ → List ℕ → ℕ → ℕ
mark_of members marks k = get_or marks (first_place (eqb k) members) 0

-- the lines of a listing end to end, each as its mark says
unfoldable pub passing : List Line → List ℕ → List ℕ → List ℕ → List Point
passing ls members marks listing = flat_map (λ k. drawn (mark_of members marks k) (own_points ls k)) listing

-- What is said of a chain: its listing has the lines that its members are; two lines or more, passed one after another with repeats dropped as in
-- 01, are its points; and a line alone is as it was drawn.
pub record Travelled (ls : List Line) (members marks listing : List ℕ) (points : List Point) : Type 0 where
  pub listed : (y : ℕ) → count y listing ≡ count y members
  pub joined : 2 ≤ length members → agree (lay none (passing ls members marks listing)) points ≡ true
  pub alone : (k : ℕ) → members ≡ k ∷ [] → (marks ≡ 0 ∷ []) × (points ≡ own_points ls k)

-- of a chain of the book
abbrev pub ChainTravelled : List Line → Piece → Type 0
ChainTravelled ls p = Travelled ls p.lines p.marks p.listing p.points
