-- Chains as they are passed, computed on the book: case H of 01, read by the listing and by the marks, and read wrongly; a line that is turned twice; and
-- points that agree under `==` alone.
use Prim.Native.Nat.{ℕ}
use mathlib.Core.Path.{◌≡◌, refl}
use mathlib.Core.Bool.{Bool, true, false}
use mathlib.Core.List.{List, [], ◌∷◌, map}
use mathlib.Core.Option.{none}
use lib.Ieee.{lt, eq, sub, div}
use lib.ListN.{get_or}
use Rattle.rules.specs.declared.Settings.{Settings}
use Rattle.rules.specs.Lists.{first_place}
use Rattle.rules.specs.Plane.{Point, float}
use Rattle.rules.specs.Chaining.{Piece, nothing, Line, lay, chains}
use Rattle.rules.specs.Layout.{lent, lines_in}
use Rattle.rules.proofs.Computing.{book}
use Rattle.rules.proofs.Given.{+0, -0, +1, -1, +1·25, +1·75, +3·5, +4·5}
use Rattle.chain_travel.specs.Travel.{agree, drawn, mark_of, passing}

-- a tolerance of 1
abbrev tolerant : Settings
tolerant = record { tolerance = float +1; origin_x = float +0; origin_y = float +0; switch = 0; limit = float +0 }

-- the one chain of some lines, and whether its points are what a reading of its members, marks and listing lays
abbrev chain : List Line → Piece
chain ls = get_or (chains tolerant ls) 0 nothing

abbrev read : List Line → List ℕ → List ℕ → List ℕ → Bool
read ls members marks listing = agree (lay none (passing ls members marks listing)) (chain ls).points

-- ---- case H: lines 1 and 2 are one piece after round one, which round two enters at end 1
abbrev h : List Line
h =
    lines_in 2
    (lent (+0 ∷ +0 ∷ +1·25 ∷ +0 ∷ +4·5 ∷ +0 ∷ +3·5 ∷ +0 ∷ +3·5 ∷ +0 ∷ +1·75 ∷ +0 ∷ []) (2 ∷ 2 ∷ 2 ∷ []) (0 ∷ 0 ∷ 0 ∷ []) (0 ∷ 0 ∷ 0 ∷ []))

pub h_listed : ((chain h).lines ≡ 0 ∷ 1 ∷ 2 ∷ []) × ((chain h).marks ≡ 0 ∷ 1 ∷ 1 ∷ []) × ((chain h).listing ≡ 0 ∷ 2 ∷ 1 ∷ [])
unfolding book lt eq sub div
h_listed = (refl, refl, refl)

pub h_passed : read h (0 ∷ 1 ∷ 2 ∷ []) (0 ∷ 1 ∷ 1 ∷ []) (0 ∷ 2 ∷ 1 ∷ []) ≡ true
unfolding book lt eq sub div agree passing drawn mark_of first_place
h_passed = refl

-- in the members' order, or as the lines were drawn, other points are laid
pub h_read_wrongly : (read h (0 ∷ 1 ∷ 2 ∷ []) (0 ∷ 1 ∷ 1 ∷ []) (0 ∷ 1 ∷ 2 ∷ []) ≡ false) × (read h (0 ∷ 1 ∷ 2 ∷ []) (0 ∷ 0 ∷ 0 ∷ []) (0 ∷ 2 ∷ 1 ∷ []) ≡ false)
unfolding book lt eq sub div agree passing drawn mark_of first_place
h_read_wrongly = (refl, refl)

-- ---- the same with line 2 drawn the other way: it is turned in both rounds, and so passed as it was drawn
abbrev twice : List Line
twice =
    lines_in 2
    (lent (+0 ∷ +0 ∷ +1·25 ∷ +0 ∷ +4·5 ∷ +0 ∷ +3·5 ∷ +0 ∷ +1·75 ∷ +0 ∷ +3·5 ∷ +0 ∷ []) (2 ∷ 2 ∷ 2 ∷ []) (0 ∷ 0 ∷ 0 ∷ []) (0 ∷ 0 ∷ 0 ∷ []))

pub twice_passed : ((chain twice).marks ≡ 0 ∷ 1 ∷ 0 ∷ []) × ((chain twice).listing ≡ 0 ∷ 2 ∷ 1 ∷ []) × (read twice (0 ∷ 1 ∷ 2 ∷ []) (0 ∷ 1 ∷ 0 ∷ []) (0 ∷ 2 ∷ 1 ∷ []) ≡ true)
unfolding book lt eq sub div agree passing drawn mark_of first_place
twice_passed = (refl, refl, refl)

-- ---- both zeros: round one keeps the -0 of line 1 and drops the 0 behind it, and round two turns the piece; laid afresh, the 0 comes first
abbrev zeros : List Line
zeros =
    lines_in 2
    (lent (+3·5 ∷ +0 ∷ +1·75 ∷ +0 ∷ -1 ∷ +0 ∷ -0 ∷ +0 ∷ +0 ∷ +0 ∷ +0 ∷ +0 ∷ +1·25 ∷ +0 ∷ []) (2 ∷ 3 ∷ 2 ∷ []) (0 ∷ 0 ∷ 0 ∷ []) (0 ∷ 0 ∷ 0 ∷ []))

abbrev zeros_laid : List Point
zeros_laid = lay none (passing zeros (0 ∷ 1 ∷ 2 ∷ []) (0 ∷ 1 ∷ 1 ∷ []) (0 ∷ 2 ∷ 1 ∷ []))

pub zeros_agree : (read zeros (0 ∷ 1 ∷ 2 ∷ []) (0 ∷ 1 ∷ 1 ∷ []) (0 ∷ 2 ∷ 1 ∷ []) ≡ true)
    × (map (λ p. p.x) (chain zeros).points ≡ +3·5 ∷ +1·75 ∷ +1·25 ∷ -0 ∷ -1 ∷ []) × (map (λ p. p.x) zeros_laid ≡ +3·5 ∷ +1·75 ∷ +1·25 ∷ +0 ∷ -1 ∷ [])
unfolding book lt eq sub div agree passing drawn mark_of first_place
zeros_agree = (refl, refl, refl)
