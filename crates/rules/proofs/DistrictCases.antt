-- Districts, computed on the book: whose a group is, shares at their edges, the place of 20 and 21 among the refusals, and lines that meet and whose groups
-- differ in the top bit alone.
use Prim.Native.Nat.{ℕ, ◌+◌, ◌*◌}
use mathlib.Core.Bool.{Bool, ◌&&◌}
use mathlib.Core.List.{List, [], ◌∷◌, ◌++◌}
use lib.Dec.{T}
use lib.ListN.{length, replicate}
use lib.Ieee.{lt, eq, le, sub, div, of_bits}
use Rattle.rules.specs.Lists.{total}
use Rattle.rules.specs.Plane.{float}
use Rattle.rules.specs.Layout.{lent}
use Rattle.rules.specs.Districts.{district_of}
use Rattle.rules.specs.Refusals.{rooms, refusal_of}
use Rattle.rules.proofs.Computing.{book}
use Rattle.rules.proofs.Given.{+0, +1, +2, not_a_number, same, Call, exactly, builds}

-- a group of each district, which differ in the top bit alone
abbrev near : ℕ
near = 7

abbrev far : ℕ
far = 2147483655

pub bordering : T (same (district_of 0 ∷ district_of 2147483647 ∷ district_of 2147483648 ∷ district_of 4294967295 ∷ []) (0 ∷ 0 ∷ 1 ∷ 1 ∷ []))
unfolding district_of
bordering = tt

-- ---- shares

-- lines of these counts and groups, which pass through; no coordinate is a place and no room is lent, so that what no share refuses is refused by 15, or
-- by 7 where there is no coordinate
abbrev refused : List ℕ → List ℕ → ℕ
refused counts groups =
    refusal_of 2 (lent (replicate (total counts * 2) not_a_number) counts groups (replicate (length counts) 1))
    (record { tolerance = float +0; origin_x = float +0; origin_y = float +0; switch = 0; limit = float +0 })
    (rooms [] [] [] [] [] [] [] [])

-- a lines of the first district and b of the second, all empty
abbrev empties : ℕ → ℕ → ℕ
empties a b = refused (replicate (a + b) 0) (replicate a near ++ replicate b far)

-- 4,096 lines fit only as 2,048 and 2,048, empty ones and those that pass through counted
unfoldable pub line_shares : Bool
unfolding book
line_shares =
    same
    (empties 2048 2048 ∷ empties 2049 0 ∷ empties 0 2049 ∷ empties 2047 2049 ∷ empties 2049 2047 ∷ empties 2049 2049 ∷ [])
    (7 ∷ 20 ∷ 20 ∷ 20 ∷ 20 ∷ 1 ∷ [])

pub line_shares_lem : T line_shares
unfolding line_shares lt eq le of_bits
line_shares_lem = tt

-- 65,536 coordinates only as 32,768 and 32,768, of one line or of several
unfoldable pub point_shares : Bool
unfolding book
point_shares =
    same
    (refused (32768 ∷ 32768 ∷ []) (near ∷ far ∷ [])
    ∷ refused (32769 ∷ []) (near ∷ [])
    ∷ refused (32769 ∷ []) (far ∷ [])
    ∷ refused (1 ∷ 32768 ∷ 1 ∷ []) (near ∷ far ∷ far ∷ [])
    ∷ [])
    (15 ∷ 21 ∷ 21 ∷ 21 ∷ [])

pub point_shares_lem : T point_shares
unfolding point_shares lt eq le of_bits
point_shares_lem = tt

-- 20 of either district before 21 of either; both after 5 and before 15
unfoldable pub share_order : Bool
unfolding book
share_order =
    same
    (refused (32769 ∷ replicate 2049 0) (near ∷ replicate 2049 far)
    ∷ refused (replicate 2049 0 ++ (32769 ∷ [])) (replicate 2049 near ++ (far ∷ []))
    ∷ refused (65537 ∷ replicate 2049 0) (near ∷ replicate 2049 far)
    ∷ refused (1 ∷ replicate 2049 0) (near ∷ replicate 2049 far)
    ∷ refused (32769 ∷ []) (far ∷ [])
    ∷ refused (1 ∷ []) (far ∷ [])
    ∷ [])
    (20 ∷ 20 ∷ 5 ∷ 20 ∷ 21 ∷ 15 ∷ [])

pub share_order_lem : T share_order
unfolding share_order lt eq le of_bits
share_order_lem = tt

-- ---- lines of two districts that meet

-- `0,0 1,0` and `1,0 2,0`, whose groups differ in the top bit alone: they aren't joined, by bits or by cells
meeting : List (List ℕ)
meeting = (+0 ∷ +0 ∷ +1 ∷ +0 ∷ []) ∷ (+1 ∷ +0 ∷ +2 ∷ +0 ∷ []) ∷ []

apart : Call → Bool
unfolding builds
apart c = builds c ((0 ∷ 1 ∷ 0 ∷ 0 ∷ 2 ∷ 0 ∷ []) ∷ (1 ∷ 1 ∷ 0 ∷ 2 ∷ 2 ∷ 0 ∷ []) ∷ []) (0 ∷ 1 ∷ []) (0 ∷ 0 ∷ []) (0 ∷ 1 ∷ []) []

unfoldable pub neighbours : Bool
unfolding meeting apart
neighbours =
    apart (exactly (near ∷ far ∷ []) meeting)
    && apart (record { groups = near ∷ far ∷ []; lines = meeting; tolerance = +1; switch = 0; limit = +0 })

pub kept_apart : T neighbours
unfolding neighbours lt eq sub div of_bits
kept_apart = tt
