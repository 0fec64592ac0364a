-- Chains made elsewhere, computed on the book: deliveries that are acceptable and others that aren't, clause by clause; the one that no choice made line
-- by line decides; and the refusals in their order.
-- Lines lie along the x axis and are given by their x. Tolerance 1 puts 0.25 and 0.75 into one cell.
use Prim.Native.Nat.{ℕ}
use mathlib.Core.Bool.{Bool, true, false, ◌&&◌, not}
use mathlib.Core.List.{List, [], ◌∷◌, map}
use lib.Dec.{T}
use lib.ListN.{replicate}
use lib.Ieee.{lt, eq, sub, div}
use Rattle.rules.specs.Library.{Meeting}
use Rattle.rules.specs.Lists.{any_of, all_of}
use Rattle.rules.specs.Plane.{Point, point, float}
use Rattle.rules.specs.Chaining.{Line}
use Rattle.rules.specs.Layout.{Lines, lent}
use Rattle.rules.specs.Refusals.{no_chain, chain_refusal_of, source_of}
use Rattle.rules.specs.Calls.{unless, viewed}
use Rattle.rules.specs.Check.{one_key, meet, travelled, meetings, end_to_end, agree, suits, choices, a_choice, same_numbers, untouched, one_group, joins, fits, Delivered, acceptable, Delivery, delivery, listed_at, delivered_at, bad_record, accepted, check_refusal_of}
use Rattle.rules.proofs.Computing.{book}
use Rattle.rules.proofs.Given.{+0, -0, +0·25, +1, +1·25, +1·75, +2, +3·5, +4·5, not_a_number, +infinity, same}

unfoldable pub checking : Unit {0}
unfolding book any_of all_of one_key meet travelled meetings end_to_end agree suits choices a_choice same_numbers untouched one_group joins fits acceptable lt eq sub div
checking = tt

abbrev +0·75 : ℕ
+0·75 = 0x3fe8000000000000

abbrev +0·5 : ℕ
+0·5 = 0x3fe0000000000000

abbrev along : List ℕ → List Point
along xs = map (λ x. point x +0) xs

abbrev line : List ℕ → Line
line xs = record { points = along xs; group = 0; kind = 0 }

abbrev chain : List ℕ → List ℕ → Delivered
chain ls xs = record { listed = ls; coordinates = along xs }

-- no tolerance, tolerance 1, and tolerance 1 with the cells counted from 0.5
abbrev by : ℕ → ℕ → Meeting
by tolerance corner = record { tolerance = float tolerance; origin_x = float corner; origin_y = float +0 }

abbrev exactly : Meeting
exactly = by +0 +0

abbrev nearly : Meeting
nearly = by +1 +0

-- ---- the hard one: `a b`, `a b`, `a b c`

abbrev three : List Line
three = line (+0·25 ∷ +0·75 ∷ []) ∷ line (+0·25 ∷ +0·75 ∷ []) ∷ line (+0·25 ∷ +0·75 ∷ +2 ∷ []) ∷ []

-- a b a b c, and a b a b a b c
abbrev short : List Point
short = along (+0·25 ∷ +0·75 ∷ +0·25 ∷ +0·75 ∷ +2 ∷ [])

abbrev long : List Point
long = along (+0·25 ∷ +0·75 ∷ +0·25 ∷ +0·75 ∷ +0·25 ∷ +0·75 ∷ +2 ∷ [])

-- Behind a b a b both directions of the second line fit. The third tells that it was turned in the short one, so that its b repeats and one a is laid,
-- and that it was not in the long one: who takes it as drawn where both fit, or turned, fails in one of them.
unfoldable pub hardly : Bool
unfolding checking
hardly =
    suits nearly three short (false ∷ true ∷ false ∷ [])
    && not (suits nearly three short (false ∷ false ∷ false ∷ []))
    && suits nearly three long (false ∷ false ∷ false ∷ [])
    && not (suits nearly three long (false ∷ true ∷ false ∷ []))
    && fits nearly three short
    && fits nearly three long
    && fits exactly three short
    && not (fits exactly three long)
    && not (fits (by +1 +0·5) three long)

pub hard : T hardly
unfolding hardly checking
hard = tt

-- without a tolerance too: `0 b -0` reads alike both ways under `==`, and the next line's exact key decides
abbrev zeros : List Line
zeros = line (+0 ∷ +1 ∷ -0 ∷ []) ∷ line (+0 ∷ +2 ∷ []) ∷ []

unfoldable pub zeros_told : Bool
unfolding checking
zeros_told =
    suits exactly zeros (along (+0 ∷ +1 ∷ +0 ∷ +2 ∷ [])) (true ∷ false ∷ [])
    && not (suits exactly zeros (along (+0 ∷ +1 ∷ +0 ∷ +2 ∷ [])) (false ∷ false ∷ []))

pub zeros_told_lem : T zeros_told
unfolding zeros_told checking
zeros_told_lem = tt

-- ---- the clauses

abbrev two : List Line
two = line (+0 ∷ +1 ∷ []) ∷ line (+1 ∷ +2 ∷ []) ∷ []

-- B, joined, and from the other end, but not against the listing, short of a line, or with a line twice
unfoldable pub listed_once : Bool
unfolding checking
listed_once =
    acceptable exactly two (chain (0 ∷ 1 ∷ []) (+0 ∷ +1 ∷ +2 ∷ []) ∷ [])
    && acceptable exactly two (chain (1 ∷ 0 ∷ []) (+2 ∷ +1 ∷ +0 ∷ []) ∷ [])
    && not (acceptable exactly two (chain (0 ∷ 1 ∷ []) (+2 ∷ +1 ∷ +0 ∷ []) ∷ []))
    && not (acceptable exactly two (chain (0 ∷ []) (+0 ∷ +1 ∷ []) ∷ []))
    && not (acceptable exactly two (chain (0 ∷ 1 ∷ 0 ∷ []) (+0 ∷ +1 ∷ +2 ∷ []) ∷ []))
    && not (acceptable exactly two (chain (0 ∷ 1 ∷ []) (+0 ∷ +1 ∷ +2 ∷ []) ∷ chain (0 ∷ []) (+0 ∷ +1 ∷ []) ∷ []))

pub listed_once_lem : T listed_once
unfolding listed_once checking
listed_once_lem = tt

-- each alone, but none turned; a chain of no lines has no coordinates
unfoldable pub alone_or_none : Bool
unfolding checking
alone_or_none =
    acceptable exactly two (chain (1 ∷ []) (+1 ∷ +2 ∷ []) ∷ chain (0 ∷ []) (+0 ∷ +1 ∷ []) ∷ [])
    && not (acceptable exactly two (chain (1 ∷ []) (+2 ∷ +1 ∷ []) ∷ chain (0 ∷ []) (+0 ∷ +1 ∷ []) ∷ []))
    && acceptable exactly two (chain (0 ∷ 1 ∷ []) (+0 ∷ +1 ∷ +2 ∷ []) ∷ chain [] [] ∷ [])
    && not (acceptable exactly two (chain (0 ∷ 1 ∷ []) (+0 ∷ +1 ∷ +2 ∷ []) ∷ chain [] (+0 ∷ []) ∷ []))

pub alone_or_none_lem : T alone_or_none
unfolding alone_or_none checking
alone_or_none_lem = tt

-- joined coordinates are equal under `==`, a lone line's bit for bit; a NaN equals nothing; two lines that are one coordinate, as in F
unfoldable pub equal_or_same : Bool
unfolding checking
equal_or_same =
    acceptable exactly two (chain (0 ∷ 1 ∷ []) (-0 ∷ +1 ∷ +2 ∷ []) ∷ [])
    && not (acceptable exactly two (chain (1 ∷ []) (+1 ∷ +2 ∷ []) ∷ chain (0 ∷ []) (-0 ∷ +1 ∷ []) ∷ []))
    && not (acceptable exactly two (chain (0 ∷ 1 ∷ []) (not_a_number ∷ +1 ∷ +2 ∷ []) ∷ []))
    && acceptable exactly (line (+0 ∷ -0 ∷ []) ∷ line (-0 ∷ +0 ∷ []) ∷ []) (chain (0 ∷ 1 ∷ []) (-0 ∷ []) ∷ [])
    && not (acceptable exactly two (chain (0 ∷ 1 ∷ []) (+0 ∷ +1 ∷ +1 ∷ +2 ∷ []) ∷ []))

pub equal_or_same_lem : T equal_or_same
unfolding equal_or_same checking
equal_or_same_lem = tt

-- G only with a tolerance, and not where the corner parts 1.25 and 1.75; H in travel order, and not in the members'
abbrev g : List Line
g = line (+0·25 ∷ +1·25 ∷ []) ∷ line (+1·75 ∷ +3·5 ∷ []) ∷ []

abbrev g_joined : List Delivered
g_joined = chain (0 ∷ 1 ∷ []) (+0·25 ∷ +1·25 ∷ +1·75 ∷ +3·5 ∷ []) ∷ []

abbrev h : List Line
h = line (+0 ∷ +1·25 ∷ []) ∷ line (+4·5 ∷ +3·5 ∷ []) ∷ line (+3·5 ∷ +1·75 ∷ []) ∷ []

unfoldable pub in_cells_case : Bool
unfolding checking
in_cells_case =
    acceptable nearly g g_joined
    && not (acceptable exactly g g_joined)
    && not (acceptable (by +1 +0·5) g g_joined)
    && acceptable nearly h (chain (0 ∷ 2 ∷ 1 ∷ []) (+0 ∷ +1·25 ∷ +1·75 ∷ +3·5 ∷ +4·5 ∷ []) ∷ [])
    && not (acceptable nearly h (chain (0 ∷ 1 ∷ 2 ∷ []) (+0 ∷ +1·25 ∷ +1·75 ∷ +3·5 ∷ +4·5 ∷ []) ∷ []))

pub in_cells : T in_cells_case
unfolding in_cells_case checking
in_cells = tt

-- two groups, and a line that passes through, which is acceptable alone
abbrev other : ℕ → ℕ → List Line
other group kind = line (+0 ∷ +1 ∷ []) ∷ record { points = along (+1 ∷ +2 ∷ []); group = group; kind = kind } ∷ []

unfoldable pub together : Bool
unfolding checking
together =
    not (acceptable exactly (other 1 0) (chain (0 ∷ 1 ∷ []) (+0 ∷ +1 ∷ +2 ∷ []) ∷ []))
    && not (acceptable exactly (other 0 1) (chain (0 ∷ 1 ∷ []) (+0 ∷ +1 ∷ +2 ∷ []) ∷ []))
    && acceptable exactly (other 0 1) (chain (0 ∷ []) (+0 ∷ +1 ∷ []) ∷ chain (1 ∷ []) (+1 ∷ +2 ∷ []) ∷ [])

pub stand_together : T together
unfolding together checking
stand_together = tt

-- ---- calls

unfoldable pub calling : Unit {0}
unfolding checking no_chain chain_refusal_of source_of unless viewed listed_at delivered_at bad_record accepted check_refusal_of
calling = tt

-- two lines of type Z, `0,0 1,0` and `1,0 2,0`, with heights 1, 2, 3 and 4
abbrev heights : List ℕ → Lines
heights kinds = lent (+0 ∷ +0 ∷ 1 ∷ +1 ∷ +0 ∷ 2 ∷ +1 ∷ +0 ∷ 3 ∷ +2 ∷ +0 ∷ 4 ∷ []) (2 ∷ 2 ∷ []) (0 ∷ 0 ∷ []) kinds

-- chains of them by a table of some records, in a workspace of a length, with cells from a corner on
abbrev delivered : ℕ → List ℕ → List ℕ → List ℕ → ℕ → ℕ → Delivery
delivered number table listing merged words corner =
    delivery 1002 (heights (0 ∷ 0 ∷ [])) (by +0 corner) table number listing merged (replicate words 7)

-- Joined, whatever the heights are and whatever the loop mark says; each alone, in either source; with another height a lone line isn't untouched.
abbrev alone : List ℕ → List ℕ → Delivery
alone table merged = delivered 2 table (0 ∷ 1 ∷ []) merged 384 +0

unfoldable pub refused_of : List ℕ
unfolding calling
refused_of =
    check_refusal_of (delivered 1 (0 ∷ 2 ∷ 1 ∷ 0 ∷ 3 ∷ 5 ∷ []) (0 ∷ 1 ∷ []) (+0 ∷ +0 ∷ 9 ∷ +1 ∷ +0 ∷ 9 ∷ +2 ∷ +0 ∷ 9 ∷ []) 384 +0)
    ∷ check_refusal_of (alone (0 ∷ 1 ∷ 0 ∷ 0 ∷ 2 ∷ 0 ∷ 1 ∷ 1 ∷ 0 ∷ 2 ∷ 2 ∷ 0 ∷ []) [])
    ∷ check_refusal_of (alone (0 ∷ 1 ∷ 1 ∷ 0 ∷ 2 ∷ 0 ∷ 1 ∷ 1 ∷ 0 ∷ 2 ∷ 2 ∷ 0 ∷ []) (+0 ∷ +0 ∷ 1 ∷ +1 ∷ +0 ∷ 2 ∷ []))
    ∷ check_refusal_of (alone (0 ∷ 1 ∷ 1 ∷ 0 ∷ 2 ∷ 0 ∷ 1 ∷ 1 ∷ 0 ∷ 2 ∷ 2 ∷ 0 ∷ []) (+0 ∷ +0 ∷ 1 ∷ +1 ∷ +0 ∷ 9 ∷ []))
    ∷ []

pub refused_of_lem : T (same refused_of (0 ∷ 0 ∷ 0 ∷ 24 ∷ []))
unfolding refused_of calling
refused_of_lem = tt

-- The order: 12, 15 and 17 before the room, that before the records, and all records before any chain. An empty record beyond the listing is 23, and so
-- are a line not below n and a record that isn't there; no chain for two lines is 24, and for none it is accepted.
abbrev joined_twice : List ℕ
joined_twice = 0 ∷ 2 ∷ 1 ∷ 0 ∷ 3 ∷ 0 ∷ 0 ∷ 2 ∷ 1 ∷ 0 ∷ 3 ∷ 0 ∷ []

abbrev path : List ℕ
path = +0 ∷ +0 ∷ 1 ∷ +1 ∷ +0 ∷ 2 ∷ +2 ∷ +0 ∷ 4 ∷ []

abbrev nowhere : ℕ → Delivery
nowhere t = delivery t (lent (+0 ∷ +infinity ∷ 1 ∷ []) (1 ∷ []) (0 ∷ []) (0 ∷ [])) (by +0 not_a_number) [] 1 [] [] []

unfoldable pub in_order_case : List ℕ
unfolding calling
in_order_case =
    check_refusal_of (nowhere 3)
    ∷ check_refusal_of (nowhere 1002)
    ∷ check_refusal_of (delivered 1 [] [] [] 383 not_a_number)
    ∷ check_refusal_of (delivered 1 [] [] [] 383 +0)
    ∷ check_refusal_of (delivered 3 joined_twice (0 ∷ 1 ∷ []) path 384 +0)
    ∷ check_refusal_of (delivered 2 joined_twice (0 ∷ 1 ∷ []) path 384 +0)
    ∷ check_refusal_of (delivered 1 joined_twice (0 ∷ 1 ∷ []) path 384 +0)
    ∷ check_refusal_of (delivered 1 joined_twice (0 ∷ 2 ∷ []) path 384 +0)
    ∷ check_refusal_of (delivered 1 joined_twice (0 ∷ []) path 384 +0)
    ∷ check_refusal_of (delivered 1 (3 ∷ 0 ∷ 1 ∷ 0 ∷ 0 ∷ 0 ∷ []) (0 ∷ 1 ∷ []) path 384 +0)
    ∷ check_refusal_of (delivered 0 [] [] [] 384 +0)
    ∷ check_refusal_of (delivery 2 (lent [] [] [] []) (by +0 +0) [] 0 [] [] [])
    ∷ []

pub in_order : T (same in_order_case (12 ∷ 15 ∷ 17 ∷ 7 ∷ 23 ∷ 24 ∷ 0 ∷ 23 ∷ 23 ∷ 23 ∷ 24 ∷ 0 ∷ []))
unfolding in_order_case calling
in_order = tt
