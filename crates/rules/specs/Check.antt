-- 02 [12], Chains made elsewhere: which deliveries of chains are acceptable, and what the call that judges one determines. Each definition is a clause
-- of the request.
use Rattle.std.specs.Prelude.{◌+◌, ◌*◌, ◌≡◌, ◌&&◌, ◌||◌, ◌∷◌, ◌++◌}
use Rattle.rules.specs.Library.{ℕ, zero, suc, Bool, true, false, not, cond, List, [], map, flat_map, reverse, none, length, take, drop, get_or, leb, eqb, ltb, lt, Answer, Meeting, Grid, Exact, Cells}
use Rattle.rules.specs.Lists.{count, upto, any_of, all_of}
use Rattle.rules.specs.Plane.{Point, point, points, equal, same_key, key_of, nought}
use Rattle.rules.specs.Chaining.{Line, plain, lay}
use Rattle.rules.specs.Layout.{Lines, lines_in}
use Rattle.rules.specs.Types.{width_of}
use Rattle.rules.specs.Refusals.{line_room, first_of, line_tests, short, origin_bad, entry, no_chain}
use Rattle.rules.specs.Calls.{unless, answer_of, cleared, viewed}

-- ---- "consecutive lines meet in the same exact key or, with a tolerance, the same cell"
-- the keys of two points by a grid are the same; the keys' group is the chain's
unfoldable pub one_key : Grid → Point → Point → Bool
one_key grid p q = same_key (key_of grid 0 p) (key_of grid 0 q)

-- with a tolerance: one above 0, as for round two, which a NaN isn't
unfoldable pub meet : Meeting → Point → Point → Bool
meet m p q = one_key Exact p q || (lt nought m.tolerance && one_key (Cells m.tolerance m.origin_x m.origin_y) p q)

-- ---- "a choice of direction per line": for each line whether it is turned
unfoldable pub travelled : Bool → Line → List Point
travelled turned l = cond turned (reverse l.points) l.points

-- where a line is entered, and where it is left
abbrev pub entered : Bool → Line → Point
entered turned l = get_or (travelled turned l) 0 (point 0 0)

abbrev pub departed : Bool → Line → Point
departed turned l = entered (not turned) l

-- consecutive lines meet, each in its direction
unfoldable pub meetings : Meeting → List Line → List Bool → Bool
meetings m [] ds = true
meetings m (l ∷ []) ds = true
meetings m (p ∷ l ∷ ls) [] = false
meetings m (p ∷ l ∷ ls) (d ∷ []) = false
meetings m (p ∷ l ∷ ls) (d ∷ e ∷ ds) = meet m (departed d p) (entered e l) && meetings m (l ∷ ls) (e ∷ ds)

-- ---- "the coordinates equal, number by number under `==`, those lines laid end to end with repeats dropped as in 01"
unfoldable pub end_to_end : List Line → List Bool → List Point
end_to_end [] ds = []
end_to_end (l ∷ ls) [] = []
end_to_end (l ∷ ls) (d ∷ ds) = travelled d l ++ end_to_end ls ds

unfoldable pub agree : List Point → List Point → Bool
agree [] [] = true
agree [] (q ∷ r) = false
agree (p ∷ l) [] = false
agree (p ∷ l) (q ∷ r) = equal p q && agree l r

-- a choice that is as asked
unfoldable pub suits : Meeting → List Line → List Point → List Bool → Bool
suits m ls coordinates turned = meetings m ls turned && agree (lay none (end_to_end ls turned)) coordinates

-- every choice for n lines, and that one of them suits
unfoldable pub choices : ℕ → List (List Bool)
choices zero = [] ∷ []
choices (suc n) = flat_map (λ c. (false ∷ c) ∷ (true ∷ c) ∷ []) (choices n)

unfoldable pub a_choice : Meeting → List Line → List Point → Bool
a_choice m ls coordinates = any_of (suits m ls coordinates) (choices (length ls))

-- ---- "a lone line untouched, bit for bit", with its extras
unfoldable pub same_numbers : List ℕ → List ℕ → Bool
same_numbers [] [] = true
same_numbers [] (b ∷ r) = false
same_numbers (a ∷ l) [] = false
same_numbers (a ∷ l) (b ∷ r) = eqb a b && same_numbers l r

unfoldable pub untouched : List Point → List Point → Bool
untouched [] [] = true
untouched [] (q ∷ r) = false
untouched (p ∷ l) [] = false
untouched (p ∷ l) (q ∷ r) = same_numbers (p.x ∷ p.y ∷ p.extras) (q.x ∷ q.y ∷ q.extras) && untouched l r

-- ---- a chain: "a chain's lines share a group, pass-through lines stand alone"
unfoldable pub one_group : List Line → Bool
one_group [] = true
one_group (p ∷ ls) = all_of (λ l. eqb p.group l.group) ls

unfoldable pub joins : Meeting → List Line → List Point → Bool
joins m ls coordinates = all_of plain ls && (one_group ls && a_choice m ls coordinates)

-- a chain of no lines has no pass-through line, one group and nothing to choose: its coordinates are none
unfoldable pub fits : Meeting → List Line → List Point → Bool
fits m [] coordinates = joins m [] coordinates
fits m (l ∷ []) coordinates = untouched l.points coordinates
fits m (p ∷ l ∷ ls) coordinates = joins m (p ∷ l ∷ ls) coordinates

-- ---- a delivery: "every line stands in exactly one chain", that is once in all listings
-- a chain as it is delivered: its lines by position, in travel order, and its coordinates
pub record Delivered : Type 0 where
  pub listed : List ℕ
  pub coordinates : List Point

abbrev pub no_line : Line
no_line = record { points = []; group = 0; kind = 0 }

abbrev pub lines_of : List Line → Delivered → List Line
lines_of all c = map (λ y. get_or all y no_line) c.listed

unfoldable pub acceptable : Meeting → List Line → List Delivered → Bool
acceptable m all cs =
    all_of (λ y. eqb (count y (flat_map (λ c. c.listed) cs)) 1) (upto (length all)) && all_of (λ c. fits m (lines_of all c) c.coordinates) cs

-- ---- the call
-- what it lends, as it stands at entry: lines of a type, and the first `number` chains of a table, with their listing and their merged coordinates
pub record Delivery : Type 0 where
  pub type : ℕ
  pub lines : Lines
  pub meeting : Meeting
  pub table : List ℕ
  pub number : ℕ
  pub listing : List ℕ
  pub merged : List ℕ
  pub workspace : List ℕ

abbrev pub delivery : ℕ → Lines → Meeting → (table : List ℕ) → ℕ → (listing merged workspace : List ℕ) → Delivery
delivery t l m table number listing merged workspace =
    record { type = t; lines = l; meeting = m; table = table; number = number; listing = listing; merged = merged; workspace = workspace }

-- chain k: the part of the listing that its record's first two numbers name, and the coordinates of the view
unfoldable pub listed_at : List ℕ → List ℕ → ℕ → List ℕ
listed_at table listing k = take (entry table k 1) (drop (entry table k 0) listing)

unfoldable pub delivered_at : Delivery → ℕ → Delivered
delivered_at i k =
    record {
      listed = listed_at i.table i.listing k;
      coordinates = points (width_of i.type) (viewed i.type i.lines.coordinates i.merged i.table k);
    }

-- "a record refused by 10, reaching outside the listing or naming a line not below n"
unfoldable pub bad_record : Delivery → ℕ → Bool
bad_record i k =
    no_chain (width_of i.type) i.lines.coordinates i.merged i.table k
    || (ltb (length i.listing) (entry i.table k 0 + entry i.table k 1)
    || any_of (leb (length i.lines.counts)) (listed_at i.table i.listing k))

unfoldable pub accepted : Delivery → Bool
accepted i = acceptable i.meeting (lines_in (width_of i.type) i.lines) (map (delivered_at i) (upto i.number))

-- the refusals, in order of checking
unfoldable pub check_refusal_of : Delivery → ℕ
check_refusal_of i =
    first_of
    (line_tests i.type i.lines
    ++ ((17, origin_bad i.meeting.origin_x i.meeting.origin_y)
    ∷ (7, short i.workspace (length i.lines.counts * line_room))
    ∷ (23, any_of (bad_record i) (upto i.number))
    ∷ (24, not (accepted i))
    ∷ []))

-- what it determines: 0 where the delivery is acceptable, and then zeros in the workspace
pub record Checked (i : Delivery) (r : Answer) (workspace' : List ℕ) : Type 0 where
  pub answer : r ≡ answer_of (check_refusal_of i) 0
  pub workspace : workspace' ≡ unless (check_refusal_of i) i.workspace (cleared (length i.lines.counts * line_room) i.workspace)
