-- The tables of a route in its workspace, a word for each of the d ends or positions: which ends are taken, the order of the ends and the positions in it, the
-- groups of one direction, and of each group the cursor; and the slots that owners have in the heap. An entry of d stands for none.
use Rattle.std.specs.Prelude.{ℕ, ◌+◌, ◌*◌, ◌-◌, ◌≤◌, ◌<◌, ◌≡◌, Bool, cond, ◌&&◌, List, ◌⊎◌, get_or, eqb, ltb, Option, Some, None}
use Rattle.rules.specs.Selecting.{End}
use Rattle.pair_ends.specs.Blocks.{marks_from, order_from, positions_from, groups_from, cursors_from, slots_from, heap_from}
use Rattle.pair_ends.specs.Ends.{EndsRoom, ends_in}
use Rattle.pair_laws.proofs.Owners.{There, Alike}
use Rattle.pair_tree.specs.Words.{Changes}

abbrev pub mark_at : List ℕ → ℕ → ℕ → ℕ
mark_at w d e = get_or w (d * marks_from + e) 0

abbrev pub order_at : List ℕ → ℕ → ℕ → ℕ
order_at w d p = get_or w (d * order_from + p) 0

abbrev pub position_at : List ℕ → ℕ → ℕ → ℕ
position_at w d e = get_or w (d * positions_from + e) 0

abbrev pub group_at : List ℕ → ℕ → ℕ → ℕ
group_at w d e = get_or w (d * groups_from + e) 0

abbrev pub cursor_at : List ℕ → ℕ → ℕ → ℕ
cursor_at w d g = get_or w (d * cursors_from + g) 0

abbrev pub slot_at : List ℕ → ℕ → ℕ → ℕ
slot_at w d e = get_or w (d * slots_from + e) 0

-- how many ends of one direction are owners
abbrev pub owners : ℕ
owners = 2

-- ---- the order

-- each end stands at one position
pub record Ordered (order pos : ℕ → ℕ) (d : ℕ) : Type 0 where
  pub order_in : (p : ℕ) → p < d → order p < d
  pub pos_in : (e : ℕ) → e < d → pos e < d
  pub seat : (e : ℕ) → e < d → order (pos e) ≡ e
  pub back : (p : ℕ) → p < d → pos (order p) ≡ p

-- a and e have one direction, bit for bit
pub record OneDirection (w : List ℕ) (d a e : ℕ) : Type 0 where
  pub first : get_or w a 0 ≡ 1
  pub second : get_or w e 0 ≡ 1
  pub x : get_or w (d + a * 2) 0 ≡ get_or w (d + e * 2) 0
  pub y : get_or w (d + a * 2 + 1) 0 ≡ get_or w (d + e * 2 + 1) 0

-- ends of one direction stand together and rise: where one stands somewhere before another, one of them stands right before it, and is lower
abbrev pub Together : List ℕ → ℕ → (ℕ → ℕ) → Type 0
Together w d order = (p q : ℕ) → p < q → q < d → OneDirection w d (order p) (order q) → OneDirection w d (order (q - 1)) (order q) × (order (q - 1) < order q)

-- what a function over the order asks
pub record TablesSorted (w : List ℕ) (d : ℕ) : Type 0 where
  pub room : EndsRoom w d
  pub order : Ordered (order_at w d) (position_at w d) d

-- ---- the groups

-- a and e, the lower first, have one direction
pub record Like (l : List End) (a e : ℕ) : Type 0 where
  pub lower : a < e
  pub first : There l a
  pub second : There l e
  pub alike : Alike l a e

-- a and e, the lower first, are both present, and the two words of their directions agree
unfoldable pub alike_at : List ℕ → ℕ → ℕ → ℕ → Bool
alike_at w d a e =
    eqb (get_or w a 0) 1 && (eqb (get_or w e 0) 1 && (eqb (get_or w (d + a * 2) 0) (get_or w (d + e * 2) 0) && (eqb (get_or w (d + a * 2 + 1) 0) (get_or w (d + e * 2 + 1) 0) && ltb a e)))

-- The first n positions: a group is a run of ends of one direction that rise, and is named by the position of its first end.
pub record GroupRuns (l : List End) (order group : ℕ → ℕ) (n : ℕ) : Type 0 where
  pub below : (p : ℕ) → p < n → group (order p) ≤ p
  pub start : (p : ℕ) → p < n → group (order (group (order p))) ≡ group (order p)
  pub rises : (p q : ℕ) → p ≤ q → q < n → group (order p) ≤ group (order q)
  pub alike : (p q : ℕ) → p < q → q < n → group (order p) ≡ group (order q) → Like l (order p) (order q)

-- ends of one direction at the first n positions are of one group
abbrev pub GroupOfDirection : List ℕ → ℕ → (ℕ → ℕ) → (ℕ → ℕ) → ℕ → Type 0
GroupOfDirection w d order group n = (p q : ℕ) → p < q → q < n → OneDirection w d (order p) (order q) → group (order p) ≡ group (order q)

-- the group of the end at position p: its predecessor's where the two are alike, else its own
unfoldable pub group_of : List ℕ → ℕ → ℕ → ℕ
group_of w d p = cond (ltb 0 p && alike_at w d (order_at w d (p - 1)) (order_at w d p)) (group_at w d (order_at w d (p - 1))) p

-- what that tells: an end of its predecessor's group has its direction
abbrev pub Grouped : List ℕ → ℕ → ℕ → ℕ → Type 0
Grouped w d p r = (r ≡ p) ⊎ ((0 < p) × (r ≡ group_at w d (order_at w d (p - 1))) × Like (ends_in w d) (order_at w d (p - 1)) (order_at w d p))

-- the slot m is for the end at position p of group g, if it is present and one of the first in its group
pub record Slotted (w : List ℕ) (d p g m r : ℕ) : Type 0 where
  pub one_of : (r ≡ d) ⊎ ((r ≡ m) × There (ends_in w d) (order_at w d p) × (p < g + owners))
  pub due : There (ends_in w d) (order_at w d p) → p < g + owners → r ≡ m

-- The first owners: m slots, of which s is that of the end `own s`; and each present end that is one of the first in its group has one.
pub record Started (l : List End) (order group cursor slot own : ℕ → ℕ) (d n m : ℕ) : Type 0 where
  pub few : m ≤ n
  pub held : (p : ℕ) → p < n → (slot (order p) ≡ d) ⊎ ((slot (order p) < m) × (own (slot (order p)) ≡ order p) × (p < group (order p) + owners))
  pub holder : (s : ℕ) → s < m → (slot (own s) ≡ s) × ((p : ℕ) × (p < n) × (own s ≡ order p)) × There l (own s)
  pub due : (p : ℕ) → p < n → There l (order p) → p < group (order p) + owners → slot (order p) < m
  pub cursors : (p : ℕ) → p < n → cursor p ≡ p + owners

-- what grouping gives
pub record Groups (w w' : List ℕ) (d m : ℕ) : Type 0 where
  pub runs : GroupRuns (ends_in w d) (order_at w d) (group_at w' d) d
  pub whole : GroupOfDirection w d (order_at w d) (group_at w' d) d
  pub own : ℕ → ℕ
  pub started : Started (ends_in w d) (order_at w d) (group_at w' d) (cursor_at w' d) (slot_at w' d) own d d m
  pub kept : Changes w w' (d * groups_from) (d * heap_from)

-- ---- the next owner

-- the position that is found; d where there is none
abbrev pub place_or : ℕ → Option ℕ → ℕ
place_or d None = d
place_or d (Some c) = c

-- From the position `from` on, all ends before `stop` are taken. There the group g ends, or a free end of it stands, which is the one due.
pub record Due (w : List ℕ) (d g from r : ℕ) : Type 0 where
  pub stop : ℕ
  pub reached : from ≤ stop
  pub passed : (q : ℕ) → from ≤ q → q < stop → mark_at w d (order_at w d q) ≡ 0 → ⊥
  pub none : r ≡ d → (d ≤ stop) ⊎ (group_at w d (order_at w d stop) ≡ g → ⊥)
  pub some : (r ≡ d → ⊥) → (r ≡ stop) × (stop < d) × (group_at w d (order_at w d stop) ≡ g) × (mark_at w d (order_at w d stop) ≡ 0)
