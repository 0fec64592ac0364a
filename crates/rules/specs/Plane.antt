-- 01, Ends and Direction: points, the keys that group ends, directions, and the measure of a pair.
-- A coordinate is its 64 bits: a NaN keeps its payload, and the exact key is the bits.
use Rattle.std.specs.Prelude.{◌/◌, ◌&&◌, ◌∷◌, ◌++◌}
use Rattle.rules.specs.Library.{ℕ, zero, suc, Bool, true, false, not, cond, List, [], length, get_or, take, drop, replicate, none, some, Some, eqb, ℤ, pos, negsuc, Float, fin, binary64, of_bits, add, sub, mul, div, lt, eq, Direction, Absent, Toward, Grid, Exact, Cells}
use Rattle.rules.specs.Lists.{first}
use Rattle.rules.specs.Root.{root}
use Rattle.rules.specs.Cell.{cell}

-- x, y, and the extras that ride along: nothing here but reading and writing looks at them
pub record Point : Type 0 where
  pub x : ℕ
  pub y : ℕ
  pub extras : List ℕ

-- a point of no extras
abbrev pub point : ℕ → ℕ → Point
point a b = record { x = a; y = b; extras = [] }

-- ---- points as numbers. Each has w of them, its width: x, y and w - 2 extras

-- the point that some numbers are
abbrev pub point_of : List ℕ → Point
point_of l = record { x = get_or l 0 0; y = get_or l 1 0; extras = drop 2 l }

-- the w numbers of a point, with zeros for extras that it lacks
unfoldable pub numbers_of : ℕ → Point → List ℕ
numbers_of w p = take w (p.x ∷ p.y ∷ (p.extras ++ replicate w 0))

-- the first n points of l
unfoldable pub reads : ℕ → ℕ → List ℕ → List Point
reads w zero l = []
reads w (suc n) l = point_of (take w l) ∷ reads w n (drop w l)

-- numbers as points, and back; fewer than w numbers at the end are no point
unfoldable pub points : ℕ → List ℕ → List Point
points w l = reads w (length l / w) l

unfoldable pub flat : ℕ → List Point → List ℕ
flat w [] = []
flat w (p ∷ l) = numbers_of w p ++ flat w l

abbrev pub float : ℕ → Float
float bits = of_bits binary64 bits

-- two points equal by `==`
unfoldable pub equal : Point → Point → Bool
equal p q = eq (float p.x) (float q.x) && eq (float p.y) (float q.y)

-- ---- keys: a group, and two numbers
pub data Key : Type 0 where
  key : ℕ → ℤ → ℤ → Key

abbrev pub same_int : ℤ → ℤ → Bool
same_int (pos a) (pos b) = eqb a b
same_int (pos a) (negsuc b) = false
same_int (negsuc a) (pos b) = false
same_int (negsuc a) (negsuc b) = eqb a b

unfoldable pub same_key : Key → Key → Bool
same_key (key g a b) (key h c d) = eqb g h && (same_int a c && same_int b d)

-- round one: the 64 bits of x and y
unfoldable pub exact_key : ℕ → Point → Key
exact_key g p = key g (pos p.x) (pos p.y)

-- round two: the cells of x and y, from an origin's x and y
unfoldable pub cell_key : Float → Float → Float → ℕ → Point → Key
cell_key tolerance ox oy g p = key g (cell tolerance ox p.x) (cell tolerance oy p.y)

-- the key that a round's grid gives to a point of a group
unfoldable pub key_of : Grid → ℕ → Point → Key
key_of Exact g p = exact_key g p
key_of (Some m) g p = cell_key m.tolerance m.origin_x m.origin_y g p

-- ---- directions
abbrev pub nought : Float
nought = fin false 0 (pos 0)

-- the root of dx * dx + dy * dy, each operation rounded
abbrev pub length_of : Float → Float → Float
length_of dx dy = root binary64 (add binary64 (mul binary64 dx dx) (mul binary64 dy dy))

-- each part by the length, where that is above 0
unfoldable pub toward : Float → Float → Direction
toward dx dy =
    let l = length_of dx dy in
    elim (lt nought l) [ true ↦ Toward (div binary64 dx l) (div binary64 dy l) | false ↦ Absent ]

-- the direction from p to q
unfoldable pub straight : Point → Point → Direction
straight p q = toward (sub binary64 (float q.x) (float p.x)) (sub binary64 (float q.y) (float p.y))

-- a piece's direction at the first of its points: to the nearest later one that differs by `!=`
unfoldable pub direction_of : List Point → Direction
direction_of [] = Absent
direction_of (p ∷ l) = elim (first (λ q. not (equal q p)) l) [ none ↦ Absent | some q ↦ straight p q ]

-- ---- the measure: the dot product, clamped to -1..1. A NaN stays, since no comparison with it holds
abbrev pub unity : Float
unity = fin false 1 (pos 0)

abbrev pub minus_unity : Float
minus_unity = fin true 1 (pos 0)

unfoldable pub clamp : Float → Float
clamp d = cond (lt d minus_unity) minus_unity (cond (lt unity d) unity d)

unfoldable pub dot : Float → Float → Float → Float → Float
dot ax ay bx by = add binary64 (mul binary64 ax bx) (mul binary64 ay by)

unfoldable pub measure : Float → Float → Float → Float → Float
measure ax ay bx by = clamp (dot ax ay bx by)
