-- 02, What lies in this window? "Boxes of least x, least y, greatest x, greatest y (of equal values the earlier one's bits): first the chains', then level by
-- level those of pairs, an odd last one alone, up to one for all." A box's numbers are doubles as their 64 bits, as coordinates are.
use Rattle.std.specs.Prelude.{◌+◌, ◌*◌, ◌∷◌, ◌++◌}
use Rattle.rules.specs.Library.{ℕ, zero, suc, true, false, cond, List, [], length, get_or, leb, lt, Box}
use Rattle.rules.specs.Plane.{Point, float}

-- ---- the box of a chain
-- the lesser and the greater of two numbers, and of equal ones the first
unfoldable pub lesser : ℕ → ℕ → ℕ
lesser a b = cond (lt (float b) (float a)) b a

unfoldable pub greater : ℕ → ℕ → ℕ
greater a b = cond (lt (float a) (float b)) b a

-- the box around two
unfoldable pub union : Box → Box → Box
union a b =
    record {
      least_x = lesser a.least_x b.least_x;
      least_y = lesser a.least_y b.least_y;
      greatest_x = greater a.greatest_x b.greatest_x;
      greatest_y = greater a.greatest_y b.greatest_y;
    }

-- no coordinates: plus infinity as least, and minus infinity as greatest
abbrev pub empty : Box
empty =
    record {
      least_x = 0x7ff0_0000_0000_0000;
      least_y = 0x7ff0_0000_0000_0000;
      greatest_x = 0xfff0_0000_0000_0000;
      greatest_y = 0xfff0_0000_0000_0000;
    }

-- a point's own: x and y alone are looked at
abbrev pub spot : Point → Box
spot p = record { least_x = p.x; least_y = p.y; greatest_x = p.x; greatest_y = p.y }

-- a box, and the points that follow
unfoldable pub grown : Box → List Point → Box
grown b [] = b
grown b (p ∷ l) = grown (union b (spot p)) l

unfoldable pub box_of : List Point → Box
box_of l = grown empty l

-- ---- the levels
-- the boxes of pairs, an odd last one alone
unfoldable pub in_pairs : List Box → List Box
in_pairs [] = []
in_pairs (a ∷ []) = a ∷ []
in_pairs (a ∷ b ∷ l) = union a b ∷ in_pairs l

-- a level and those above it, up to one box for all; there are at most f above
unfoldable pub levels : ℕ → List Box → List Box
levels zero l = l
levels (suc f) l = l ++ elim (leb (length l) 1) [ true ↦ [] | false ↦ levels f (in_pairs l) ]

-- there are fewer levels than boxes
unfoldable pub stacked : List Box → List Box
stacked l = levels (length l) l

-- ---- boxes as numbers
abbrev pub box_size : ℕ
box_size = 4

abbrev pub four : Box → List ℕ
four b = b.least_x ∷ b.least_y ∷ b.greatest_x ∷ b.greatest_y ∷ []

unfoldable pub box_numbers : List Box → List ℕ
box_numbers [] = []
box_numbers (b ∷ l) = four b ++ box_numbers l

-- box j of some numbers
unfoldable pub box_at : List ℕ → ℕ → Box
box_at boxes j =
    record {
      least_x = get_or boxes (j * box_size) 0;
      least_y = get_or boxes (j * box_size + 1) 0;
      greatest_x = get_or boxes (j * box_size + 2) 0;
      greatest_y = get_or boxes (j * box_size + 3) 0;
    }

-- the room for the boxes of k chains and for all above them
abbrev pub box_room : ℕ → ℕ
box_room k = k * 8 + 64
