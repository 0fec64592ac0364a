-- 02, What lies in this window? "A box with a least above its greatest, or with a NaN, meets no window; any other meets it where they overlap or touch. A window
-- question on lent boxes lists, ascending and each once, the chains whose own box and all boxes above it meet the window."
use Rattle.std.specs.Prelude.{◌+◌, ◌*◌, ◌/◌, ◌^◌, ◌≡◌, ◌&&◌, ◌||◌, ◌∷◌}
use Rattle.rules.specs.Library.{ℕ, zero, suc, Bool, true, false, not, List, [], length, leb, ltb, Float, le, Answer, Box, Window}
use Rattle.rules.specs.Lists.{upto, keep}
use Rattle.rules.specs.Plane.{float}
use Rattle.rules.specs.Boxes.{box_size, box_at, box_room}
use Rattle.rules.specs.Refusals.{first_of, short}
use Rattle.rules.specs.Calls.{answer_of, unless, written}

-- ---- a box and a window
-- low to high and from to to, along x or along y, overlap or touch. A low above its high does not, and no comparison with a NaN holds.
unfoldable pub overlap : Float → Float → Float → Float → Bool
overlap low high from to = le low high && (le low to && le from high)

unfoldable pub meets : Window → Box → Bool
meets w b =
    overlap (float b.least_x) (float b.greatest_x) w.least_x w.greatest_x
    && overlap (float b.least_y) (float b.greatest_y) w.least_y w.greatest_y

-- ---- boxes as they are lent
-- box j meets the window; one that isn't wholly lent is not looked at
unfoldable pub shown : Window → List ℕ → ℕ → Bool
shown w boxes j = ltb (length boxes) (j * box_size + box_size) || meets w (box_at boxes j)

-- box i of a level of n boxes, which begins with box `at`, and all boxes above it, up to f levels of them
unfoldable pub shown_up : ℕ → Window → List ℕ → ℕ → ℕ → ℕ → Bool
shown_up zero w boxes at n i = shown w boxes (at + i)
shown_up (suc f) w boxes at n i =
    shown w boxes (at + i) && elim (leb n 1) [ true ↦ true | false ↦ shown_up f w boxes (at + n) ((n + 1) / 2) (i / 2) ]

-- there are fewer levels than boxes
abbrev pub seen : Window → List ℕ → ℕ → ℕ → ℕ → Bool
seen w boxes at n i = shown_up n w boxes at n i

-- of k chains those whose own box and all boxes above it meet the window, ascending and each once
unfoldable pub in_window : Window → List ℕ → ℕ → List ℕ
in_window w boxes k = keep (seen w boxes 0 k) (upto k)

-- ---- the window question
-- what it lends, as it stands at entry
pub record LentBoxes : Type 0 where
  pub boxes : List ℕ
  pub k : ℕ
  pub window : Window
  pub found : List ℕ

abbrev pub boxes_as : List ℕ → ℕ → Window → List ℕ → LentBoxes
boxes_as a k w b = record { boxes = a; k = k; window = w; found = b }

-- a NaN, or a lower bound above its upper one
unfoldable pub window_bad : Window → Bool
window_bad w = not (le w.least_x w.greatest_x && le w.least_y w.greatest_y)

-- numbers of 32 binary digits have no room for a chain beyond them
unfoldable pub window_refusal_of : LentBoxes → ℕ
window_refusal_of i =
    first_of
    ((18, window_bad i.window)
    ∷ (7, short i.boxes (box_room i.k) || (short i.found i.k || ltb (2 ^ 32) i.k))
    ∷ [])

unfoldable pub found_of : LentBoxes → List ℕ
found_of i = in_window i.window i.boxes i.k

pub record Windowed (i : LentBoxes) (r : Answer) (found' : List ℕ) : Type 0 where
  pub answer : r ≡ answer_of (window_refusal_of i) (length (found_of i))
  pub found : found' ≡ unless (window_refusal_of i) i.found (written (found_of i) i.found)
