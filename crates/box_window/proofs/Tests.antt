-- The tests of a box, arm by arm.
use Prim.Native.Nat.{ℕ, ◌+◌, ◌*◌, ◌/◌, ◌≤◌, ◌<◌}
use mathlib.Core.Path.{◌≡◌, refl, sym, ap, ◌∙◌}
use mathlib.Core.Bool.{Bool, true, false, ◌&&◌}
use mathlib.Core.List.{List}
use native.Mathlib.Omega.{arith}
use borrow.Author.Tests.{lt-ltb, le-ltb}
use lib.ListN.{length, get_or}
use lib.Ieee.{Float, le}
use Rattle.rules.specs.declared.Window.{Window}
use Rattle.rules.specs.Plane.{float}
use Rattle.rules.specs.Boxes.{box_at}
use Rattle.rules.specs.Windows.{overlap, meets, shown}

and_true : (b : Bool) → b ≡ b && true
and_true true = refl
and_true false = refl

and_false : (b : Bool) → false ≡ b && false
and_false true = refl
and_false false = refl

-- ---- along x or along y

module _ (low high from to : Float) where
  pub overlap_last : le low to ≡ true → le from high ≡ true → le low high ≡ overlap low high from to
  unfolding overlap
  overlap_last e f = rw (e, f) (and_true (le low high))

  pub overlap_behind : le low to ≡ true → le from high ≡ false → false ≡ overlap low high from to
  unfolding overlap
  overlap_behind e f = rw (e, f) (and_false (le low high))

  pub overlap_ahead : le low to ≡ false → false ≡ overlap low high from to
  unfolding overlap
  overlap_ahead e = rw e (and_false (le low high))

-- ---- a box that is lent, or isn't

module _ (w : Window) (boxes : List ℕ) (j : ℕ) where
  abbrev along_x : Bool
  along_x = overlap (float (get_or boxes (j * 4) 0)) (float (get_or boxes (j * 4 + 2) 0)) w.least_x w.greatest_x

  abbrev along_y : Bool
  along_y = overlap (float (get_or boxes (j * 4 + 1) 0)) (float (get_or boxes (j * 4 + 3) 0)) w.least_y w.greatest_y

  pub shown_beyond : length boxes / 4 ≤ j → true ≡ shown w boxes j
  unfolding shown
  shown_beyond h = rw (lt-ltb (length boxes) (j * 4 + 4) (omega arith))

  meets_there : j < length boxes / 4 → (along_x && along_y) ≡ shown w boxes j
  unfolding shown meets box_at
  meets_there h = rw (le-ltb (length boxes) (j * 4 + 4) (omega arith))

  pub shown_both : j < length boxes / 4 → along_x ≡ true → along_y ≡ shown w boxes j
  shown_both h e = sym (ap (λ (b : Bool). b && along_y) e) ∙ meets_there h

  pub shown_neither : j < length boxes / 4 → along_x ≡ false → false ≡ shown w boxes j
  shown_neither h e = sym (ap (λ (b : Bool). b && along_y) e) ∙ meets_there h
