-- A loop by its numbers: as many points as the width is found in the numbers, and the last begins a width before their end. So the tests of the book are
-- those of four numbers, and points that are written and read again are a loop where they were one.
use Prim.Native.Nat.{ℕ, ◌+◌, ◌-◌, ◌*◌, ◌/◌, ◌≤◌, ◌<◌}
use mathlib.Core.Path.{◌≡◌, refl, sym, ap, ◌∙◌}
use mathlib.Core.Bool.{Bool, true, false, ◌&&◌}
use mathlib.Core.List.{List}
use native.Mathlib.Omega.{arith}
use native.Mathlib.Nat.{add-zero, zero-mul, suc-mul, div-mul-le_self}
use borrow.Author.Tests.{leb-true, le-leb, lt-leb, eq-eqb, ne_eqb}
use mir.Val.{bool_byte}
use lib.Dec.{leb, eqb}
use lib.ListN.{length, get_or, take, drop}
use Rattle.rules.specs.Lists.{one}
use Rattle.rules.specs.Plane.{Point, point, point_of, reads, points, flat}
use Rattle.rules.specs.Layout.{loop}
use Rattle.point_numbers.proofs.Points.{at_x, at_y, flat_length, flat_x, flat_y, reads_length, reads_at, points_exact, points_length, points_at}

byte_one : (b : Bool) → bool_byte b ≡ one b
byte_one true = refl
byte_one false = refl

module _ (w : ℕ) (part : List ℕ) (two : 2 ≤ w) where
  -- fewer than three points are none
  pub too_few : length part / w < 3 → 0 ≡ one (loop (points w part))
  unfolding loop
  too_few h = simp (points_length, lt-leb 3 (length part / w) h)

  module _ (three : 3 ≤ length part / w) where
    abbrev last : ℕ
    last = (length part / w - 1) * w

    -- the last point is wholly there
    pub last_inside : (length part / w - 1) * w + w ≤ length part
    last_inside = omega (arith, div-mul-le_self (length part) w, suc-mul (length part / w - 1) w, ap (λ (i : ℕ). i * w) whole)
      where
        whole : (length part / w - 1) + 1 ≡ length part / w
        whole = omega arith

    by_numbers : loop (points w part) ≡ (eqb (get_or part 0 0) (get_or part last 0) && eqb (get_or part 1 0) (get_or part (last + 1) 0))
    unfolding loop
    by_numbers =
        simp (points_length, points_at w part 0 (point 0 0) (omega arith), points_at w part (length part / w - 1) (point 0 0) (omega arith), zero-mul, at_x w two, at_y w two, le-leb 3 (length part / w) three)

    -- the mark r of the two tests: of equal x it is the test of y, and of others none
    pub mark_y : (r : Bool) → get_or part 0 0 ≡ get_or part ((length part / w - 1) * w) 0
        → r ≡ eqb (get_or part 1 0) (get_or part ((length part / w - 1) * w + 1) 0) → bool_byte r ≡ one (loop (points w part))
    mark_y r e h = byte_one r ∙ ap one (h ∙ sym (simp (by_numbers, eq-eqb (get_or part 0 0) (get_or part last 0) e)))

    pub mark_x : (r : Bool) → (get_or part 0 0 ≡ get_or part ((length part / w - 1) * w) 0 → ⊥)
        → r ≡ eqb (get_or part 0 0) (get_or part ((length part / w - 1) * w) 0) → bool_byte r ≡ one (loop (points w part))
    mark_x r n h = byte_one r ∙ ap one (h ∙ ne_eqb (get_or part 0 0) (get_or part last 0) n ∙ sym (simp (by_numbers, ne_eqb (get_or part 0 0) (get_or part last 0) n)))

-- ---- points written and read again, whatever their extras

module _ (w : ℕ) (two : 2 ≤ w) (ps : List Point) where
  back : points w (flat w ps) ≡ reads w (length ps) (flat w ps)
  back = points_exact w (length ps) (flat w ps) (omega arith) (flat_length w ps)

  many : length (points w (flat w ps)) ≡ length ps
  many = ap length back ∙ reads_length w (length ps) (flat w ps)

  module _ (k : ℕ) (h : k < length ps) where
    abbrev q : Point
    q = get_or (points w (flat w ps)) k (point 0 0)

    here : q ≡ point_of (take w (drop (k * w) (flat w ps)))
    here = ap (λ (l : List Point). get_or l k (point 0 0)) back ∙ reads_at w (length ps) (flat w ps) k (point 0 0) h

    same_x : (get_or (points w (flat w ps)) k (point 0 0)).x ≡ (get_or ps k (point 0 0)).x
    same_x =
        ap (λ (p : Point). p.x) here ∙ at_x w two (flat w ps) (k * w) ∙ ap (λ (i : ℕ). get_or (flat w ps) i 0) (sym (add-zero (k * w)))
        ∙ flat_x w two ps k (point 0 0) h

    same_y : (get_or (points w (flat w ps)) k (point 0 0)).y ≡ (get_or ps k (point 0 0)).y
    same_y = ap (λ (p : Point). p.y) here ∙ at_y w two (flat w ps) (k * w) ∙ flat_y w two ps k (point 0 0) h

  pub loop-flat : loop (points w (flat w ps)) ≡ loop ps
  unfolding loop
  loop-flat = go (leb 3 (length ps)) refl
    where
      go : (t : Bool) → leb 3 (length ps) ≡ t → loop (points w (flat w ps)) ≡ loop ps
      go true e =
          let three : 3 ≤ length ps = leb-true 3 (length ps) e in
          let a : 0 < length ps = omega arith in
          let z : length ps - 1 < length ps = omega arith in
          simp (many, same_x 0 a, same_y 0 a, same_x (length ps - 1) z, same_y (length ps - 1) z)
      go false e = simp (many, e)
