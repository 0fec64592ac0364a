-- Where lines meet: a meeting looks at x and y only, and the first point of a line in a direction stands at its beginning or at its end.
use Prim.Native.Nat.{ℕ, ◌+◌, ◌-◌, ◌≤◌}
use mathlib.Core.Path.{◌≡◌, refl, sym, ap, ap₂, ◌∙◌}
use mathlib.Core.Bool.{Bool, true, false, not, ◌&&◌, cond}
use mathlib.Core.List.{List}
use native.Mathlib.Omega.{arith}
use lib.Dec.{eqb}
use lib.Ieee.{Float, lt}
use lib.ListN.{length, get_or}
use Rattle.rules.specs.declared.Meeting.{Meeting}
use Rattle.rules.specs.Answers.{Exact, Cells}
use Rattle.rules.specs.Plane.{Point, point, points, same_key, exact_key, cell_key, key_of, same_int, nought}
use Rattle.rules.specs.Cell.{cell}
use Rattle.rules.specs.Check.{one_key, meet}
use Rattle.point_numbers.specs.Width.{point_at}
use Rattle.point_numbers.proofs.Points.{at_x, at_y, points_from, turned_one, turned_all}
use Rattle.check_laws.specs.Standing.{run, joint_at}
use Rattle.check_marks.specs.Marks.{LineMarked}

-- ---- keys

pub bits_key : (ax ay bx by : ℕ) → one_key Exact (point ax ay) (point bx by) ≡ (eqb ax bx && eqb ay by)
unfolding one_key key_of exact_key same_key
bits_key ax ay bx by = refl

pub cells_key : (t ox oy : Float) (ax ay bx by : ℕ)
    → one_key (Cells t ox oy) (point ax ay) (point bx by) ≡ (same_int (cell t ox ax) (cell t ox bx) && same_int (cell t oy ay) (cell t oy by))
unfolding one_key key_of cell_key same_key
cells_key t ox oy ax ay bx by = refl

-- extras aren't looked at
meet_bare : (m : Meeting) (p q : Point) → meet m p q ≡ meet m (point p.x p.y) (point q.x q.y)
unfolding meet one_key key_of exact_key cell_key
meet_bare m p q = refl

-- ---- the first point in a direction

module _ (w : ℕ) (line : List ℕ) (g : LineMarked w line) where
  -- where it stands
  abbrev pub end_at : Bool → ℕ
  end_at turned = cond turned (length line - w) 0

  first_is : (turned : Bool) → get_or (run turned (points w line)) 0 (point 0 0) ≡ point_at w line (end_at turned)
  unfolding run
  first_is false = ap (λ (l : List Point). get_or l 0 (point 0 0)) (points_from w line 0 (omega (arith, g.two)) (omega (arith, g.filled)))
  first_is true =
      ap (λ (l : List Point). get_or l 0 (point 0 0))
      (sym (turned_all w line (omega (arith, g.two))) ∙ turned_one w line (omega (arith, g.two)) (length line) g.whole (omega (arith, g.two, g.filled)) (omega arith))

  pub end_inside : (turned : Bool) → end_at turned + w ≤ length line
  end_inside true = omega (arith, g.filled)
  end_inside false = omega (arith, g.filled)

  first_point_lem : (turned : Bool) → point (get_or (run turned (points w line)) 0 (point 0 0)).x (get_or (run turned (points w line)) 0 (point 0 0)).y
      ≡ point (get_or line (end_at turned) 0) (get_or line (end_at turned + 1) 0)
  first_point_lem turned =
      ap₂ point (ap (λ (p : Point). p.x) (first_is turned) ∙ at_x w g.two line (end_at turned)) (ap (λ (p : Point). p.y) (first_is turned) ∙ at_y w g.two line (end_at turned))

pub joint_is : (m : Meeting) (w : ℕ) (p l : List ℕ) (d e : Bool) → LineMarked w p → LineMarked w l
    → meet m (point (get_or p (cond (not d) (length p - w) 0) 0) (get_or p (cond (not d) (length p - w) 0 + 1) 0))
    (point (get_or l (cond e (length l - w) 0) 0) (get_or l (cond e (length l - w) 0 + 1) 0)) ≡ joint_at m (points w p) d (points w l) e
unfolding joint_at
joint_is m w p l d e g h =
    sym
    (meet_bare m (get_or (run (not d) (points w p)) 0 (point 0 0)) (get_or (run e (points w l)) 0 (point 0 0))
    ∙ ap₂ (meet m) (first_point_lem w p g (not d)) (first_point_lem w l h e))

-- ---- the tests one after another

pub meet_bits : (m : Meeting) (p q : Point) (r : Bool) → r ≡ one_key Exact p q → r ≡ true → true ≡ meet m p q
unfolding meet
meet_bits m p q r e t = rw (sym e ∙ t)

pub meet_cells : (m : Meeting) (p q : Point) (r s : Bool) → r ≡ one_key Exact p q → r ≡ false → lt nought m.tolerance ≡ true
    → s ≡ one_key (Cells m.tolerance m.origin_x m.origin_y) p q → s ≡ meet m p q
unfolding meet
meet_cells m p q r s e n t f = rw (sym e ∙ n, t) f

pub meet_none : (m : Meeting) (p q : Point) (r : Bool) → r ≡ one_key Exact p q → r ≡ false → lt nought m.tolerance ≡ false → false ≡ meet m p q
unfolding meet
meet_none m p q r e n t = rw (sym e ∙ n, t)
