-- Points of a width in a slice, taken in parts: one point more, four at once, and the last four, of which some were taken already.
use Prim.Native.Nat.{ℕ, ◌+◌, ◌-◌, ◌≤◌, ◌<◌}
use mathlib.Core.Path.{◌≡◌, refl, sym, ap, ap₂, subst, ◌∙◌}
use mathlib.Core.List.{List, [], ◌∷◌}
use native.Mathlib.Omega.{arith}
use lib.ListN.{length, take, drop, get_or}
use lib.Seq.{drop-drop}
use Rattle.rules.specs.declared.Box.{Box}
use Rattle.rules.specs.Plane.{Point, point, float, point_of, reads, points}
use Rattle.rules.specs.Boxes.{union, empty, spot, grown, box_of}
use Rattle.float_order.proofs.Order.{finite_num}
use Rattle.point_numbers.specs.Width.{point_at, Multiple}
use Rattle.point_numbers.proofs.Points.{at_x, at_y, points_from, points_past, multiple_next}
use Rattle.chain_laws.proofs.Counts.{nil, cons}
use Rattle.box_laws.specs.Sound.{Number, BoxPlace, Places}
use Rattle.box_laws.proofs.Unions.{box_append, box_one}
use Rattle.box_levels.specs.declared.Extent.{Extent}
use Rattle.box_levels.specs.Extents.{joined, Boxed}
use Rattle.box_levels.specs.Lying.{Lying, FourAt}
use Rattle.box_levels.proofs.Extents.{boxed_spot, boxed_around}

-- ---- a point where it stands

module _ (w : ℕ) (l : List ℕ) (i : ℕ) (two : 2 ≤ w) where
  pub here_real : BoxPlace (point_at w l i) → Number (get_or l i 0) × Number (get_or l (i + 1) 0)
  here_real h = (
    subst Number (at_x w two l i) (finite_num (float (point_at w l i).x) h.across),
    subst Number (at_y w two l i) (finite_num (float (point_at w l i).y) h.up),
  )

  pub here_boxed : {e : Extent} → Boxed e (spot (point (get_or l i 0) (get_or l (i + 1) 0))) → Boxed e (spot (point_at w l i))
  here_boxed b = boxed_spot (point (get_or l i 0) (get_or l (i + 1) 0)) (point_at w l i) (at_x w two l i) (at_y w two l i) b

-- ---- one by one

-- the extent of the points before the i-th number: their box, grown by those behind, is the box of all
pub record Grown (w : ℕ) (part : List ℕ) (e : Extent) (i : ℕ) : Type 0 where
  pub within : i ≤ length part
  pub whole : Multiple w (length part - i)
  pub places : Places (points w (drop i part))
  pub box : Box
  pub boxed : Boxed e box
  pub goes : grown box (points w (drop i part)) ≡ box_of (points w part)

pub grown_start : {w : ℕ} {part : List ℕ} {e : Extent} → Lying w part → Boxed e empty → Grown w part e 0
unfolding box_of
grown_start {w} {part} l b = record {
  within = omega arith;
  whole = record { number = l.whole.number; long = omega (arith, l.whole.long) };
  places = l.places;
  box = empty;
  boxed = b;
  goes = refl;
}

module _ {w : ℕ} {part : List ℕ} {e : Extent} {i : ℕ} (two : 2 ≤ w) (g : Grown w part e i) where
  module _ (h : i < length part) where
    next : (i + w ≤ length part) × Multiple w (length part - (i + w))
    next = multiple_next g.whole h

    opened : points w (drop i part) ≡ point_at w part i ∷ points w (drop (i + w) part)
    opened = points_from w part i (omega arith) next.0

    apart : BoxPlace (point_at w part i) × Places (points w (drop (i + w) part))
    apart = go (subst Places opened g.places)
      where
        go : Places (point_at w part i ∷ points w (drop (i + w) part)) → BoxPlace (point_at w part i) × Places (points w (drop (i + w) part))
        go (cons p ps) = (p, ps)

    pub grown_room : i + w ≤ length part
    grown_room = next.0

    pub grown_real : Number (get_or part i 0) × Number (get_or part (i + 1) 0)
    grown_real = here_real w part i two apart.0

    pub grown_more : {s r : Extent} → Boxed s (spot (point (get_or part i 0) (get_or part (i + 1) 0))) → r ≡ joined e s → Grown w part r (i + w)
    unfolding grown
    grown_more b z = record {
      within = next.0;
      whole = next.1;
      places = apart.1;
      box = union g.box (spot (point_at w part i));
      boxed = boxed_around z g.boxed (here_boxed w part i two b);
      goes = ap (grown g.box) (sym opened) ∙ g.goes;
    }

  pub grown_done : length part ≤ i → Boxed e (box_of (points w part))
  unfolding grown
  grown_done h =
      subst (Boxed e) (sym (ap (grown g.box) (points_past w part i (omega arith) (omega arith))) ∙ g.goes) g.boxed

-- ---- four at once

four_read : (w : ℕ) (l : List ℕ) (i : ℕ)
    → reads w 4 (drop i l) ≡ point_at w l i ∷ point_at w l (i + w) ∷ point_at w l (i + w + w) ∷ point_at w l (i + w + w + w) ∷ []
unfolding reads
four_read w l i =
    let e₁ : drop w (drop i l) ≡ drop (i + w) l = drop-drop w i l in
    let e₂ : drop w (drop w (drop i l)) ≡ drop (i + w + w) l = ap (drop w) e₁ ∙ drop-drop w (i + w) l in
    let e₃ : drop w (drop w (drop w (drop i l))) ≡ drop (i + w + w + w) l = ap (drop w) e₂ ∙ drop-drop w (i + w + w) l in
    λ j. point_at w l i ∷ point_of (take w (e₁ j)) ∷ point_of (take w (e₂ j)) ∷ point_of (take w (e₃ j)) ∷ []

four_box : (a b c d : Point) → BoxPlace a → BoxPlace b → BoxPlace c → BoxPlace d
    → union (union (spot a) (spot b)) (union (spot c) (spot d)) ≡ box_of (a ∷ b ∷ c ∷ d ∷ [])
four_box a b c d p q r s =
    ap₂ union (two a b p q) (two c d r s) ∙ sym (box_append (a ∷ b ∷ []) (c ∷ d ∷ []) (cons p (cons q nil)) (cons r (cons s nil)))
  where
    two : (a b : Point) → BoxPlace a → BoxPlace b → union (spot a) (spot b) ≡ box_of (a ∷ b ∷ [])
    two a b p q = ap₂ union (sym (box_one a p)) (sym (box_one b q)) ∙ sym (box_append (a ∷ []) (b ∷ []) (cons p nil) (cons q nil))

module _ {w : ℕ} {l : List ℕ} {i : ℕ} (f : FourAt w l i) where
  record Fours : Type 0 where
    pub first : BoxPlace (point_at w l i)
    pub second : BoxPlace (point_at w l (i + w))
    pub third : BoxPlace (point_at w l (i + w + w))
    pub fourth : BoxPlace (point_at w l (i + w + w + w))

  fours : Fours
  fours = go (subst Places (four_read w l i) f.places)
    where
      go : Places (point_at w l i ∷ point_at w l (i + w) ∷ point_at w l (i + w + w) ∷ point_at w l (i + w + w + w) ∷ []) → Fours
      go (cons p (cons q (cons r (cons s nil)))) = record { first = p; second = q; third = r; fourth = s }

  pub first_real : Number (get_or l i 0) × Number (get_or l (i + 1) 0)
  first_real = here_real w l i f.two fours.first

  pub second_real : Number (get_or l (i + w) 0) × Number (get_or l (i + w + 1) 0)
  second_real = here_real w l (i + w) f.two fours.second

  pub third_real : Number (get_or l (i + w + w) 0) × Number (get_or l (i + w + w + 1) 0)
  third_real = here_real w l (i + w + w) f.two fours.third

  pub fourth_real : Number (get_or l (i + w + w + w) 0) × Number (get_or l (i + w + w + w + 1) 0)
  fourth_real = here_real w l (i + w + w + w) f.two fours.fourth

  pub four_boxed : {a b c d e g r : Extent}
      → Boxed a (spot (point (get_or l i 0) (get_or l (i + 1) 0)))
      → Boxed b (spot (point (get_or l (i + w) 0) (get_or l (i + w + 1) 0)))
      → Boxed c (spot (point (get_or l (i + w + w) 0) (get_or l (i + w + w + 1) 0)))
      → Boxed d (spot (point (get_or l (i + w + w + w) 0) (get_or l (i + w + w + w + 1) 0)))
      → e ≡ joined a b → g ≡ joined c d → r ≡ joined e g → Boxed r (box_of (reads w 4 (drop i l)))
  four_boxed {r = r} p q s t x y z =
      let two = f.two in
      subst (Boxed r) (four_box _ _ _ _ fours.first fours.second fours.third fours.fourth ∙ ap box_of (sym (four_read w l i)))
      (boxed_around z (boxed_around x (here_boxed w l i two p) (here_boxed w l (i + w) two q))
      (boxed_around y (here_boxed w l (i + w + w) two s) (here_boxed w l (i + w + w + w) two t)))
