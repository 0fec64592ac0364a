-- The search for the nearest point that differs, one point at a time, from either end of numbers that are points: a point that differs ends it, and
-- one that does not leaves the rest to search. x and y are all that it looks at.
use mathlib.Core.Path.{◌≡◌, refl, sym, ap, ap₂, ◌∙◌}
use mathlib.Core.Bool.{Bool, true, false, not, true≢false}
use mathlib.Core.List.{List, ◌∷◌, reverse}
use mathlib.Core.Option.{some}
use Prim.Native.Nat.{ℕ, ◌+◌, ◌-◌, ◌≤◌, ◌<◌}
use native.Mathlib.Omega.{arith}
use lib.ListN.{length, take, drop, get_or}
use Rattle.rules.specs.Answers.{Direction}
use Rattle.rules.specs.Answers.{Absent}
use Rattle.rules.specs.Lists.{first}
use Rattle.rules.specs.Plane.{Point, point, points, equal, straight, direction_of}
use Rattle.point_numbers.specs.Width.{point_at, Multiple, Whole}
use Rattle.point_numbers.proofs.Points.{at_x, at_y, points_few, points_next, points_from, points_past, turned_one, turned_none, turned_all}
use Rattle.point_direction.specs.Seen.{aim}

-- two points that differ by `!=`
abbrev pub differs : Point → Point → Bool
differs q p = not (equal q p)

-- from p to the first of a list that differs
abbrev pub sought : Point → List Point → Direction
sought p l = aim p (first (λ q. differs q p) l)

module _ (p q : Point) (l : List Point) where
  pub hit : differs q p ≡ true → sought p (q ∷ l) ≡ straight p q
  unfolding first
  hit h = go (differs q p) h
    where
      go : (b : Bool) → b ≡ true → aim p (elim b [ true ↦ some q | false ↦ first (λ q. differs q p) l ]) ≡ straight p q
      go true h = refl
      go false h = absurd (true≢false (sym h))

  pub pass : differs q p ≡ false → sought p (q ∷ l) ≡ sought p l
  unfolding first
  pass h = ap (λ (b : Bool). aim p (elim b [ true ↦ some q | false ↦ first (λ q. differs q p) l ])) h

-- ---- a point among numbers, by its x and y

abbrev pub plain_at : List ℕ → ℕ → Point
plain_at l i = point (get_or l i 0) (get_or l (i + 1) 0)

sought_plain : (p : Point) (t : List Point) → sought p t ≡ sought (point p.x p.y) t
unfolding equal straight
sought_plain p t = refl

module _ (w : ℕ) (two : 2 ≤ w) (l : List ℕ) (j : ℕ) where
  sought_at : (t : List Point) → sought (point_at w l j) t ≡ sought (plain_at l j) t
  sought_at t = sought_plain (point_at w l j) t ∙ ap₂ (λ (a b : ℕ). sought (point a b) t) (at_x w two l j) (at_y w two l j)

  differs_at : (p : Point) → differs (point_at w l j) p ≡ differs (plain_at l j) p
  unfolding equal
  differs_at p = ap₂ (λ (a b : ℕ). differs (point a b) p) (at_x w two l j) (at_y w two l j)

  straight_at : (p : Point) → straight p (point_at w l j) ≡ straight p (plain_at l j)
  unfolding straight
  straight_at p = ap₂ (λ (a b : ℕ). straight p (point a b)) (at_x w two l j) (at_y w two l j)

  -- it stands before the others
  hit_at : (p : Point) (t : List Point) → differs (plain_at l j) p ≡ true → straight p (plain_at l j) ≡ sought p (point_at w l j ∷ t)
  hit_at p t d = sym (hit p (point_at w l j) t (differs_at p ∙ d) ∙ straight_at p)

  pass_at : (p : Point) (t : List Point) → differs (plain_at l j) p ≡ false → sought p t ≡ sought p (point_at w l j ∷ t)
  pass_at p t d = sym (pass p (point_at w l j) t (differs_at p ∙ d))

-- ---- forward

module _ (w : ℕ) (two : 2 ≤ w) (l : List ℕ) where
  abbrev some_width : 0 < w
  some_width = omega arith

  module _ (p : Point) (i : ℕ) where
    pub found : i + w ≤ length l → differs (plain_at l i) p ≡ true → straight p (plain_at l i) ≡ sought p (points w (drop i l))
    found h d = hit_at w two l i p (points w (drop (i + w) l)) d ∙ sym (ap (sought p) (points_from w l i some_width h))

    pub passed : i + w ≤ length l → differs (plain_at l i) p ≡ false → sought p (points w (drop (i + w) l)) ≡ sought p (points w (drop i l))
    passed h d = pass_at w two l i p (points w (drop (i + w) l)) d ∙ sym (ap (sought p) (points_from w l i some_width h))

    pub ended : length l ≤ i → Absent ≡ sought p (points w (drop i l))
    unfolding first
    ended h = sym (ap (sought p) (points_past w l i some_width (omega arith)))

  pub started : w ≤ length l → sought (plain_at l 0) (points w (drop w l)) ≡ direction_of (points w l)
  unfolding direction_of
  started h = sym (ap direction_of (points_next w l some_width h) ∙ sought_at w two l 0 (points w (drop w l)))

  pub nothing : length l < w → Absent ≡ direction_of (points w l)
  unfolding direction_of
  nothing h = sym (ap direction_of (points_few w l h))

  -- ---- backward: the points of the first i numbers are left

  module _ (p : Point) (i : ℕ) (m : Multiple w i) (o : 0 < i) (h : i ≤ length l) where
    pub found_back : differs (plain_at l (i - w)) p ≡ true → straight p (plain_at l (i - w)) ≡ sought p (reverse (points w (take i l)))
    found_back d = hit_at w two l (i - w) p (reverse (points w (take (i - w) l))) d ∙ sym (ap (sought p) (turned_one w l some_width i m o h))

    pub passed_back : differs (plain_at l (i - w)) p ≡ false → sought p (reverse (points w (take (i - w) l))) ≡ sought p (reverse (points w (take i l)))
    passed_back d = pass_at w two l (i - w) p (reverse (points w (take (i - w) l))) d ∙ sym (ap (sought p) (turned_one w l some_width i m o h))

  pub started_back : Whole w l → 0 < length l → sought (plain_at l (length l - w)) (reverse (points w (take (length l - w) l))) ≡ direction_of (reverse (points w l))
  unfolding direction_of
  started_back m o =
      sym (ap direction_of (sym (turned_all w l some_width) ∙ turned_one w l some_width (length l) m o (omega arith))
      ∙ sought_at w two l (length l - w) (reverse (points w (take (length l - w) l))))

  pub ended_back : (p : Point) (i : ℕ) → i ≤ 0 → Absent ≡ sought p (reverse (points w (take i l)))
  unfolding first
  ended_back p i h = sym (ap (sought p) (turned_none w l some_width i h))

  pub nothing_back : length l < w → Absent ≡ direction_of (reverse (points w l))
  unfolding direction_of
  nothing_back h = sym (ap (λ (t : List Point). direction_of (reverse t)) (points_few w l h))
