-- How many of the points at one place of a chain stand at another, point by point; and what is known of that from places before. The points from i up to
-- where those at a place low stand are those at the best place from i - low on, so that as many stand at i as there, or all of them.
use Prim.Native.Nat.{ℕ, zero, suc, ◌+◌, ◌-◌, ◌*◌, ◌≤◌, ◌<◌}
use mathlib.Core.Path.{◌≡◌, refl, sym, ap, ap₂, ◌∙◌, subst}
use mathlib.Core.Bool.{true, false}
use mathlib.Core.List.{List, [], ◌∷◌}
use native.Mathlib.Decide.{ℕ_discrete}
use native.Mathlib.Omega.{arith}
use native.Mathlib.Nat.{mul-le-mul_left, mul-le-mul_right}
use lib.ListN.{length, take, drop, get_or, length-take}
use lib.Seq.{take-take, drop-drop}
use Rattle.rules.specs.Plane.{Point, point, points, equal}
use Rattle.point_numbers.specs.Width.{point_at}
use Rattle.point_numbers.proofs.Points.{at_x, at_y}
use Rattle.chain_laws.proofs.Counts.{Each, each_get_d}
use Rattle.chain_travel.proofs.Values.{Number, value, same, one, self, equal_value}
use Rattle.check_laws.specs.Standing.{common}
use Rattle.check_laws.proofs.Common.{common_none, common_right, common_behind, common_same, common_take, alike_less, alike_all, take_drop}
use Rattle.check_laws.proofs.Points.{values}
use Rattle.check_places.specs.declared.Scan.{Scan}
use Rattle.check_places.specs.Places.{far, number_stands, alike_at, Stretched, Known}
use Rattle.check_places.proofs.Reading.{point_there, stands_there, stands_not}

-- ---- point by point

-- a place is at most the number at which it begins
pub grows : (a w : ℕ) → 2 ≤ w → a ≤ a * w
grows a w h = omega (arith, mul-le-mul_left a (one_of w h))
  where
    one_of : (w : ℕ) → 2 ≤ w → 1 ≤ w
    one_of w h = omega arith

pub alike_right : (t : List Point) (best n i : ℕ) → alike_at t best n i ≤ n
unfolding alike_at
alike_right t best n i = omega (arith, common_right equal (drop i t) (take n (drop best t)), length-take n (drop best t))

-- k of them stand there, and the rest is to be looked at
pub record Stretching (w : ℕ) (chain : List ℕ) (i best count k : ℕ) : Type 0 where
  pub few : k ≤ count
  pub counted :
      alike_at (points w chain) best count i
      ≡ k + common equal (drop (i + k) (points w chain)) (take (count - k) (drop (best + k) (points w chain)))

module _ (w : ℕ) (chain : List ℕ) (i best n count : ℕ) (g : Stretched w chain i best n count) where
  abbrev t : List Point
  t = points w chain

  pub stretch_start : Stretching w chain i best count n
  unfolding alike_at
  stretch_start =
      let b : n ≤ count = omega (arith, g.begun, alike_right t best count i) in
      let e : n + (count - n) ≡ count = omega arith in
      record {
        few = b;
        counted = common_behind equal n (drop i t) (take count (drop best t)) g.begun
            ∙ ap₂ (λ (x y : List Point). n + common equal x y) (drop-drop n i t)
            (ap (λ (c : ℕ). drop n (take c (drop best t))) (sym e) ∙ take_drop n (count - n) (drop best t) ∙ ap (take (count - n)) (drop-drop n best t));
      }

  module _ (k : ℕ) (s : Stretching w chain i best count k) (h : k < count) where
    pub next_inside : (best + k) * w + w ≤ length chain
    next_inside =
        omega (arith, sums (best + k) w, mul-le-mul_right w (bound best k count h), g.inside (omega arith))
      where
        sums : (a w : ℕ) → suc a * w ≡ a * w + w
        sums a w = omega arith

        bound : (b k c : ℕ) → k < c → suc (b + k) ≤ b + c
        bound b k c h = omega arith

    abbrev next_point : Point
    next_point = point_at w chain ((best + k) * w)

    abbrev behind : List Point
    behind = take (count - (k + 1)) (drop (best + (k + 1)) t)

    next_is : take (count - k) (drop (best + k) t) ≡ next_point ∷ behind
    next_is =
        let e : count - k ≡ suc (count - (k + 1)) = omega arith in
        let f : suc (best + k) ≡ best + (k + 1) = omega arith in
        ap₂ (λ (c : ℕ) (l : List Point). take c l) e (point_there w chain g.two g.chain_whole (best + k) (omega (arith, next_inside, g.two)))
        ∙ ap {B = List Point} (λ (j : ℕ). next_point ∷ take (count - (k + 1)) (drop j t)) f

    point_is : point next_point.x next_point.y ≡ point (get_or chain ((best + k) * w) 0) (get_or chain ((best + k) * w + 1) 0)
    point_is = ap₂ point (at_x w g.two chain ((best + k) * w)) (at_y w g.two chain ((best + k) * w))

    abbrev read : Point
    read = point (get_or chain ((best + k) * w) 0) (get_or chain ((best + k) * w + 1) 0)

    pub stretch_next : number_stands chain ((i + k) * w) read ≡ true → Stretching w chain i best count (k + 1)
    stretch_next e =
        let f : suc (i + k) ≡ i + (k + 1) = omega arith in
        record {
          few = omega arith;
          counted = s.counted ∙ ap (λ (l : List Point). k + common equal (drop (i + k) t) l) next_is
              ∙ sums k _ _ (stands_there w chain g.two g.chain_whole (i + k) next_point behind (ap (number_stands chain ((i + k) * w)) point_is ∙ e))
              ∙ ap (λ (j : ℕ). k + 1 + common equal (drop j t) behind) f;
        }
      where
        sums : (n a b : ℕ) → a ≡ suc b → n + a ≡ n + 1 + b
        sums n a b e = omega arith

    pub stretch_stop : number_stands chain ((i + k) * w) read ≡ false → k ≡ alike_at t best count i
    stretch_stop e =
        let z = stands_not w chain g.two g.chain_whole (i + k) next_point behind (ap (number_stands chain ((i + k) * w)) point_is ∙ e) in
        let c = s.counted ∙ ap (λ (l : List Point). k + common equal (drop (i + k) t) l) next_is in
        omega (arith, c, z)

  pub stretch_end : (k : ℕ) → Stretching w chain i best count k → count ≤ k → k ≡ alike_at t best count i
  stretch_end k s h =
      let e : count - k ≡ 0 = omega arith in
      let c = s.counted ∙ ap (λ (j : ℕ). k + common equal (drop (i + k) t) (take j (drop (best + k) t))) e in
      omega (arith, c, common_none equal (drop (i + k) t))

-- ---- by their values

map_take : (n : ℕ) (l : List Point) → values (take n l) ≡ take n (values l)
map_take zero l = refl
map_take (suc n) [] = refl
map_take (suc n) (p ∷ l) = ap {B = List (ℕ × ℕ)} (λ (v : List (ℕ × ℕ)). value p ∷ v) (map_take n l)

map_drop : (i : ℕ) (l : List Point) → values (drop i l) ≡ drop i (values l)
map_drop zero l = refl
map_drop (suc i) [] = refl
map_drop (suc i) (p ∷ l) = map_drop i l

pub alike_values : (t : List Point) (best n i : ℕ) → Each Number (take n (drop best t))
    → alike_at t best n i ≡ common same (drop i (values t)) (take n (drop best (values t)))
unfolding alike_at
alike_values t best n i a =
    common_same equal same value value Number equal_value (drop i t) (take n (drop best t)) (λ j h d. each_get_d Number (take n (drop best t)) j d a h)
    ∙ ap₂ (common same) (map_drop i t) (map_take n (drop best t) ∙ ap (take n) (map_drop best t))

-- ---- what is known from places before

abbrev Value : Type 0
Value = ℕ × ℕ

-- the points from i on up to where those at `low` stand
module _ (t : List Value) (best m low d r : ℕ) where
  abbrev p : List Value
  p = take m (drop best t)

  begin_alike : common same (drop low t) p ≡ d + r → take r (drop (low + d) t) ≡ take r (drop (best + d) t)
  begin_alike e =
      let b : d + r ≤ m = omega (arith, e, common_right same (drop low t) p, length-take m (drop best t)) in
      let a : take (d + r) (drop low t) ≡ take (d + r) (drop best t) =
      ap (λ (n : ℕ). take n (drop low t)) (sym e) ∙ common_take same one self (drop low t) p ∙ ap (λ (n : ℕ). take n p) e ∙ take-take (d + r) m (drop best t) b in
      ap (take r) (sym (drop-drop d low t)) ∙ sym (take_drop d r (drop low t)) ∙ ap (drop d) a ∙ take_drop d r (drop best t) ∙ ap (take r) (drop-drop d best t)

module _ (w : ℕ) (chain near : List ℕ) (s : Scan) (last i : ℕ) (g : Known w chain near s last) (e : i ≡ suc last) (h : i < s.high) where
  abbrev points_of_lem : List Point
  points_of_lem = points w chain

  -- the place `low` lies behind the best and before i
  low_there : s.best < s.low
  low_there =
      elim (ℕ_discrete s.low s.best) [
        | yes q ↦ absurd (omega (arith, g.low_best q, g.best_before))
        | no q ↦ apart s.low s.best q g.low_behind
      ]
    where
      apart : (a b : ℕ) → (a ≡ b → ⊥) → b ≤ a → b < a
      apart a b q l = elim (native.Mathlib.Decide.dec_lt b a) [ yes y ↦ y | no n ↦ absurd (q (omega arith)) ]

  pub low_before : s.low < i
  low_before = omega (arith, g.low_before)

  abbrev d : ℕ
  d = i - s.low

  abbrev known : ℕ
  known = get_or near d 0

  known_is : known ≡ alike_at points_of_lem s.best s.reached.points (s.best + d)
  known_is = g.table d (omega (arith, low_before)) (omega (arith, low_before, low_there))

  pub known_small : known < far
  known_small = omega (arith, known_is, alike_right points_of_lem s.best s.reached.points (s.best + d), g.short)

  alike_begin : take (s.high - i) (drop i (values points_of_lem)) ≡ take (s.high - i) (drop (s.best + d) (values points_of_lem))
  alike_begin =
      let q : s.low + d ≡ i = omega (arith, low_before) in
      ap (λ (j : ℕ). take (s.high - i) (drop j (values points_of_lem))) (sym q)
      ∙ begin_alike (values points_of_lem) s.best s.reached.points s.low d (s.high - i)
      (sym (alike_values points_of_lem s.best s.reached.points s.low g.best_numbers)
      ∙ sums s.high s.low i _ (g.high_is low_there) low_before h)
    where
      sums : (a l i x : ℕ) → a ≡ l + x → l < i → i < a → x ≡ i - l + (a - i)
      sums a l i x e b c = omega arith

  pub known_less : known < s.high - i → known ≡ alike_at points_of_lem s.best s.reached.points i
  known_less b =
      known_is
      ∙ alike_values points_of_lem s.best s.reached.points (s.best + d) g.best_numbers
      ∙ sym
      (alike_less same one self (s.high - i) (drop i (values points_of_lem)) (drop (s.best + d) (values points_of_lem)) (take s.reached.points (drop s.best (values points_of_lem))) alike_begin
      (subst (λ (n : ℕ). n < s.high - i) (known_is ∙ alike_values points_of_lem s.best s.reached.points (s.best + d) g.best_numbers) b))
      ∙ sym (alike_values points_of_lem s.best s.reached.points i g.best_numbers)

  pub known_all : s.high - i ≤ known → s.high - i ≤ alike_at points_of_lem s.best s.reached.points i
  known_all b =
      subst (λ (n : ℕ). s.high - i ≤ n) (sym (alike_values points_of_lem s.best s.reached.points i g.best_numbers))
      (alike_all same one self (s.high - i) (drop i (values points_of_lem)) (drop (s.best + d) (values points_of_lem)) (take s.reached.points (drop s.best (values points_of_lem))) alike_begin
      (subst (λ (n : ℕ). s.high - i ≤ n) (known_is ∙ alike_values points_of_lem s.best s.reached.points (s.best + d) g.best_numbers) b))
