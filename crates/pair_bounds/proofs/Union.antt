-- A union holds what either box holds: the lesser of two low ends is at or below both, and the greater of two high ends at or above both.
-- A union of boxes with finite ends has finite ends, and so have the box of one finite direction and EMPTY.
use mathlib.Core.Bool.{Bool, true, false, not, cond}
use Prim.Native.Nat.{ℕ}
use lib.Dec.{T}
use lib.Ieee.{Float, lt, le, is_nan}
use lib.Ieee.Scale.{finite}
use Rattle.float_order.proofs.Order.{trans, refl_le, lt_to_le, nlt_to_le, finite_num}
use Rattle.pair_bounds.specs.declared.Bounds.{Bounds}
use Rattle.pair_bounds.specs.Box.{least, greatest, empty_of, point_of, union_of, Sound, BoxHolds}

-- ---- the lesser and the greater of two
module _ (a b : Float) (p : T (not (is_nan a))) (q : T (not (is_nan b))) where
  pub least_left : T (le (least a b) a)
  unfolding least
  least_left = go (lt b a) (lt_to_le b a)
    where
      go : (t : Bool) → (T t → T (le b a)) → T (le (cond t b a) a)
      go true f = f tt
      go false f = refl_le a p

  pub least_right : T (le (least a b) b)
  unfolding least
  least_right = go (lt b a) (nlt_to_le b a q p)
    where
      go : (t : Bool) → (T (not t) → T (le a b)) → T (le (cond t b a) b)
      go true f = refl_le b q
      go false f = f tt

  pub greatest_left : T (le a (greatest a b))
  unfolding greatest
  greatest_left = go (lt a b) (lt_to_le a b)
    where
      go : (t : Bool) → (T t → T (le a b)) → T (le a (cond t b a))
      go true f = f tt
      go false f = refl_le a p

  pub greatest_right : T (le b (greatest a b))
  unfolding greatest
  greatest_right = go (lt a b) (nlt_to_le a b p q)
    where
      go : (t : Bool) → (T (not t) → T (le b a)) → T (le b (cond t b a))
      go true f = refl_le b q
      go false f = f tt

either_finite : (t : Bool) (a b : Float) → T (finite a) → T (finite b) → T (finite (cond t b a))
either_finite true a b p q = q
either_finite false a b p q = p

least_finite : (a b : Float) → T (finite a) → T (finite b) → T (finite (least a b))
unfolding least
least_finite a b p q = either_finite (lt b a) a b p q

greatest_finite : (a b : Float) → T (finite a) → T (finite b) → T (finite (greatest a b))
unfolding greatest
greatest_finite a b p q = either_finite (lt a b) a b p q

module _ (a b x : Float) (p : T (finite a)) (q : T (finite b)) where
  under_left : T (le a x) → T (le (least a b) x)
  under_left h = trans (least a b) a x (least_left a b (finite_num a p) (finite_num b q)) h

  under_right : T (le b x) → T (le (least a b) x)
  under_right h = trans (least a b) b x (least_right a b (finite_num a p) (finite_num b q)) h

  over_left : T (le x a) → T (le x (greatest a b))
  over_left h = trans x a (greatest a b) h (greatest_left a b (finite_num a p) (finite_num b q))

  over_right : T (le x b) → T (le x (greatest a b))
  over_right h = trans x b (greatest a b) h (greatest_right a b (finite_num a p) (finite_num b q))

-- ---- boxes

pub empty_sound : Sound empty_of
empty_sound = record { low_x_finite = tt; low_y_finite = tt; high_x_finite = tt; high_y_finite = tt }

pub point_sound : (x y : Float) (i : ℕ) → T (finite x) → T (finite y) → Sound (point_of x y i)
point_sound x y i p q = record { low_x_finite = p; low_y_finite = q; high_x_finite = p; high_y_finite = q }

pub point_holds : (x y : Float) (i : ℕ) → T (finite x) → T (finite y) → BoxHolds (point_of x y i) x y
point_holds x y i p q =
    let a = refl_le x (finite_num x p) in
    let b = refl_le y (finite_num y q) in
    record { from_low_x = a; to_high_x = a; from_low_y = b; to_high_y = b }

pub union_sound : (a b : Bounds) → Sound a → Sound b → Sound (union_of a b)
union_sound a b p q =
    record {
      low_x_finite = least_finite _ _ p.low_x_finite q.low_x_finite;
      low_y_finite = least_finite _ _ p.low_y_finite q.low_y_finite;
      high_x_finite = greatest_finite _ _ p.high_x_finite q.high_x_finite;
      high_y_finite = greatest_finite _ _ p.high_y_finite q.high_y_finite;
    }

module _ (a b : Bounds) (p : Sound a) (q : Sound b) (x y : Float) where
  pub union_left : BoxHolds a x y → BoxHolds (union_of a b) x y
  union_left w =
      record {
        from_low_x = under_left a.low_x b.low_x x p.low_x_finite q.low_x_finite w.from_low_x;
        to_high_x = over_left a.high_x b.high_x x p.high_x_finite q.high_x_finite w.to_high_x;
        from_low_y = under_left a.low_y b.low_y y p.low_y_finite q.low_y_finite w.from_low_y;
        to_high_y = over_left a.high_y b.high_y y p.high_y_finite q.high_y_finite w.to_high_y;
      }

  pub union_right : BoxHolds b x y → BoxHolds (union_of a b) x y
  union_right w =
      record {
        from_low_x = under_right a.low_x b.low_x x p.low_x_finite q.low_x_finite w.from_low_x;
        to_high_x = over_right a.high_x b.high_x x p.high_x_finite q.high_x_finite w.to_high_x;
        from_low_y = under_right a.low_y b.low_y y p.low_y_finite q.low_y_finite w.from_low_y;
        to_high_y = over_right a.high_y b.high_y y p.high_y_finite q.high_y_finite w.to_high_y;
      }
