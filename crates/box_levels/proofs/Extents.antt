-- An extent has the values of a box: those of two joined are those of the box around both, and where none is a NaN the bits come back.
use Prim.Native.Nat.{ℕ, ◌<◌, ◌^◌}
use mathlib.Core.Path.{◌≡◌, refl, sym, ap, ap₂, subst, ◌∙◌}
use mathlib.Core.Bool.{Bool, true, false, not, cond}
use lib.Dec.{T}
use lib.Ieee.{Float, binary64, lt, nan_bits}
use lib.Ieee.Bits.{nan_bits_is, to_bits-of_bits}
use Rattle.rules.specs.declared.Box.{Box}
use Rattle.rules.specs.Plane.{Point, float}
use Rattle.rules.specs.Boxes.{lesser, greater, union, spot}
use Rattle.box_laws.specs.Sound.{Number, BoxSound}
use Rattle.box_laws.proofs.Unions.{union_sound}
use Rattle.box_levels.specs.declared.Extent.{Extent}
use Rattle.box_levels.specs.Extents.{lower, higher, joined, extent_of, boxed_of, Real, Boxed}

-- ---- by the comparison

module _ (a b : Float) where
  pub lower_second : lt b a ≡ true → b ≡ lower a b
  unfolding lower
  lower_second e = rw e

  pub lower_first : lt b a ≡ false → a ≡ lower a b
  unfolding lower
  lower_first e = rw e

  pub higher_second : lt a b ≡ true → b ≡ higher a b
  unfolding higher
  higher_second e = rw e

  pub higher_first : lt a b ≡ false → a ≡ higher a b
  unfolding higher
  higher_first e = rw e

-- ---- joined

value_of : (t : Bool) (a b : ℕ) → cond t (float b) (float a) ≡ float (cond t b a)
value_of true a b = refl
value_of false a b = refl

joined_is : (a b : Box) → joined (extent_of a) (extent_of b) ≡ extent_of (union a b)
unfolding joined lower higher union lesser greater
joined_is a b = λ i. record {
  least_x = value_of (lt (float b.least_x) (float a.least_x)) a.least_x b.least_x i;
  least_y = value_of (lt (float b.least_y) (float a.least_y)) a.least_y b.least_y i;
  greatest_x = value_of (lt (float a.greatest_x) (float b.greatest_x)) a.greatest_x b.greatest_x i;
  greatest_y = value_of (lt (float a.greatest_y) (float b.greatest_y)) a.greatest_y b.greatest_y i;
}

-- one of two small numbers is small
small : (t : Bool) (a b : ℕ) → a < 2 ^ 64 → b < 2 ^ 64 → cond t b a < 2 ^ 64
small true a b h k = k
small false a b h k = h

pub joined_boxed : {d e : Extent} {a b : Box} → Boxed d a → Boxed e b → Boxed (joined d e) (union a b)
unfolding union lesser greater
joined_boxed {a = a} {b = b} p q = record {
  is = ap₂ joined p.is q.is ∙ joined_is a b;
  low_x = small (lt (float b.least_x) (float a.least_x)) a.least_x b.least_x p.low_x q.low_x;
  from_low_y = small (lt (float b.least_y) (float a.least_y)) a.least_y b.least_y p.from_low_y q.from_low_y;
  to_high_x = small (lt (float a.greatest_x) (float b.greatest_x)) a.greatest_x b.greatest_x p.to_high_x q.to_high_x;
  to_high_y = small (lt (float a.greatest_y) (float b.greatest_y)) a.greatest_y b.greatest_y p.to_high_y q.to_high_y;
}

-- what a call answers, by what it was handed
pub boxed_around : {d e r : Extent} {a b : Box} → r ≡ joined d e → Boxed d a → Boxed e b → Boxed r (union a b)
boxed_around {a = a} {b = b} z p q = subst (λ (x : Extent). Boxed x (union a b)) (sym z) (joined_boxed p q)

-- ---- the bits

-- bits that are no NaN's, as `from_bits` asks for them
pub bits_real : (a : ℕ) → Number a → T (not (nan_bits binary64 a))
bits_real a h = subst (λ (t : Bool). T (not t)) (sym (nan_bits_is binary64 a)) h

pub real_of : {e : Extent} {b : Box} → Boxed e b → BoxSound b → Real e
real_of {e} {b} p s = subst Real (sym p.is) (record { low_x = s.low_x; from_low_y = s.from_low_y; to_high_x = s.to_high_x; to_high_y = s.to_high_y })

pub boxed_back : {e : Extent} {b : Box} → Boxed e b → BoxSound b → boxed_of e ≡ b
unfolding boxed_of
boxed_back {e} {b} p s =
    ap boxed_of p.is
    ∙ (λ i. record {
      least_x = to_bits-of_bits binary64 b.least_x p.low_x s.low_x i;
      least_y = to_bits-of_bits binary64 b.least_y p.from_low_y s.from_low_y i;
      greatest_x = to_bits-of_bits binary64 b.greatest_x p.to_high_x s.to_high_x i;
      greatest_y = to_bits-of_bits binary64 b.greatest_y p.to_high_y s.to_high_y i;
    })

-- x and y are all that the box of a point looks at
pub boxed_spot : {e : Extent} (p q : Point) → q.x ≡ p.x → q.y ≡ p.y → Boxed e (spot p) → Boxed e (spot q)
boxed_spot {e} p q h k b = subst (Boxed e) (sym (λ i. record { least_x = h i; least_y = k i; greatest_x = h i; greatest_y = k i })) b

-- two boxes without a NaN, joined: what may be stored, and what that is
module _ {d e r : Extent} {a b : Box} (z : r ≡ joined d e) (p : Boxed d a) (q : Boxed e b) (s : BoxSound a) (t : BoxSound b) where
  pub pair_real : Real r
  pair_real = real_of (boxed_around z p q) (union_sound s t)

  pub pair_back : boxed_of r ≡ union a b
  pair_back = boxed_back (boxed_around z p q) (union_sound s t)
