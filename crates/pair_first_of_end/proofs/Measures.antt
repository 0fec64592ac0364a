-- What a walk along a row relies on. A direction of two numbers stands in the workspace as two words that are no NaN's. The key of two directions is that of
-- their measure. A dot product that is above a measure below 1 stays above it once it is clamped, and no measure is below -1.
use mathlib.Core.Path.{◌≡◌, refl, sym, ap, ap₂, ◌∙◌, subst}
use mathlib.Core.Bool.{Bool, true, false, not, ◌&&◌, ◌||◌, cond, or-true}
use mathlib.Core.Logic.{◌⊎◌, inl, inr}
use mathlib.Core.List.{List}
use Rattle.std.specs.Prelude.{Option, Some, None}
use Prim.Native.Nat.{ℕ, ◌+◌, ◌*◌, ◌≤◌, ◌<◌}
use native.Mathlib.Omega.{arith}
use lib.Dec.{T, eqb}
use lib.Ieee.{Float, nan, inf, fin, binary64, add, mul, lt, eq, le, is_nan, fits, nan_bits}
use lib.Ieee.Bits.{nan_bits_is}
use lib.ListN.{get_or}
use borrow.Author.Tests.{eqb-true, leb-true}
use Rattle.rules.specs.Answers.{Direction}
use Rattle.rules.specs.Answers.{Absent, Toward}
use Rattle.rules.specs.Plane.{float, unity, minus_unity, clamp, dot, measure}
use Rattle.rules.specs.Layout.{given}
use Rattle.float_order.specs.Key.{key_nan, key}
use Rattle.float_order.proofs.Order.{lt_to_le, trans, antisymm, bottom}
use Rattle.float_order.proofs.Keys.{nan_or_num, key_le_is, key_most}
use Rattle.float_order.proofs.Dot.{measure_fits, clamp_mono, clamp_num}
use Rattle.pair_laws.specs.Ends.{key_of}
use Rattle.pair_laws.proofs.Order.{two, tf, and_left, and_right}
use Rattle.pair_ends.specs.Ends.{direction_at}
use Rattle.pair_first_of_end.specs.Near.{numbered, dot_of, measure_of, reaches_to, below_of, closer_to}
use Rattle.pair_first_of_end.specs.declared.Near.{Near}

-- a test as a fact, and a fact as a test
pub holds : (b : Bool) → T b → b ≡ true
holds true h = refl
holds false h = absurd h

pub held : {b : Bool} → b ≡ true → T b
held e = subst T (sym e) tt

three_true : (a b c : Bool) → (a && (b && c)) ≡ true → (a ≡ true) × (b ≡ true) × (c ≡ true)
three_true a b c h = (and_left a (b && c) h, and_left b c (and_right a (b && c) h), and_right b c (and_right a (b && c) h))

-- ---- directions of two numbers

given_numbered : (mark : ℕ) (x y : Float) → numbered (given mark x y) ≡ (eqb mark 1 && (not (is_nan x) && not (is_nan y)))
unfolding given numbered
given_numbered mark x y = go (eqb mark 1)
  where
    go : (t : Bool) → numbered (elim t [ true ↦ Toward x y | false ↦ Absent ]) ≡ (t && (not (is_nan x) && not (is_nan y)))
    go true = refl
    go false = refl

module _ (w : List ℕ) (d e : ℕ) where
  pub numbered_is : numbered (direction_at w d e)
      ≡ (eqb (get_or w e 0) 1 && (not (is_nan (float (get_or w (d + e * 2) 0))) && not (is_nan (float (get_or w (d + e * 2 + 1) 0)))))
  unfolding direction_at
  numbered_is = given_numbered (get_or w e 0) (float (get_or w (d + e * 2) 0)) (float (get_or w (d + e * 2 + 1) 0))

  module _ (h : numbered (direction_at w d e) ≡ true) where
    parts : (eqb (get_or w e 0) 1 ≡ true) × (not (is_nan (float (get_or w (d + e * 2) 0))) ≡ true) × (not (is_nan (float (get_or w (d + e * 2 + 1) 0))) ≡ true)
    parts = three_true (eqb (get_or w e 0) 1) (not (is_nan (float (get_or w (d + e * 2) 0)))) (not (is_nan (float (get_or w (d + e * 2 + 1) 0)))) (sym numbered_is ∙ h)

    pub numbered_mark : get_or w e 0 ≡ 1
    numbered_mark = eqb-true (get_or w e 0) 1 parts.0

    pub numbered_x : T (not (nan_bits binary64 (get_or w (d + e * 2) 0)))
    numbered_x = held (ap not (nan_bits_is binary64 (get_or w (d + e * 2) 0)) ∙ parts.1)

    pub numbered_y : T (not (nan_bits binary64 (get_or w (d + e * 2 + 1) 0)))
    numbered_y = held (ap not (nan_bits_is binary64 (get_or w (d + e * 2 + 1) 0)) ∙ parts.2)

-- ---- measures

nan_key : key nan ≡ key_nan
unfolding key is_nan
nan_key = refl

pub measure_of_fits : (a b : Direction) → T (fits binary64 (measure_of a b))
unfolding measure_of measure fits lt
measure_of_fits Absent b = tt
measure_of_fits (Toward ax ay) Absent = tt
measure_of_fits (Toward ax ay) (Toward bx by) = measure_fits ax ay bx by

pub key_of_measure : (a b : Direction) → key_of a b ≡ key (measure_of a b)
unfolding key_of measure_of measure is_nan lt
key_of_measure Absent b = refl
key_of_measure (Toward ax ay) Absent = refl
key_of_measure (Toward ax ay) (Toward bx by) = refl

pub measure_is : {a b : Direction} {x y : Float × Float} → a ≡ Some x → b ≡ Some y → measure x.0 x.1 y.0 y.1 ≡ measure_of a b
unfolding measure measure_of
measure_is {a} {b} {x} {y} p q = sym (ap₂ measure_of p q)

not_below : (x y : Float) → le x y ≡ false → lt x y ≡ false
not_below x y h = go (two (lt x y))
  where
    go : (lt x y ≡ true) ⊎ (lt x y ≡ false) → lt x y ≡ false
    go (inl e) = absurd (tf (holds (le x y) (lt_to_le x y (held e))) h)
    go (inr e) = e

-- where a measure isn't above 1, what is at or below it once it is clamped reaches it
pub reach : (s m : Float) → T (le m unity) → le (clamp s) m ≡ true → reaches_to s m ≡ true
unfolding clamp reaches_to
reach s m top h = go (lt s minus_unity) (lt unity s) refl refl h
  where
    by_left : le s m ≡ true → (le s m || eq m unity) ≡ true
    by_left e = rw e

    by_right : eq m unity ≡ true → (le s m || eq m unity) ≡ true
    by_right e = rw e (or-true (le s m))

    go : (p q : Bool) → lt s minus_unity ≡ p → lt unity s ≡ q → le (cond p minus_unity (cond q unity s)) m ≡ true → (le s m || eq m unity) ≡ true
    go true q e f h = by_left (holds (le s m) (trans s minus_unity m (lt_to_le s minus_unity (held e)) (held h)))
    go false true e f h = by_right (holds (eq m unity) (antisymm m unity top (held h)))
    go false false e f h = by_left h

-- a direction whose dot product is out of reach isn't nearer
pub out_of_reach : (near : Near) (ax ay bx by : Float) → T (le near.measure unity) → reaches_to (dot ax ay bx by) near.measure ≡ false
    → false ≡ closer_to near (measure ax ay bx by)
unfolding measure below_of
out_of_reach near ax ay bx by top h = go (dot ax ay bx by) near.partner h (two (le (clamp (dot ax ay bx by)) near.measure))
  where
    go : (s : Float) (t : Option ℕ) → reaches_to s near.measure ≡ false → (le (clamp s) near.measure ≡ true) ⊎ (le (clamp s) near.measure ≡ false)
        → false ≡ below_of t (clamp s) near.measure
    go s t h (inl e) = absurd (tf (reach s near.measure top e) h)
    go s None h (inr e) = sym e
    go s (Some j) h (inr e) = sym (not_below (clamp s) near.measure e)

-- no measure is below -1
pub least_measure : (m : Float) → T (fits binary64 m) → le m minus_unity ≡ true → (a b : Direction) → key m ≤ key (measure_of a b)
unfolding measure_of lt
least_measure m f h a b = go (nan_or_num (measure_of a b))
  where
    low : T (not (is_nan (measure_of a b))) → T (le minus_unity (measure_of a b))
    low n = clamp_mono (inf true) (dot_of a b) (bottom (dot_of a b) (clamp_num (dot_of a b) n))

    go : (measure_of a b ≡ nan) ⊎ T (not (is_nan (measure_of a b))) → key m ≤ key (measure_of a b)
    go (inl e) = rw (e, nan_key) (key_most m f)
    go (inr n) =
        leb-true (key m) (key (measure_of a b))
        (sym (key_le_is m (measure_of a b) f (measure_of_fits a b) n) ∙ holds (le m (measure_of a b)) (trans m minus_unity (measure_of a b) (held h) (low n)))

-- ---- a NaN spoils a measure, so that a pair with a key below a NaN's is of two directions of two numbers

add_numbers : (x y : Float) → T (not (is_nan (add binary64 x y))) → T (not (is_nan x)) × T (not (is_nan y))
unfolding add is_nan
add_numbers nan y h = absurd h
add_numbers (inf s) nan h = absurd h
add_numbers (inf s) (inf t) h = (tt, tt)
add_numbers (inf s) (fin t n f) h = (tt, tt)
add_numbers (fin s m e) nan h = absurd h
add_numbers (fin s m e) (inf t) h = (tt, tt)
add_numbers (fin s m e) (fin t n f) h = (tt, tt)

mul_numbers : (x y : Float) → T (not (is_nan (mul binary64 x y))) → T (not (is_nan x)) × T (not (is_nan y))
unfolding mul is_nan
mul_numbers nan y h = absurd h
mul_numbers (inf s) nan h = absurd h
mul_numbers (inf s) (inf t) h = (tt, tt)
mul_numbers (inf s) (fin t n f) h = (tt, tt)
mul_numbers (fin s m e) nan h = absurd h
mul_numbers (fin s m e) (inf t) h = (tt, tt)
mul_numbers (fin s m e) (fin t n f) h = (tt, tt)

number_of : (x : Float) → key x < key_nan → T (not (is_nan x))
number_of x h = go (nan_or_num x)
  where
    go : (x ≡ nan) ⊎ T (not (is_nan x)) → T (not (is_nan x))
    go (inl e) = absurd (omega (arith, ap key e ∙ nan_key))
    go (inr n) = n

both_true : (a b : Bool) → T a → T b → (a && b) ≡ true
both_true true true h k = refl
both_true true false h k = absurd k
both_true false b h k = absurd h

pub low_numbered : (a b : Direction) → key_of a b < key_nan → (numbered a ≡ true) × (numbered b ≡ true)
unfolding key_of numbered measure dot
low_numbered Absent b h = absurd (omega arith)
low_numbered (Toward ax ay) Absent h = absurd (omega arith)
low_numbered (Toward ax ay) (Toward bx by) h =
    let s = add_numbers (mul binary64 ax bx) (mul binary64 ay by) (clamp_num (dot ax ay bx by) (number_of (measure ax ay bx by) h)) in
    let x = mul_numbers ax bx s.0 in
    let y = mul_numbers ay by s.1 in
    (both_true (not (is_nan ax)) (not (is_nan ay)) x.0 y.0, both_true (not (is_nan bx)) (not (is_nan by)) x.1 y.1)
