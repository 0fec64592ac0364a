-- The order of floats of any sign, infinities included: `le` is total and transitive on the values that are no NaN, and `lt` and `eq` follow from it.
-- A finite x is (plus x - less x) / den x, one of plus x and less x being 0; the order is that of the cross products. Nothing asks that a value fits a format.
use mathlib.Core.Path.{◌≡◌, refl, sym, ap, ap₂, ◌∙◌, subst}
use mathlib.Core.Logic.{◌⊎◌, inl, inr}
use Prim.Native.Nat.{ℕ, ◌+◌, ◌*◌, ◌≤◌, ◌<◌}
use native.Mathlib.Nat.{eq-or-lt_of_le, mul_comm, mul_assoc, mul_left_comm, add-mul, zero-mul, mul-le-mul_right, le_of_mul-le-mul_right}
use native.Mathlib.Omega.{arith}
use mathlib.Core.Bool.{Bool, true, false, not, ◌&&◌, ◌||◌, cond}
use lib.IntN.{ℤ}
use lib.Dec.{T, leb, ltb, eqb, leb→le, le→leb, nleb→lt, ltb→lt, lt→ltb, eqb→eq, not_T, T_not}
use lib.Ieee.{Float, nan, inf, fin, up, down, below, level, lt, eq, le, is_nan}
use lib.Ieee.Fits.{and_l, and_r, and_i, eq→eqb}
use lib.Ieee.Scale.{finite}
use lib.Ieee.Positive.{den, den_pos}

-- ---- tests
pub bool_ext : (a b : Bool) → (T a → T b) → (T b → T a) → a ≡ b
bool_ext true true f g = refl
bool_ext true false f g = absurd (f tt)
bool_ext false true f g = absurd (g tt)
bool_ext false false f g = refl

pub or_split : (a b : Bool) → T (a || b) → T a ⊎ T b
or_split true b t = inl tt
or_split false b t = inr t

pub or_l : (a b : Bool) → T a → T (a || b)
or_l true b t = tt
or_l false b t = absurd t

pub or_r : (a b : Bool) → T b → T (a || b)
or_r true b t = tt
or_r false b t = t

-- ---- ±a and ±b as differences: the sign true puts the number on the other side
below_is : (s : Bool) (a : ℕ) (t : Bool) (b : ℕ) → below s a t b ≡ ltb (cond s 0 a + cond t b 0) (cond t 0 b + cond s a 0)
below_is false a false b = bool_ext _ _ (λ h. omega (arith, ltb→lt, lt→ltb)) (λ h. omega (arith, ltb→lt, lt→ltb))
below_is false a true b = bool_ext _ _ (λ h. absurd h) (λ h. omega (arith, ltb→lt))
below_is true a false b = bool_ext _ _ (λ h. omega (arith, ltb→lt, lt→ltb)) (λ h. omega (arith, ltb→lt, lt→ltb))
below_is true a true b = bool_ext _ _ (λ h. omega (arith, ltb→lt, lt→ltb)) (λ h. omega (arith, ltb→lt, lt→ltb))

level_is : (s : Bool) (a : ℕ) (t : Bool) (b : ℕ) → level s a t b ≡ eqb (cond s 0 a + cond t b 0) (cond t 0 b + cond s a 0)
level_is false a false b =
    bool_ext _ _ (λ h. let e : a ≡ b = eqb→eq a b (and_l (eqb a b) true h) in omega (arith, eq→eqb)) (λ h. let e : a ≡ b = omega (arith, eqb→eq) in and_i (eqb a b) true (eq→eqb e) tt)
level_is false a true b =
    bool_ext _ _ (λ h. let e : a ≡ b =
    eqb→eq a b (and_l (eqb a b) (eqb a 0) h) in let z : a ≡ 0 = eqb→eq a 0 (and_r (eqb a b) (eqb a 0) h) in omega (arith, eq→eqb))
    (λ h. and_i (eqb a b) (eqb a 0) (omega (arith, eqb→eq, eq→eqb)) (omega (arith, eqb→eq, eq→eqb)))
level_is true a false b =
    bool_ext _ _ (λ h. let e : a ≡ b =
    eqb→eq a b (and_l (eqb a b) (eqb a 0) h) in let z : a ≡ 0 = eqb→eq a 0 (and_r (eqb a b) (eqb a 0) h) in omega (arith, eq→eqb))
    (λ h. and_i (eqb a b) (eqb a 0) (omega (arith, eqb→eq, eq→eqb)) (omega (arith, eqb→eq, eq→eqb)))
level_is true a true b =
    bool_ext _ _ (λ h. let e : a ≡ b = eqb→eq a b (and_l (eqb a b) true h) in omega (arith, eq→eqb)) (λ h. let e : a ≡ b = omega (arith, eqb→eq) in and_i (eqb a b) true (eq→eqb e) tt)

-- ---- a finite value as (plus - less) / den
abbrev pub plus : Float → ℕ
plus nan = 0
plus (inf s) = 0
plus (fin s m e) = cond s 0 (m * up e)

abbrev pub less : Float → ℕ
less nan = 0
less (inf s) = 0
less (fin s m e) = cond s (m * up e) 0

-- x ≤ y is left x y ≤ left y x
abbrev pub left : Float → Float → ℕ
left x y = plus x * den y + less y * den x

cond_mul : (s : Bool) (a b c : ℕ) → cond s a b * c ≡ cond s (a * c) (b * c)
cond_mul true a b c = refl
cond_mul false a b c = refl

left_is : (s : Bool) (m : ℕ) (e : ℤ) (t : Bool) (n : ℕ) (d : ℤ)
    → left (fin s m e) (fin t n d) ≡ cond s 0 (m * up e * down d) + cond t (n * up d * down e) 0
left_is s m e t n d = simp (cond_mul, zero-mul)

right_is : (s : Bool) (m : ℕ) (e : ℤ) (t : Bool) (n : ℕ) (d : ℤ)
    → left (fin t n d) (fin s m e) ≡ cond t 0 (n * up d * down e) + cond s (m * up e * down d) 0
right_is s m e t n d = simp (cond_mul, zero-mul)

pub fin_lt : (x y : Float) → T (finite x) → T (finite y) → lt x y ≡ ltb (left x y) (left y x)
unfolding lt
fin_lt nan y p q = absurd p
fin_lt (inf s) y p q = absurd p
fin_lt (fin s m e) nan p q = absurd q
fin_lt (fin s m e) (inf t) p q = absurd q
fin_lt (fin s m e) (fin t n d) p q = below_is s (m * up e * down d) t (n * up d * down e) ∙ sym (ap₂ ltb (left_is s m e t n d) (right_is s m e t n d))

pub fin_eq : (x y : Float) → T (finite x) → T (finite y) → eq x y ≡ eqb (left x y) (left y x)
unfolding eq
fin_eq nan y p q = absurd p
fin_eq (inf s) y p q = absurd p
fin_eq (fin s m e) nan p q = absurd q
fin_eq (fin s m e) (inf t) p q = absurd q
fin_eq (fin s m e) (fin t n d) p q = level_is s (m * up e * down d) t (n * up d * down e) ∙ sym (ap₂ eqb (left_is s m e t n d) (right_is s m e t n d))

leb_is : (a b : ℕ) → (ltb a b || eqb a b) ≡ leb a b
leb_is a b = bool_ext _ _ (λ h. le→leb a b (go (or_split (ltb a b) (eqb a b) h))) (λ h. back (eq-or-lt_of_le (leb→le a b h)))
  where
    go : T (ltb a b) ⊎ T (eqb a b) → a ≤ b
    go (inl h) = omega (arith, ltb→lt)
    go (inr h) = omega (arith, eqb→eq)

    back : (a ≡ b) ⊎ (a < b) → T (ltb a b || eqb a b)
    back (inl h) = or_r (ltb a b) (eqb a b) (eq→eqb h)
    back (inr h) = or_l (ltb a b) (eqb a b) (lt→ltb a b h)

le_def : (x y : Float) → le x y ≡ (lt x y || eq x y)
unfolding le
le_def x y = refl

pub fin_le : (x y : Float) → T (finite x) → T (finite y) → le x y ≡ leb (left x y) (left y x)
fin_le x y p q = le_def x y ∙ ap₂ ◌||◌ (fin_lt x y p q) (fin_eq x y p q) ∙ leb_is (left x y) (left y x)

pub le_to_left : (x y : Float) → T (finite x) → T (finite y) → T (le x y) → left x y ≤ left y x
le_to_left x y p q h = leb→le (left x y) (left y x) (subst (λ (b : Bool). T b) (fin_le x y p q) h)

pub left_to_le : (x y : Float) → T (finite x) → T (finite y) → left x y ≤ left y x → T (le x y)
left_to_le x y p q h = subst (λ (b : Bool). T b) (sym (fin_le x y p q)) (le→leb (left x y) (left y x) h)

-- three fractions of any sign
cross_trans : (a b c d e f p q r : ℕ) → 0 < q → a * q + d * p ≤ c * p + b * q → c * r + f * q ≤ e * q + d * r → a * r + f * p ≤ e * p + b * r
cross_trans a b c d e f p q r Q h k =
    let h' = simp (add-mul, mul_assoc, mul_comm, mul_left_comm) at (mul-le-mul_right r h) in
    let k' = simp (add-mul, mul_assoc, mul_comm, mul_left_comm) at (mul-le-mul_right p k) in
    le_of_mul-le-mul_right (simp (add-mul, mul_assoc, mul_comm, mul_left_comm) (omega arith)) Q

-- ---- the ends
pub bottom : (x : Float) → T (not (is_nan x)) → T (le (inf true) x)
unfolding le is_nan
bottom nan p = absurd p
bottom (inf true) p = tt
bottom (inf false) p = tt
bottom (fin s m e) p = tt

pub top : (x : Float) → T (not (is_nan x)) → T (le x (inf false))
unfolding le is_nan
top nan p = absurd p
top (inf true) p = tt
top (inf false) p = tt
top (fin s m e) p = tt

pub at_top : (x : Float) → T (le (inf false) x) → x ≡ inf false
unfolding le
at_top nan h = absurd h
at_top (inf true) h = absurd h
at_top (inf false) h = refl
at_top (fin s m e) h = absurd h

pub at_bottom : (x : Float) → T (le x (inf true)) → x ≡ inf true
unfolding le
at_bottom nan h = absurd h
at_bottom (inf true) h = refl
at_bottom (inf false) h = absurd h
at_bottom (fin s m e) h = absurd h

-- ---- what compares is no NaN
pub le_num_l : (x y : Float) → T (le x y) → T (not (is_nan x))
unfolding le is_nan
le_num_l nan y h = h
le_num_l (inf s) y h = tt
le_num_l (fin s m e) y h = tt

pub le_num_r : (x y : Float) → T (le x y) → T (not (is_nan y))
unfolding le is_nan
le_num_r nan y h = absurd h
le_num_r (inf s) nan h = h
le_num_r (inf s) (inf t) h = tt
le_num_r (inf s) (fin t n d) h = tt
le_num_r (fin s m e) nan h = h
le_num_r (fin s m e) (inf t) h = tt
le_num_r (fin s m e) (fin t n d) h = tt

pub finite_num : (x : Float) → T (finite x) → T (not (is_nan x))
unfolding is_nan
finite_num nan p = p
finite_num (inf s) p = tt
finite_num (fin s m e) p = tt

-- ---- `le` is transitive and reflexive; `lt` is its reverse's negation, and `eq` is both ways
fin_trans : (x y z : Float) → T (finite x) → T (finite y) → T (finite z) → T (le x y) → T (le y z) → T (le x z)
fin_trans x y z p q r h k =
    left_to_le x z p r (cross_trans (plus x) (less x) (plus y) (less y) (plus z) (less z) (den x) (den y) (den z) (den_pos y) (le_to_left x y p q h) (le_to_left y z q r k))

pub trans : (x y z : Float) → T (le x y) → T (le y z) → T (le x z)
unfolding is_nan le
trans nan y z h k = absurd h
trans (inf true) y z h k = bottom z (le_num_r y z k)
trans (inf false) y z h k = subst (λ (v : Float). T (le v z)) (at_top y h) k
trans (fin s m e) nan z h k = absurd h
trans (fin s m e) (inf true) z h k = absurd h
trans (fin s m e) (inf false) z h k = subst (λ (v : Float). T (le (fin s m e) v)) (sym (at_top z k)) h
trans (fin s m e) (fin t n d) nan h k = absurd k
trans (fin s m e) (fin t n d) (inf true) h k = absurd k
trans (fin s m e) (fin t n d) (inf false) h k = tt
trans (fin s m e) (fin t n d) (fin u l g) h k = fin_trans (fin s m e) (fin t n d) (fin u l g) tt tt tt h k

pub ltb_not_leb : (a b : ℕ) → ltb a b ≡ not (leb b a)
ltb_not_leb a b = bool_ext _ _ (λ h. not_T (leb b a) (λ k. omega (arith, ltb→lt, leb→le))) (λ h. lt→ltb a b (nleb→lt b a h))

pub lt_is : (x y : Float) → T (not (is_nan x)) → T (not (is_nan y)) → lt x y ≡ not (le y x)
unfolding is_nan le
lt_is nan y p q = absurd p
lt_is (inf s) nan p q = absurd q
lt_is (inf true) (inf true) p q = refl
lt_is (inf true) (inf false) p q = refl
lt_is (inf false) (inf true) p q = refl
lt_is (inf false) (inf false) p q = refl
lt_is (inf true) (fin t n d) p q = refl
lt_is (inf false) (fin t n d) p q = refl
lt_is (fin s m e) nan p q = absurd q
lt_is (fin s m e) (inf true) p q = refl
lt_is (fin s m e) (inf false) p q = refl
lt_is (fin s m e) (fin t n d) p q =
    fin_lt (fin s m e) (fin t n d) tt tt ∙ ltb_not_leb (left (fin s m e) (fin t n d)) (left (fin t n d) (fin s m e)) ∙ ap not (sym (fin_le (fin t n d) (fin s m e) tt tt))

pub eqb_both : (a b : ℕ) → eqb a b ≡ (leb a b && leb b a)
eqb_both a b = bool_ext _ _ (λ h. let e : a ≡ b = eqb→eq a b h in and_i (leb a b) (leb b a) (omega (arith, le→leb)) (omega (arith, le→leb)))
    (λ h. let u = and_l (leb a b) (leb b a) h in let v = and_r (leb a b) (leb b a) h in omega (arith, leb→le, eq→eqb))

pub eq_is : (x y : Float) → eq x y ≡ (le x y && le y x)
unfolding le
eq_is nan y = refl
eq_is (inf s) nan = refl
eq_is (inf true) (inf true) = refl
eq_is (inf true) (inf false) = refl
eq_is (inf false) (inf true) = refl
eq_is (inf false) (inf false) = refl
eq_is (inf true) (fin t n d) = refl
eq_is (inf false) (fin t n d) = refl
eq_is (fin s m e) nan = refl
eq_is (fin s m e) (inf true) = refl
eq_is (fin s m e) (inf false) = refl
eq_is (fin s m e) (fin t n d) =
    fin_eq (fin s m e) (fin t n d) tt tt ∙ eqb_both (left (fin s m e) (fin t n d)) (left (fin t n d) (fin s m e)) ∙ sym (ap₂ ◌&&◌ (fin_le (fin s m e) (fin t n d) tt tt) (fin_le (fin t n d) (fin s m e) tt tt))

-- ---- what follows, as a proof uses it
module _ (x y : Float) where
  pub lt_to_le : T (lt x y) → T (le x y)
  unfolding le
  lt_to_le h = or_l (lt x y) (eq x y) h

  pub eq_to_le : T (eq x y) → T (le x y)
  unfolding le
  eq_to_le h = or_r (lt x y) (eq x y) h

  pub antisymm : T (le x y) → T (le y x) → T (eq x y)
  antisymm h k = subst (λ (b : Bool). T b) (sym (eq_is x y)) (and_i (le x y) (le y x) h k)

  -- a test that failed, of two numbers
  pub nlt_to_le : T (not (is_nan x)) → T (not (is_nan y)) → T (not (lt x y)) → T (le y x)
  nlt_to_le p q h = not_not (le y x) (subst (λ (b : Bool). T (not b)) (lt_is x y p q) h)
    where
      not_not : (b : Bool) → T (not (not b)) → T b
      not_not true t = tt
      not_not false t = t

  pub nle_to_lt : T (not (is_nan x)) → T (not (is_nan y)) → T (not (le x y)) → T (lt y x)
  nle_to_lt p q h = subst (λ (b : Bool). T b) (sym (lt_is y x q p)) h

  -- no test of a NaN passes, so these ask nothing
  pub lt_to_nle : T (lt x y) → T (not (le y x))
  lt_to_nle h = subst (λ (b : Bool). T b) (lt_is x y (le_num_l x y (lt_to_le h)) (le_num_r x y (lt_to_le h))) h

pub refl_le : (x : Float) → T (not (is_nan x)) → T (le x x)
refl_le x p = go (lt x x) (λ h. lt_to_le x x h) (λ h. nlt_to_le x x p p h)
  where
    go : (b : Bool) → (T b → T (le x x)) → (T (not b) → T (le x x)) → T (le x x)
    go true f g = f tt
    go false f g = g tt

pub total : (x y : Float) → T (not (is_nan x)) → T (not (is_nan y)) → T (le x y) ⊎ T (le y x)
total x y p q = go (le x y) (λ h. lt_to_le y x (nle_to_lt x y p q h))
  where
    go : (b : Bool) → (T (not b) → T (le y x)) → T b ⊎ T (le y x)
    go true g = inl tt
    go false g = inr (g tt)

pub lt_of_lt_of_le : (x y z : Float) → T (lt x y) → T (le y z) → T (lt x z)
lt_of_lt_of_le x y z h k =
    nle_to_lt z x (le_num_r y z k) (le_num_l x y (lt_to_le x y h)) (not_T (le z x) (λ (l : T (le z x)). T_not (le y x) (lt_to_nle x y h) (trans y z x k l)))

pub lt_of_le_of_lt : (x y z : Float) → T (le x y) → T (lt y z) → T (lt x z)
lt_of_le_of_lt x y z h k =
    nle_to_lt z x (le_num_r y z (lt_to_le y z k)) (le_num_l x y h) (not_T (le z x) (λ (l : T (le z x)). T_not (le z y) (lt_to_nle y z k) (trans z x y l h)))
