-- Products and sums of any sign keep the order. `Rounds f x P N c`: x is (P - N) / c rounded, a zero of either sign being a zero.
-- `mul_up`, `mul_down`: a product with a finite factor that is not, or is, below zero. `add_mono`: a sum, infinities included, where neither sum is a NaN.
-- Nothing asks that a value fits a format.
use mathlib.Core.Path.{◌≡◌, refl, sym, ap, ap₂, ◌∙◌, subst}
use mathlib.Core.Logic.{◌⊎◌, inl, inr}
use Prim.Native.Nat.{ℕ, zero, suc, ◌+◌, ◌-◌, ◌*◌, ◌^◌, ◌≤◌, ◌<◌}
use native.Mathlib.Nat.{le_trans, le_of_eq, mul_comm, mul_assoc, mul_left_comm, add_comm, add-mul, mul-add, zero-mul, mul-sub, mul-pos, mul-le-mul_left, mul-le-mul_right, eq_of_mul-eq-mul_right}
use native.Mathlib.Omega.{arith}
use mathlib.Core.Bool.{Bool, true, false, not, cond, true≢false, false≢true}
use lib.IntN.{ℤ}
use lib.Dec.{T, leb, ltb, eqb, ltb→lt, nltb→le}
use lib.Pow.{pow_pos}
use lib.Ieee.{Float, nan, inf, fin, Format, prec, emax, low, up, down, odd, units, round, neg, sum, add, sub, mul, lt, eq, le, is_nan, unlike}
use lib.Ieee.Fits.{down_pos, round_is}
use lib.Ieee.Exact.{HasValue, round_exact}
use lib.Ieee.Order.{round_mono}
use lib.Ieee.Scale.{finite}
use lib.Ieee.Positive.{den, den_pos}
use Rattle.rules.specs.Plane.{nought}
use Rattle.float_order.proofs.Order.{plus, less, left, fin_le, le_to_left, left_to_le, bottom, top, bool_ext, antisymm, refl_le}

-- ---- the negative side of `round` mirrors the other
odd_neg : (d q k l : ℕ) → odd d true q k l ≡ neg (odd d false q k l)
unfolding odd neg
odd_neg d zero k l = refl
odd_neg d (suc q) k l = refl

units_neg : (f : Format) (q k : ℕ) → units f true q k ≡ neg (units f false q k)
unfolding units
units_neg f q k = go (ltb (q * 2 ^ k) (2 ^ (low f + suc (emax f))))
  where
    go : (b : Bool) → cond b (odd (suc (prec f)) true q k (low f)) (inf true) ≡ neg (cond b (odd (suc (prec f)) false q k (low f)) (inf false))
    go true = odd_neg (suc (prec f)) q k (low f)
    go false = unfold neg in refl

pub round_neg : (f : Format) (a c : ℕ) → round f true a c ≡ neg (round f false a c)
round_neg f a c = round_is f true a c ∙ units_neg f _ _ ∙ ap neg (sym (round_is f false a c))

pub neg_le : (x y : Float) → le (neg x) (neg y) ≡ le y x
unfolding neg le
neg_le nan nan = refl
neg_le nan (inf t) = refl
neg_le nan (fin t n d) = refl
neg_le (inf s) nan = refl
neg_le (inf true) (inf true) = refl
neg_le (inf true) (inf false) = refl
neg_le (inf false) (inf true) = refl
neg_le (inf false) (inf false) = refl
neg_le (inf true) (fin t n d) = refl
neg_le (inf false) (fin t n d) = refl
neg_le (fin s m e) nan = refl
neg_le (fin s m e) (inf true) = refl
neg_le (fin s m e) (inf false) = refl
neg_le (fin s m e) (fin t n d) =
    fin_le (fin (not s) m e) (fin (not t) n d) tt tt ∙ ap₂ leb (side s m e t n d) (side t n d s m e) ∙ sym (fin_le (fin t n d) (fin s m e) tt tt)
  where
    side : (s : Bool) (m : ℕ) (e : ℤ) (t : Bool) (n : ℕ) (d : ℤ) → left (fin (not s) m e) (fin (not t) n d) ≡ left (fin t n d) (fin s m e)
    side true m e true n d = add_comm _ _
    side true m e false n d = add_comm _ _
    side false m e true n d = add_comm _ _
    side false m e false n d = add_comm _ _

-- not below zero, by its sign
abbrev upper : Float → Bool
upper nan = false
upper (inf s) = not s
upper (fin s m e) = not s

odd_upper : (d q k l : ℕ) → T (upper (odd d false q k l))
unfolding odd
odd_upper d zero k l = tt
odd_upper d (suc q) k l = tt

units_upper : (f : Format) (q k : ℕ) → T (upper (units f false q k))
unfolding units
units_upper f q k = go (ltb (q * 2 ^ k) (2 ^ (low f + suc (emax f))))
  where
    go : (b : Bool) → T (upper (cond b (odd (suc (prec f)) false q k (low f)) (inf false)))
    go true = odd_upper (suc (prec f)) q k (low f)
    go false = tt

round_upper : (f : Format) (a c : ℕ) → T (upper (round f false a c))
round_upper f a c = subst (λ (z : Float). T (upper z)) (sym (round_is f false a c)) (units_upper f _ _)

upper_le : (x y : Float) → T (upper x) → T (upper y) → T (le (neg x) y)
unfolding neg le
upper_le nan y p q = absurd p
upper_le (inf true) y p q = absurd p
upper_le (inf false) nan p q = absurd q
upper_le (inf false) (inf true) p q = absurd q
upper_le (inf false) (inf false) p q = tt
upper_le (inf false) (fin t n d) p q = tt
upper_le (fin true m e) y p q = absurd p
upper_le (fin false m e) nan p q = absurd q
upper_le (fin false m e) (inf true) p q = absurd q
upper_le (fin false m e) (inf false) p q = tt
upper_le (fin false m e) (fin true n d) p q = absurd q
upper_le (fin false m e) (fin false n d) p q = left_to_le (fin true m e) (fin false n d) tt tt (omega arith)

-- ---- both zero
zero_value : (f : Format) (s : Bool) (c : ℕ) → 0 < c → HasValue (round f s 0 c) s 0 c
zero_value f s c C =
    round_exact f s 0 c 0 0 C (pow_pos (prec f)) (subst (λ (z : ℕ). z < 2 ^ (low f + suc (emax f))) (sym (zero-mul 1)) (pow_pos (low f + suc (emax f)))) (omega (arith, zero-mul (2 ^ low f), zero-mul c))

zeros : (x y : Float) (c d : ℕ) → 0 < c → 0 < d → HasValue x false 0 c → HasValue y true 0 d → T (le x y)
zeros nan y c d C D p q = absurd p
zeros (inf s) y c d C D p q = absurd p
zeros (fin s m e) nan c d C D p q = absurd q
zeros (fin s m e) (inf t) c d C D p q = absurd q
zeros (fin true m e) (fin t n g) c d C D p q = absurd (true≢false p.0)
zeros (fin false m e) (fin false n g) c d C D p q = absurd (false≢true q.0)
zeros (fin false m e) (fin true n g) c d C D p q =
    let a : m * up e ≡ 0 = eq_of_mul-eq-mul_right c C (m * up e) 0 (p.1 ∙ zero-mul (down e) ∙ sym (zero-mul c)) in
    let b : n * up g ≡ 0 = eq_of_mul-eq-mul_right d D (n * up g) 0 (q.1 ∙ zero-mul (down g) ∙ sym (zero-mul d)) in
    left_to_le (fin false m e) (fin true n g) tt tt
    (omega (arith, ap (λ (z : ℕ). z * down g) a, ap (λ (z : ℕ). z * down e) b, zero-mul (down e), zero-mul (down g)))

-- ---- a rounded difference
abbrev pub Rounds : Format → Float → ℕ → ℕ → ℕ → Type 0
Rounds f x P N c = ((N ≤ P) × (x ≡ round f false (P - N) c)) ⊎ ((P ≤ N) × (x ≡ round f true (N - P) c))

pub sub_mul : (p n d : ℕ) → (p - n) * d ≡ p * d - n * d
sub_mul p n d = mul_comm (p - n) d ∙ mul-sub d p n ∙ ap₂ ◌-◌ (mul_comm d p) (mul_comm d n)

none : (a b d : ℕ) → 0 < d → a * d ≡ b * d → a - b ≡ 0
none a b d D h = let e : a ≡ b = eq_of_mul-eq-mul_right d D a b h in omega arith

pub rounds_mono : (f : Format) (x y : Float) (P N c Q M d : ℕ) → 0 < c → 0 < d → Rounds f x P N c → Rounds f y Q M d → P * d + M * c ≤ Q * c + N * d
    → T (le x y)
rounds_mono f x y P N c Q M d C D (inl u) (inl v) h =
    rw (u.1, v.1) (round_mono f (P - N) c (Q - M) d C D (omega (arith, sub_mul P N d, sub_mul Q M c)))
rounds_mono f x y P N c Q M d C D (inr u) (inr v) h =
    rw (u.1, v.1, round_neg f (N - P) c, round_neg f (M - Q) d, neg_le) (round_mono f (M - Q) d (N - P) c D C (omega (arith, sub_mul N P d, sub_mul M Q c)))
rounds_mono f x y P N c Q M d C D (inr u) (inl v) h =
    rw (u.1, v.1, round_neg f (N - P) c) (upper_le (round f false (N - P) c) (round f false (Q - M) d) (round_upper f (N - P) c) (round_upper f (Q - M) d))
rounds_mono f x y P N c Q M d C D (inl u) (inr v) h =
    let i = mul-le-mul_right d u.0 in
    let j = mul-le-mul_right c v.0 in
    let a : P - N ≡ 0 = none P N d D (omega arith) in
    let b : M - Q ≡ 0 = none M Q c C (omega arith) in
    rw (u.1, v.1, a, b) (zeros (round f false 0 c) (round f true 0 d) c d C D (zero_value f false c C) (zero_value f true d D))

-- ---- the product
-- a finite factor a by its sign, and x by plus and less
pub mul_rounds : (f : Format) (m : ℕ) (e : ℤ) (x : Float) → T (finite x)
    → Rounds f (mul f (fin false m e) x) (m * up e * plus x) (m * up e * less x) (down e * den x)
unfolding mul
mul_rounds f m e nan p = absurd p
mul_rounds f m e (inf s) p = absurd p
mul_rounds f m e (fin false n d) p = inl (omega arith, ap (λ (z : ℕ). round f false z (down e * down d)) (omega arith))
mul_rounds f m e (fin true n d) p = inr (omega arith, ap (λ (z : ℕ). round f true z (down e * down d)) (omega arith))

pub mul_rounds_neg : (f : Format) (m : ℕ) (e : ℤ) (x : Float) → T (finite x)
    → Rounds f (mul f (fin true m e) x) (m * up e * less x) (m * up e * plus x) (down e * den x)
unfolding mul
mul_rounds_neg f m e nan p = absurd p
mul_rounds_neg f m e (inf s) p = absurd p
mul_rounds_neg f m e (fin false n d) p = inr (omega arith, ap (λ (z : ℕ). round f true z (down e * down d)) (omega arith))
mul_rounds_neg f m e (fin true n d) p = inl (omega arith, ap (λ (z : ℕ). round f false z (down e * down d)) (omega arith))

scale : (A a p n c q m d : ℕ) → p * d + m * c ≤ q * c + n * d → A * p * (a * d) + A * m * (a * c) ≤ A * q * (a * c) + A * n * (a * d)
scale A a p n c q m d h =
    simp (mul_assoc, mul_comm, mul_left_comm) (simp (mul-add, mul_assoc, mul_comm, mul_left_comm) at (mul-le-mul_left (A * a) h))

-- `-0.0` is not below zero, and its products are zeros
no_sign : (m : ℕ) (e : ℤ) → T (not (lt (fin true m e) nought)) → m * up e ≡ 0
unfolding lt
no_sign m e h = omega (arith, nltb→le)

pub mul_up : (f : Format) (a x y : Float) → T (finite a) → T (finite x) → T (finite y) → T (not (lt a nought)) → T (le x y)
    → T (le (mul f a x) (mul f a y))
mul_up f nan x y p q r h k = absurd p
mul_up f (inf s) x y p q r h k = absurd p
mul_up f (fin false m e) x y p q r h k =
    rounds_mono f (mul f (fin false m e) x) (mul f (fin false m e) y) (m * up e * plus x) (m * up e * less x) (down e * den x) (m * up e * plus y) (m * up e * less y) (down e * den y)
    (mul-pos (down_pos e) (den_pos x)) (mul-pos (down_pos e) (den_pos y)) (mul_rounds f m e x q) (mul_rounds f m e y r)
    (scale (m * up e) (down e) (plus x) (less x) (den x) (plus y) (less y) (den y) (le_to_left x y q r k))
mul_up f (fin true m e) x y p q r h k =
    rounds_mono f (mul f (fin true m e) x) (mul f (fin true m e) y) (m * up e * less x) (m * up e * plus x) (down e * den x) (m * up e * less y) (m * up e * plus y) (down e * den y)
    (mul-pos (down_pos e) (den_pos x)) (mul-pos (down_pos e) (den_pos y)) (mul_rounds_neg f m e x q) (mul_rounds_neg f m e y r)
    (let z = no_sign m e h in rw z (simp zero-mul (omega arith)))

pub mul_down : (f : Format) (a x y : Float) → T (finite a) → T (finite x) → T (finite y) → T (lt a nought) → T (le x y)
    → T (le (mul f a y) (mul f a x))
mul_down f nan x y p q r h k = absurd p
mul_down f (inf s) x y p q r h k = absurd p
mul_down f (fin false m e) x y p q r h k = absurd (unfold lt in omega (arith, ltb→lt))
mul_down f (fin true m e) x y p q r h k =
    rounds_mono f (mul f (fin true m e) y) (mul f (fin true m e) x) (m * up e * less y) (m * up e * plus y) (down e * den y) (m * up e * less x) (m * up e * plus x) (down e * den x)
    (mul-pos (down_pos e) (den_pos y)) (mul-pos (down_pos e) (den_pos x)) (mul_rounds_neg f m e y r) (mul_rounds_neg f m e x q)
    (scale (m * up e) (down e) (less y) (plus y) (den y) (less x) (plus x) (den x) (le_trans (le_of_eq (add_comm _ _)) (le_trans (le_to_left x y q r k) (le_of_eq (add_comm _ _)))))

-- ---- the sum
sum_rounds : (f : Format) (s : Bool) (a : ℕ) (t : Bool) (b c : ℕ) → Rounds f (sum f s a t b c) (cond s 0 a + cond t 0 b) (cond s a 0 + cond t b 0) c
unfolding sum
sum_rounds f false a false b c = inl (omega arith, ap (λ (z : ℕ). round f false z c) (omega arith))
sum_rounds f true a true b c = inr (omega arith, ap (λ (z : ℕ). round f true z c) (omega arith))
sum_rounds f false a true b c = go (ltb a b) (ltb→lt a b) (nltb→le a b)
  where
    go : (x : Bool) → (T x → a < b) → (T (not x) → b ≤ a) → Rounds f (cond x (round f true (b - a) c) (round f false (a - b) c)) (a + 0) (0 + b) c
    go true h k = let l = h tt in inr (omega arith, ap (λ (z : ℕ). round f true z c) (omega arith))
    go false h k = let l = k tt in inl (omega arith, ap (λ (z : ℕ). round f false z c) (omega arith))
sum_rounds f true a false b c = go (ltb a b) (ltb b a) (ltb→lt a b) (nltb→le a b) (nltb→le b a)
  where
    go : (x y : Bool) → (T x → a < b) → (T (not x) → b ≤ a) → (T (not y) → a ≤ b)
        → Rounds f (cond x (round f false (b - a) c) (round f y (a - b) c)) (0 + b) (a + 0) c
    go true y h k l = let i = h tt in inl (omega arith, ap (λ (z : ℕ). round f false z c) (omega arith))
    go false true h k l = let i = k tt in inr (omega arith, ap (λ (z : ℕ). round f true z c) (omega arith))
    go false false h k l = let i = k tt in let j = l tt in inl (omega arith, ap (λ (z : ℕ). round f false z c) (omega arith))

cond_mul : (s : Bool) (a b c : ℕ) → cond s a b * c ≡ cond s (a * c) (b * c)
cond_mul true a b c = refl
cond_mul false a b c = refl

-- (P - N) / c with equal P and N
rounds_at : (f : Format) (x : Float) (P P' N N' c : ℕ) → P ≡ P' → N ≡ N' → Rounds f x P N c → Rounds f x P' N' c
rounds_at f x P P' N N' c p q h = rw (p, q) at h

pub add_rounds : (f : Format) (x y : Float) → T (finite x) → T (finite y)
    → Rounds f (add f x y) (plus x * den y + plus y * den x) (less x * den y + less y * den x) (den x * den y)
unfolding add
add_rounds f nan y p q = absurd p
add_rounds f (inf s) y p q = absurd p
add_rounds f (fin s m e) nan p q = absurd q
add_rounds f (fin s m e) (inf t) p q = absurd q
add_rounds f (fin s m e) (fin t n d) p q =
    rounds_at f (sum f s (m * up e * down d) t (n * up d * down e) (down e * down d)) _ _ _ _ (down e * down d)
    (simp (cond_mul, zero-mul)) (simp (cond_mul, zero-mul))
    (sum_rounds f s (m * up e * down d) t (n * up d * down e) (down e * down d))

-- p - n over c, twice
both : (p n c p' n' c' q m d q' m' d' : ℕ) → p * c' + n' * c ≤ p' * c + n * c' → q * d' + m' * d ≤ q' * d + m * d'
    → (p * d + q * c) * (c' * d') + (n' * d' + m' * c') * (c * d) ≤ (p' * d' + q' * c') * (c * d) + (n * d + m * c) * (c' * d')
both p n c p' n' c' q m d q' m' d' h k =
    let h' = simp (add-mul, mul_assoc, mul_comm, mul_left_comm) at (mul-le-mul_right (d * d') h) in
    let k' = simp (add-mul, mul_assoc, mul_comm, mul_left_comm) at (mul-le-mul_right (c * c') k) in
    simp (add-mul, mul_assoc, mul_comm, mul_left_comm) (omega arith)

fin_add : (f : Format) (x x' y y' : Float) → T (finite x) → T (finite x') → T (finite y) → T (finite y') → T (le x x') → T (le y y')
    → T (le (add f x y) (add f x' y'))
fin_add f x x' y y' p p' q q' h k =
    rounds_mono f (add f x y) (add f x' y') _ _ (den x * den y) _ _ (den x' * den y')
    (mul-pos (den_pos x) (den_pos y)) (mul-pos (den_pos x') (den_pos y')) (add_rounds f x y p q) (add_rounds f x' y' p' q')
    (both (plus x) (less x) (den x) (plus x') (less x') (den x') (plus y) (less y) (den y) (plus y') (less y') (den y') (le_to_left x x' p p' h) (le_to_left y y' q q' k))

-- ---- infinities in a sum
add_inf_l : (f : Format) (s : Bool) (y : Float) → T (not (is_nan (add f (inf s) y))) → add f (inf s) y ≡ inf s
unfolding add is_nan
add_inf_l f s nan p = absurd p
add_inf_l f true (inf true) p = refl
add_inf_l f true (inf false) p = absurd p
add_inf_l f false (inf true) p = absurd p
add_inf_l f false (inf false) p = refl
add_inf_l f s (fin t n d) p = refl

add_inf_r : (f : Format) (x : Float) (t : Bool) → T (not (is_nan (add f x (inf t)))) → add f x (inf t) ≡ inf t
unfolding add is_nan
add_inf_r f nan t p = absurd p
add_inf_r f (inf true) true p = refl
add_inf_r f (inf true) false p = absurd p
add_inf_r f (inf false) true p = absurd p
add_inf_r f (inf false) false p = refl
add_inf_r f (fin s m e) t p = refl

lowest : (x y : Float) → x ≡ inf true → T (not (is_nan y)) → T (le x y)
lowest x y p q = rw p (bottom y q)

highest : (x y : Float) → y ≡ inf false → T (not (is_nan x)) → T (le x y)
highest x y p q = rw p (top x q)

pub add_mono : (f : Format) (x x' y y' : Float) → T (le x x') → T (le y y') → T (not (is_nan (add f x y))) → T (not (is_nan (add f x' y')))
    → T (le (add f x y) (add f x' y'))
unfolding le
add_mono f nan x' y y' h k p q = absurd h
add_mono f (inf true) x' y y' h k p q = lowest (add f (inf true) y) (add f x' y') (add_inf_l f true y p) q
add_mono f (inf false) nan y y' h k p q = absurd h
add_mono f (inf false) (inf true) y y' h k p q = absurd h
add_mono f (inf false) (inf false) y y' h k p q = highest (add f (inf false) y) (add f (inf false) y') (add_inf_l f false y' q) p
add_mono f (inf false) (fin s m e) y y' h k p q = absurd h
add_mono f (fin s m e) nan y y' h k p q = absurd h
add_mono f (fin s m e) (inf true) y y' h k p q = absurd h
add_mono f (fin s m e) (inf false) y y' h k p q = highest (add f (fin s m e) y) (add f (inf false) y') (add_inf_l f false y' q) p
add_mono f (fin s m e) (fin t n d) nan y' h k p q = absurd k
add_mono f (fin s m e) (fin t n d) (inf true) y' h k p q =
    lowest (add f (fin s m e) (inf true)) (add f (fin t n d) y') (add_inf_r f (fin s m e) true p) q
add_mono f (fin s m e) (fin t n d) (inf false) nan h k p q = absurd k
add_mono f (fin s m e) (fin t n d) (inf false) (inf true) h k p q = absurd k
add_mono f (fin s m e) (fin t n d) (inf false) (inf false) h k p q =
    highest (add f (fin s m e) (inf false)) (add f (fin t n d) (inf false)) (add_inf_r f (fin t n d) false q) p
add_mono f (fin s m e) (fin t n d) (inf false) (fin u l g) h k p q = absurd k
add_mono f (fin s m e) (fin t n d) (fin u l g) nan h k p q = absurd k
add_mono f (fin s m e) (fin t n d) (fin u l g) (inf true) h k p q = absurd k
add_mono f (fin s m e) (fin t n d) (fin u l g) (inf false) h k p q =
    highest (add f (fin s m e) (fin u l g)) (add f (fin t n d) (inf false)) (add_inf_r f (fin t n d) false q) p
add_mono f (fin s m e) (fin t n d) (fin u l g) (fin v i j) h k p q = fin_add f (fin s m e) (fin t n d) (fin u l g) (fin v i j) tt tt tt tt h k

-- ---- a product does not ask for an order of its factors
unlike_sym : (s t : Bool) → unlike s t ≡ unlike t s
unlike_sym true true = refl
unlike_sym true false = refl
unlike_sym false true = refl
unlike_sym false false = refl

pub mul_sym : (f : Format) (x y : Float) → mul f x y ≡ mul f y x
unfolding mul
mul_sym f nan nan = refl
mul_sym f nan (inf t) = refl
mul_sym f nan (fin t n d) = refl
mul_sym f (inf s) nan = refl
mul_sym f (inf s) (inf t) = ap inf (unlike_sym s t)
mul_sym f (inf s) (fin t n d) = ap (λ (b : Bool). cond (eqb n 0) nan (inf b)) (unlike_sym s t)
mul_sym f (fin s m e) nan = refl
mul_sym f (fin s m e) (inf t) = ap (λ (b : Bool). cond (eqb m 0) nan (inf b)) (unlike_sym s t)
mul_sym f (fin s m e) (fin t n d) =
    ap (λ (b : Bool). round f b (m * up e * (n * up d)) (down e * down d)) (unlike_sym s t)
    ∙ ap₂ (round f (unlike t s)) (mul_comm (m * up e) (n * up d)) (mul_comm (down e) (down d))

-- ---- a sum of finite values is a number; a finite value is one that leaves a number when it is taken from itself
odd_num : (d : ℕ) (s : Bool) (q k l : ℕ) → T (not (is_nan (odd d s q k l)))
unfolding odd is_nan
odd_num d s zero k l = tt
odd_num d s (suc q) k l = tt

units_num : (f : Format) (s : Bool) (q k : ℕ) → T (not (is_nan (units f s q k)))
unfolding units
units_num f s q k = go (ltb (q * 2 ^ k) (2 ^ (low f + suc (emax f))))
  where
    go : (b : Bool) → T (not (is_nan (cond b (odd (suc (prec f)) s q k (low f)) (inf s))))
    go true = odd_num (suc (prec f)) s q k (low f)
    go false = unfold is_nan in tt

pub round_num : (f : Format) (s : Bool) (a c : ℕ) → T (not (is_nan (round f s a c)))
round_num f s a c = subst (λ (z : Float). T (not (is_nan z))) (sym (round_is f s a c)) (units_num f s _ _)

pub add_num : (f : Format) (x y : Float) → T (finite x) → T (finite y) → T (not (is_nan (add f x y)))
add_num f x y p q = go (add_rounds f x y p q)
  where
    go : Rounds f (add f x y) (plus x * den y + plus y * den x) (less x * den y + less y * den x) (den x * den y) → T (not (is_nan (add f x y)))
    go (inl u) = rw u.1 (round_num f false _ _)
    go (inr u) = rw u.1 (round_num f true _ _)

num_eq : (x : Float) → T (not (is_nan x)) → eq x x ≡ true
num_eq x p = bool_ext (eq x x) true (λ h. tt) (λ h. antisymm x x (refl_le x p) (refl_le x p))

pub self_difference : (f : Format) (x : Float) → eq (sub f x x) (sub f x x) ≡ finite x
unfolding sub eq
self_difference f nan = refl
self_difference f (inf true) = refl
self_difference f (inf false) = refl
self_difference f (fin s m e) = num_eq (add f (fin s m e) (fin (not s) m e)) (add_num f (fin s m e) (fin (not s) m e) tt tt)
