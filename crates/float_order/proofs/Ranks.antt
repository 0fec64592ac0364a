-- The order of floats as one of natural numbers: `rank f x`, a key of the format's width made of the sign and the magnitude's bits, the same for both zeros.
-- For values that fit and are no NaN, `le`, `lt` and `eq` are `leb`, `ltb` and `eqb` of the ranks.
use mathlib.Core.Path.{◌≡◌, refl, sym, ap, ap₂, ◌∙◌, subst}
use mathlib.Core.Logic.{◌⊎◌, inl, inr}
use Prim.Native.Nat.{ℕ, zero, suc, ◌+◌, ◌-◌, ◌*◌, ◌/◌, ◌%◌, ◌^◌, ◌≤◌, ◌<◌}
use native.Mathlib.Nat.{le_trans, le_of_eq, lt_of_le_of_lt, lt_of_lt_of_le, eq-or-lt_of_le, add_assoc, add-zero, add-mul, suc-mul, zero-mul, zero-div, mul_comm, mul_right_comm, mul-pos, mul-le-mul_right, mul-lt-mul_of_pos_right, eq_of_mul-eq-mul_right, pow-succ', le-div_iff_mul-le, div-lt_iff_lt-mul}
use native.Mathlib.Omega.{arith}
use mathlib.Core.Bool.{Bool, true, false, not, ◌&&◌, cond, true≢false, false≢true}
use lib.IntN.{ℤ}
use lib.Dec.{T, leb, ltb, eqb, leb→le, le→leb, ltb→lt}
use lib.Pow.{pow-add, pow_pos, shr_mono}
use lib.Ieee.{Float, nan, inf, fin, Format, binary32, binary64, prec, emax, low, up, down, size, lt, eq, le, is_nan, fits, hid, ones, top, to_bits, of_bits}
use lib.Ieee.Digits.{size-lt, size-le, size_reaches}
use lib.Ieee.Fits.{down_pos, and_r, two, two-le_pos, kept-lt}
use lib.Ieee.Bits.{of_bits-to_bits}
use lib.Ieee.Nearest.{div_mono}
use Rattle.float_order.specs.Rank.{code, magnitude, sign, rank}
use Rattle.float_order.proofs.Order.{bool_ext, ltb_not_leb, eqb_both, bottom, le_to_left, left_to_le, refl_le, total, lt_is, eq_is}

-- ---- `code` keeps the order
twice : (p : ℕ) → 0 < p → 2 ^ p ≡ 2 * 2 ^ (p - 1)
twice p h = ap (λ (x : ℕ). 2 ^ x) (again p h) ∙ pow-succ' 2 (p - 1)
  where
    again : (p : ℕ) → 0 < p → p ≡ suc (p - 1)
    again p h = omega arith

kept_under : (f : Format) (n : ℕ) → n / 2 ^ (size n - prec f) < 2 * hid f
kept_under f n = lt_of_lt_of_le (kept-lt (prec f) n) (le_of_eq (twice (prec f) (two-le_pos (prec f) (two f))))

leads : (z p : ℕ) → 0 < p → 0 < z - p → p - 1 + (z - p) < z
leads z p h k = omega arith

kept_over : (f : Format) (n : ℕ) → 0 < size n - prec f → hid f ≤ n / 2 ^ (size n - prec f)
kept_over f n h =
    let k = size n - prec f in
    (le-div_iff_mul-le (pow_pos k)).1
    (le_trans (le_of_eq (sym (pow-add 2 (prec f - 1) k))) (size_reaches n (prec f - 1 + k) (leads (size n) (prec f) (two-le_pos (prec f) (two f)) h)))

fewer : (x y p : ℕ) → x ≤ y → x - p ≤ y - p
fewer x y p h = omega arith

code_mono : (f : Format) (a b : ℕ) → a ≤ b → code f a ≤ code f b
code_mono f a b h = go (eq-or-lt_of_le (fewer (size a) (size b) (prec f) (size-le a (size b) (lt_of_le_of_lt h (size-lt b)))))
  where
    go : (size a - prec f ≡ size b - prec f) ⊎ (size a - prec f < size b - prec f) → code f a ≤ code f b
    go (inl e) = rw e (let s = shr_mono (size b - prec f) h in omega arith)
    go (inr l) =
        let j = size a - prec f in
        let k = size b - prec f in
        let u = kept_under f a in
        let v = kept_over f b (omega arith) in
        let w : j * hid f + hid f ≤ k * hid f = le_trans (le_of_eq (sym (suc-mul j (hid f)))) (mul-le-mul_right (hid f) l) in
        omega arith

deep : (z e p : ℕ) → 2 ≤ p → 1 ≤ e → z ≤ e + p - 2 + suc e → z - p + 2 ≤ 2 * e + 1
deep z e p h k l = omega arith

emax_pos : (f : Format) → 1 ≤ emax f
emax_pos binary32 = omega arith
emax_pos binary64 = omega arith

code_le : (f : Format) (n : ℕ) → n < 2 ^ (low f + suc (emax f)) → code f n ≤ ones f * hid f
code_le f n h =
    let k = size n - prec f in
    let u = kept_under f n in
    let w : k * hid f + 2 * hid f ≤ ones f * hid f =
    le_trans (le_of_eq (sym (add-mul k 2 (hid f)))) (mul-le-mul_right (hid f) (deep (size n) (emax f) (prec f) (two f) (emax_pos f) (size-le n (low f + suc (emax f)) h))) in
    omega arith

-- ---- a value that fits is below 2 ^ (emax + 1)
in_range : (f : Format) (s : Bool) (m : ℕ) (e : ℤ) → T (fits f (fin s m e)) → m * up e < 2 ^ suc (emax f) * down e
unfolding fits
in_range f s zero e h = subst (λ (z : ℕ). z < 2 ^ suc (emax f) * down e) (sym (zero-mul (up e))) (mul-pos (pow_pos (suc (emax f))) (down_pos e))
in_range f s (suc m) e h =
    let A = eqb (suc m % 2) 1 && ltb (suc m) (2 ^ prec f) && leb (down e) (2 ^ low f) in
    ltb→lt (suc m * up e) (2 ^ suc (emax f) * down e) (and_r A (ltb (suc m * up e) (2 ^ suc (emax f) * down e)) h)

pub magnitude_le : (f : Format) (x : Float) → T (fits f x) → magnitude f x ≤ ones f * hid f
magnitude_le f nan h = omega arith
magnitude_le f (inf s) h = omega arith
magnitude_le f (fin s m e) h =
    code_le f (m * up e * 2 ^ low f / down e)
    ((div-lt_iff_lt-mul (down_pos e)).1
    (lt_of_lt_of_le (mul-lt-mul_of_pos_right (in_range f s m e h) (pow_pos (low f)))
    (le_of_eq (mul_right_comm (2 ^ suc (emax f)) (down e) (2 ^ low f) ∙ ap (λ (z : ℕ). z * down e) (mul_comm (2 ^ suc (emax f)) (2 ^ low f) ∙ sym (pow-add 2 (low f) (suc (emax f))))))))

under_top : (f : Format) → ones f * hid f ≤ top f
under_top f = let c = mul_comm (hid f) (suc (ones f)) in let d = suc-mul (ones f) (hid f) in omega arith

rank_ge : (f : Format) (y : Float) → T (fits f y) → top f - ones f * hid f ≤ rank f y
unfolding rank
rank_ge f y h = go (sign y)
  where
    go : (s : Bool) → top f - ones f * hid f ≤ cond s (top f - magnitude f y) (top f + magnitude f y)
    go true = omega (arith, magnitude_le f y h)
    go false = omega arith

rank_le : (f : Format) (x : Float) → T (fits f x) → rank f x ≤ top f + ones f * hid f
unfolding rank
rank_le f x h = go (sign x)
  where
    go : (s : Bool) → cond s (top f - magnitude f x) (top f + magnitude f x) ≤ top f + ones f * hid f
    go true = omega arith
    go false = omega (arith, magnitude_le f x h)

-- ---- the magnitude's bits of two finite values
mags : (f : Format) (a b c d : ℕ) → 0 < b → 0 < d → a * d ≤ c * b → code f (a * 2 ^ low f / b) ≤ code f (c * 2 ^ low f / d)
mags f a b c d B D h =
    code_mono f (a * 2 ^ low f / b) (c * 2 ^ low f / d)
    (div_mono (a * 2 ^ low f) b (c * 2 ^ low f) d B D
    (le_trans (le_of_eq (mul_right_comm a (2 ^ low f) d)) (le_trans (mul-le-mul_right (2 ^ low f) h) (le_of_eq (mul_right_comm c b (2 ^ low f))))))

code_zero : (f : Format) → code f 0 ≡ 0
unfolding size
code_zero binary32 = refl
code_zero binary64 = refl

no_mag : (f : Format) (a b d : ℕ) → 0 < d → a * d ≡ 0 → code f (a * 2 ^ low f / b) ≡ 0
no_mag f a b d D h =
    let z : a ≡ 0 = eq_of_mul-eq-mul_right d D a 0 (h ∙ sym (zero-mul d)) in
    ap (λ (v : ℕ). code f (v * 2 ^ low f / b)) z ∙ ap (λ (v : ℕ). code f (v / b)) (zero-mul (2 ^ low f)) ∙ ap (code f) (zero-div b) ∙ code_zero f

fin_rank : (f : Format) (s : Bool) (m : ℕ) (e : ℤ) (t : Bool) (n : ℕ) (d : ℤ) → T (le (fin s m e) (fin t n d))
    → rank f (fin s m e) ≤ rank f (fin t n d)
unfolding rank
fin_rank f false m e false n d h =
    let l = le_to_left (fin false m e) (fin false n d) tt tt h in
    omega (arith, mags f (m * up e) (down e) (n * up d) (down d) (down_pos e) (down_pos d) (omega arith))
fin_rank f false m e true n d h =
    let l = le_to_left (fin false m e) (fin true n d) tt tt h in
    omega (arith, no_mag f (m * up e) (down e) (down d) (down_pos d) (omega arith), no_mag f (n * up d) (down d) (down e) (down_pos e) (omega arith))
fin_rank f true m e false n d h = omega arith
fin_rank f true m e true n d h =
    let l = le_to_left (fin true m e) (fin true n d) tt tt h in
    omega (arith, mags f (n * up d) (down d) (m * up e) (down e) (down_pos d) (down_pos e) (omega arith))

pub le_to_rank : (f : Format) (x y : Float) → T (fits f x) → T (fits f y) → T (le x y) → rank f x ≤ rank f y
unfolding le
le_to_rank f nan y p q h = absurd h
le_to_rank f (inf true) y p q h = unfold rank in rank_ge f y q
le_to_rank f (inf false) nan p q h = absurd h
le_to_rank f (inf false) (inf true) p q h = absurd h
le_to_rank f (inf false) (inf false) p q h = omega arith
le_to_rank f (inf false) (fin t n d) p q h = absurd h
le_to_rank f (fin s m e) nan p q h = absurd h
le_to_rank f (fin s m e) (inf true) p q h = absurd h
le_to_rank f (fin s m e) (inf false) p q h = unfold rank in rank_le f (fin s m e) p
le_to_rank f (fin s m e) (fin t n d) p q h = fin_rank f s m e t n d h

-- ---- equal ranks: the same value, or the two zeros
to_bits_is : (f : Format) (x : Float) → T (not (is_nan x)) → to_bits f x ≡ cond (sign x) (top f) 0 + magnitude f x
unfolding to_bits is_nan
to_bits_is f nan p = absurd p
to_bits_is f (inf s) p = refl
to_bits_is f (fin s m e) p = add_assoc (cond s (top f) 0) _ _

same_bits : (f : Format) (x y : Float) → T (fits f x) → T (fits f y) → to_bits f x ≡ to_bits f y → x ≡ y
same_bits f x y p q h = sym (of_bits-to_bits f x p) ∙ ap (of_bits f) h ∙ of_bits-to_bits f y q

zeros_le : (f : Format) → T (le (of_bits f 0) (of_bits f (top f)))
unfolding of_bits le
zeros_le binary32 = tt
zeros_le binary64 = tt

low_high : (x y : Float) → T (not (is_nan x)) → T (not (is_nan y)) → sign x ≡ true → sign y ≡ false → T (le x y)
unfolding le is_nan
low_high nan y p q a b = absurd p
low_high (inf false) y p q a b = absurd (false≢true a)
low_high (inf true) y p q a b = bottom y q
low_high (fin false m e) y p q a b = absurd (false≢true a)
low_high (fin true m e) nan p q a b = absurd q
low_high (fin true m e) (inf true) p q a b = absurd (true≢false b)
low_high (fin true m e) (inf false) p q a b = tt
low_high (fin true m e) (fin true n d) p q a b = absurd (true≢false b)
low_high (fin true m e) (fin false n d) p q a b = left_to_le (fin true m e) (fin false n d) tt tt (omega arith)

to_bits_at : (f : Format) (x : Float) (s : Bool) (n : ℕ) → T (not (is_nan x)) → sign x ≡ s → magnitude f x ≡ n → to_bits f x ≡ cond s (top f) 0 + n
to_bits_at f x s n p a b = to_bits_is f x p ∙ ap₂ (λ (s : Bool) (n : ℕ). cond s (top f) 0 + n) a b

same_rank : (f : Format) (x y : Float) → T (fits f x) → T (fits f y) → T (not (is_nan x)) → T (not (is_nan y)) → rank f x ≡ rank f y → T (le x y)
unfolding rank
same_rank f x y p q i j h = go (sign x) (sign y) refl refl h
  where
    alike : (s : Bool) → sign x ≡ s → sign y ≡ s → magnitude f x ≡ magnitude f y → T (le x y)
    alike s a b e =
        subst (λ (v : Float). T (le x v)) (same_bits f x y p q (to_bits_at f x s (magnitude f y) i a e ∙ sym (to_bits_at f y s (magnitude f y) j b refl))) (refl_le x i)

    go : (s t : Bool) → sign x ≡ s → sign y ≡ t
        → cond s (top f - magnitude f x) (top f + magnitude f x) ≡ cond t (top f - magnitude f y) (top f + magnitude f y) → T (le x y)
    go true true a b h = alike true a b (omega (arith, magnitude_le f x p, magnitude_le f y q, under_top f))
    go true false a b h = low_high x y i j a b
    go false true a b h =
        let u : x ≡ of_bits f 0 = sym (of_bits-to_bits f x p) ∙ ap (of_bits f) (to_bits_at f x false 0 i a (omega arith)) in
        let v : y ≡ of_bits f (top f) = sym (of_bits-to_bits f y q) ∙ ap (of_bits f) (to_bits_at f y true 0 j b (omega (arith, magnitude_le f y q, under_top f)) ∙ add-zero (top f)) in
        rw (u, v) (zeros_le f)
    go false false a b h = alike false a b (omega arith)

pub rank_to_le : (f : Format) (x y : Float) → T (fits f x) → T (fits f y) → T (not (is_nan x)) → T (not (is_nan y)) → rank f x ≤ rank f y → T (le x y)
rank_to_le f x y p q i j h = go (total x y i j)
  where
    go : T (le x y) ⊎ T (le y x) → T (le x y)
    go (inl k) = k
    go (inr k) = same_rank f x y p q i j (omega (arith, le_to_rank f y x q p k))

-- ---- the law
module _ (f : Format) (x y : Float) (p : T (fits f x)) (q : T (fits f y)) (i : T (not (is_nan x))) (j : T (not (is_nan y))) where
  pub rank_le_is : le x y ≡ leb (rank f x) (rank f y)
  rank_le_is = bool_ext _ _ (λ h. le→leb (rank f x) (rank f y) (le_to_rank f x y p q h)) (λ h. rank_to_le f x y p q i j (leb→le (rank f x) (rank f y) h))

pub rank_lt_is : (f : Format) (x y : Float) → T (fits f x) → T (fits f y) → T (not (is_nan x)) → T (not (is_nan y)) → lt x y ≡ ltb (rank f x) (rank f y)
rank_lt_is f x y p q i j = lt_is x y i j ∙ ap not (rank_le_is f y x q p j i) ∙ sym (ltb_not_leb (rank f x) (rank f y))

pub rank_eq_is : (f : Format) (x y : Float) → T (fits f x) → T (fits f y) → T (not (is_nan x)) → T (not (is_nan y)) → eq x y ≡ eqb (rank f x) (rank f y)
rank_eq_is f x y p q i j = eq_is x y ∙ ap₂ ◌&&◌ (rank_le_is f x y p q i j) (rank_le_is f y x q p j i) ∙ sym (eqb_both (rank f x) (rank f y))

-- the rank fits the format's width, with room above it
strictly : (f : Format) → ones f * hid f < top f
strictly f = let c = mul_comm (hid f) (suc (ones f)) in let d = suc-mul (ones f) (hid f) in let e = pow_pos (prec f - 1) in omega arith

pub rank_at_most : (f : Format) (x : Float) → T (fits f x) → rank f x ≤ top f + ones f * hid f
rank_at_most f x p = rank_le f x p

-- ---- from the bits
module _ (f : Format) (x : Float) (p : T (fits f x)) (i : T (not (is_nan x))) where
  pub rank_low : to_bits f x < top f → to_bits f x + top f ≡ rank f x
  unfolding rank
  rank_low = go (sign x) (to_bits_is f x i)
    where
      go : (s : Bool) → to_bits f x ≡ cond s (top f) 0 + magnitude f x → to_bits f x < top f
          → to_bits f x + top f ≡ cond s (top f - magnitude f x) (top f + magnitude f x)
      go true e h = omega arith
      go false e h = omega arith

  pub rank_high : top f ≤ to_bits f x → top f - (to_bits f x - top f) ≡ rank f x
  unfolding rank
  rank_high = go (sign x) (to_bits_is f x i)
    where
      go : (s : Bool) → to_bits f x ≡ cond s (top f) 0 + magnitude f x → top f ≤ to_bits f x
          → top f - (to_bits f x - top f) ≡ cond s (top f - magnitude f x) (top f + magnitude f x)
      go true e h = omega arith
      go false e h = omega (arith, magnitude_le f x p, strictly f)
