-- `floor64` by the whole part of a float, toward zero and within an `i64`: that is the floor, or one more.
use Rattle.std.proofs.Common.{◌≡◌, ℕ, zero, suc, ◌-◌, ◌*◌, ◌/◌, ◌%◌, ◌^◌, ◌<◌, ◌≤◌, min, Bool, true, false, T, ℤ, pos, negsuc, ◌-ℤ◌, neg_ℤ, sym, refl, ap, ◌∙◌, subst, true≢false, le_trans, lt_of_lt_of_le, lt_of_le_of_lt, lt_irrefl, lt_of_mul-lt-mul_right, div-add-mod', mul-one, div-le_self, le_of_mul-le-mul_right, add-one, arith, ltb-false, ltb-true}
use native.Mathlib.Nat.{mod-one}
use native.Mathlib.Decide.{dec_le}
use mathlib.Core.Logic.{◌⊎◌, inl, inr}
use Rattle.std.specs.Int.{saturate_to_bits}
use lib.IntN.{ -ℤ_one}
use lib.Signed.{mag}
use lib.Ieee.{Float, nan, inf, fin, binary64, up, down, fits, round, lt, to_signed, of_int}
use lib.Ieee.Fits.{down_pos}
use lib.Ieee.Exact.{HasValue}
use Rattle.rules.specs.Cell.{ceiling, floor64}
use Rattle.float_cell.proofs.Ceiling.{ceiling_whole, ceiling_part, floor_top, ceiling_top, at_top, at_bottom}
use Rattle.float_cell.proofs.Whole.{short, exact, lt_above, lt_neg}

clash : {b : Bool} → b ≡ true → b ≡ false → ⊥
clash h k = true≢false (sym h ∙ k)

beyond : (x c d : ℕ) → c * d ≤ x * 1 → c * d ≤ x
beyond x c d h = omega arith

-- ---- in range
pub less_one : (q : ℕ) → neg_ℤ (pos q) -ℤ pos 1 ≡ negsuc q
less_one zero = refl
less_one (suc q) = -ℤ_one (negsuc q)

-- a fraction below zero: the whole part is small, and the floor is one less
abbrev pub Lower : Float → Type 0
Lower x = (mag (to_signed 63 x -ℤ pos 1) < 2 ^ 63) × (to_signed 63 x -ℤ pos 1 ≡ floor64 x)

lower_at : (m : ℕ) (e : ℤ) → 0 < m * up e % down e → m * up e / down e < 2 ^ 53 → Lower (fin true m e)
unfolding to_signed floor64
lower_at m e f w =
    let q = m * up e / down e in
    let t : min q (2 ^ 63) ≡ q = omega arith in
    let c : min (ceiling (m * up e) (down e)) (2 ^ 63) ≡ suc q = ap (λ (x : ℕ). min x (2 ^ 63)) (ceiling_part (m * up e) (down e) (down_pos e) f ∙ add-one q) ∙ short q w in
    let z : neg_ℤ (pos (min q (2 ^ 63))) -ℤ pos 1 ≡ negsuc q = ap (λ (x : ℕ). neg_ℤ (pos x) -ℤ pos 1) t ∙ less_one q in
    (subst (λ (y : ℤ). mag y < 2 ^ 63) (sym z) (within q w), z ∙ ap (λ (x : ℕ). neg_ℤ (pos x)) (sym c))
  where
    short : (q : ℕ) → q < 2 ^ 53 → min (suc q) (2 ^ 63) ≡ suc q
    short q h = omega arith

    within : (q : ℕ) → q < 2 ^ 53 → q < 2 ^ 63
    within q h = omega arith

no_fraction : (n : ℕ) → 0 < n % 1 → ⊥
no_fraction n h = lt_irrefl 0 (subst (λ (x : ℕ). 0 < x) (mod-one n) h)

part_le : (x d c : ℕ) → 0 < d → x ≤ c * d → x / d ≤ c
part_le x d c o h = le_of_mul-le-mul_right {k = d} (le_trans (omega (arith, div-add-mod' x d)) h) o

pub part_lt : (x d c : ℕ) → 0 < d → x < c * d → x / d < c
part_lt x d c o h = lt_of_mul-lt-mul_right d (lt_of_le_of_lt (omega (arith, div-add-mod' x d)) h)

-- in the range, or beyond it on the lower side
ranged : (m : ℕ) (e : ℤ) → (m * up e ≤ 2 ^ 63 * down e) ⊎ (2 ^ 63 * down e ≤ m * up e)
ranged m e = elim (dec_le (m * up e) (2 ^ 63 * down e)) [ yes h ↦ inl h | no h ↦ inr (omega arith) ]

-- at -(2 ^ 63) and below, the floor and the whole part are the least
least : (m : ℕ) (e : ℤ) → 2 ^ 63 * down e ≤ m * up e → (to_signed 63 (fin true m e) ≡ negsuc (2 ^ 63 - 1)) × (floor64 (fin true m e) ≡ negsuc (2 ^ 63 - 1))
unfolding to_signed floor64
least m e h = (
  ap (λ (z : ℕ). neg_ℤ (pos z)) (at_bottom (m * up e / down e) (floor_top (m * up e) (down e) (2 ^ 63) (down_pos e) h)),
  ap (λ (z : ℕ). neg_ℤ (pos z)) (at_bottom (ceiling (m * up e) (down e)) (ceiling_top (m * up e) (down e) (2 ^ 63) (down_pos e) h)),
)

-- the greatest `i64` as a float is 2 ^ 63
rounded_up : HasValue (round binary64 false (2 ^ 63 - 1) 1) false (2 ^ 63) 1
unfolding round
rounded_up = (refl, refl)

-- the whole part of a float above zero is not above it
not_above : (m : ℕ) (e : ℤ) → T (fits binary64 (fin false m e)) → lt (fin false m e) (of_int binary64 (to_signed 63 (fin false m e))) ≡ true → ⊥
unfolding to_signed of_int
not_above m e f l = elim (dec_le (m * up e / down e) (2 ^ 63 - 1)) [ yes h ↦ within h | no h ↦ beyond_top (omega arith) ]
  where
    within : m * up e / down e ≤ 2 ^ 63 - 1 → ⊥
    within h =
        let q = m * up e / down e in
        let t : min q (2 ^ 63 - 1) ≡ q = omega arith in
        let w : q ≤ (2 ^ 63) = omega arith in
        let a : m * up e < q * down e =
        ltb-true (m * up e) (q * down e) (sym (lt_above m e (round binary64 false q 1) q (exact false m e (short false m e f) w)) ∙ subst (λ (z : ℕ). lt (fin false m e) (round binary64 false z 1) ≡ true) t l) in
        lt_irrefl (m * up e) (lt_of_lt_of_le a (omega (arith, div-add-mod' (m * up e) (down e))))

    beyond_top : 2 ^ 63 ≤ m * up e / down e → ⊥
    beyond_top h =
        let q = m * up e / down e in
        let t : min q (2 ^ 63 - 1) ≡ (2 ^ 63 - 1) = at_top q h in
        let a : m * up e < 2 ^ 63 * down e =
        ltb-true (m * up e) (2 ^ 63 * down e) (sym (lt_above m e (round binary64 false (2 ^ 63 - 1) 1) (2 ^ 63) rounded_up) ∙ subst (λ (z : ℕ). lt (fin false m e) (round binary64 false z 1) ≡ true) t l) in
        lt_irrefl (2 ^ 63) (lt_of_le_of_lt h (part_lt (m * up e) (down e) (2 ^ 63) (down_pos e) a))

saturated : (z : ℤ) → mag z < 2 ^ 63 → saturate_to_bits 63 z ≡ z
saturated (pos n) h = ap pos (omega arith)
saturated (negsuc n) h = ap negsuc (omega arith)

within : (m : ℕ) (e : ℤ) → T (fits binary64 (fin true m e)) → m * up e ≤ 2 ^ 63 * down e → lt (fin true m e) (of_int binary64 (to_signed 63 (fin true m e))) ≡ true
    → Lower (fin true m e)
unfolding to_signed of_int
within m e f h l =
    let q = m * up e / down e in
    let r : q ≤ (2 ^ 63) = part_le (m * up e) (down e) (2 ^ 63) (down_pos e) h in
    let t : min q (2 ^ 63) ≡ q = omega arith in
    let a : q * down e < m * up e =
    ltb-true (q * down e) (m * up e) (sym (lt_neg m e q (λ (s : Bool). exact s m e (short true m e f) r)) ∙ subst (λ (z : ℕ). lt (fin true m e) (of_int binary64 (neg_ℤ (pos z))) ≡ true) t l) in
    go e f (omega (arith, div-add-mod' (m * up e) (down e)))
  where
    go : (e : ℤ) → T (fits binary64 (fin true m e)) → 0 < m * up e % down e → Lower (fin true m e)
    go (pos a) f p = absurd (no_fraction (m * 2 ^ a) p)
    go (negsuc a) f p =
        lower_at m (negsuc a) p (lt_of_le_of_lt (div-le_self (m * 1) (2 ^ suc a)) (subst (λ (x : ℕ). x < 2 ^ 53) (sym (mul-one m)) (short true m (negsuc a) f)))

level_within : (m : ℕ) (e : ℤ) → T (fits binary64 (fin true m e)) → m * up e ≤ 2 ^ 63 * down e → lt (fin true m e) (of_int binary64 (to_signed 63 (fin true m e))) ≡ false
    → to_signed 63 (fin true m e) ≡ floor64 (fin true m e)
unfolding to_signed floor64
level_within m e f h l =
    let q = m * up e / down e in
    let r : q ≤ (2 ^ 63) = part_le (m * up e) (down e) (2 ^ 63) (down_pos e) h in
    let t : min q (2 ^ 63) ≡ q = omega arith in
    let a : m * up e ≤ q * down e =
    ltb-false (q * down e) (m * up e) (sym (lt_neg m e q (λ (s : Bool). exact s m e (short true m e f) r)) ∙ subst (λ (z : ℕ). lt (fin true m e) (of_int binary64 (neg_ℤ (pos z))) ≡ false) t l) in
    ap (λ (x : ℕ). neg_ℤ (pos (min x (2 ^ 63)))) (sym (ceiling_whole (m * up e) (down e) (down_pos e) (omega (arith, div-add-mod' (m * up e) (down e)))))

-- ---- the whole part lies above x: the floor is one less, if there is one
pub lower : (x : Float) → T (fits binary64 x) → lt x (of_int binary64 (to_signed 63 x)) ≡ true → saturate_to_bits 63 (to_signed 63 x -ℤ pos 1) ≡ floor64 x
lower nan f l = unfold lt in absurd (true≢false (sym l))
lower (inf true) f l = unfold to_signed floor64 in refl
lower (inf false) f l = unfold lt to_signed of_int in absurd (true≢false (sym l))
lower (fin false m e) f l = absurd (not_above m e f l)
lower (fin true m e) f l = elim (ranged m e) [
  | inl h ↦ (let p = within m e f h l in saturated _ p.0 ∙ p.1)
  | inr h ↦ (let p = least m e h in ap (λ (z : ℤ). saturate_to_bits 63 (z -ℤ pos 1)) p.0 ∙ sym p.1)
]

-- ---- it doesn't: it is the floor
pub level : (x : Float) → T (fits binary64 x) → lt x (of_int binary64 (to_signed 63 x)) ≡ false → to_signed 63 x ≡ floor64 x
level nan f l = unfold to_signed floor64 in refl
level (inf s) f l = unfold to_signed floor64 in refl
level (fin false m e) f l = unfold to_signed floor64 in refl
level (fin true m e) f l = elim (ranged m e) [
  | inl h ↦ level_within m e f h l
  | inr h ↦ (let p = least m e h in p.0 ∙ sym p.1)
]
