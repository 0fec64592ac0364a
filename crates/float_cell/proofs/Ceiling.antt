-- The ceiling of a fraction, by its whole part and its remainder.
use Rattle.std.proofs.Common.{◌≡◌, ℕ, ◌+◌, ◌-◌, ◌*◌, ◌/◌, ◌%◌, ◌^◌, ◌<◌, ◌≤◌, min, mod-lt, add-mul, one-mul, div-add-mod', le-div_iff_mul-le, arith}
use native.Mathlib.Nat.{div-eq_of_lt-le}
use Rattle.rules.specs.Cell.{ceiling}

pub one_more : (q d : ℕ) → (q + 1) * d ≡ q * d + d
one_more q d = omega (arith, add-mul q 1 d, one-mul d)

pub ceiling_whole : (n d : ℕ) → 0 < d → n % d ≡ 0 → ceiling n d ≡ n / d
ceiling_whole n d o h = div-eq_of_lt-le {k = n / d} d (omega (arith, div-add-mod' n d)) (omega (arith, div-add-mod' n d, one_more (n / d) d))

pub ceiling_part : (n d : ℕ) → 0 < d → 0 < n % d → ceiling n d ≡ n / d + 1
ceiling_part n d o h =
    div-eq_of_lt-le {k =
    n / d + 1} d (omega (arith, div-add-mod' n d, one_more (n / d) d)) (omega (arith, div-add-mod' n d, mod-lt n o, one_more (n / d) d, one_more (n / d + 1) d))

-- ---- the laws of the two, by which a reader knows them: the floor q of n / d has q ≤ n / d < q + 1, and the ceiling u has u - 1 < n / d ≤ u

pub ceiling_is : (n d : ℕ) → 0 < d → (n ≤ ceiling n d * d) × (ceiling n d * d < n + d)
ceiling_is n d o =
    let a = n + (d - 1) in
    (omega (arith, div-add-mod' a d, mod-lt a o), omega (arith, div-add-mod' a d))

-- at an end of the range and beyond it
pub floor_top : (n d c : ℕ) → 0 < d → c * d ≤ n → c ≤ n / d
floor_top n d c o h = (le-div_iff_mul-le o).1 h

pub ceiling_top : (n d c : ℕ) → 0 < d → c * d ≤ n → c ≤ ceiling n d
ceiling_top n d c o h = (le-div_iff_mul-le o).1 (omega arith)

pub at_top : (a : ℕ) → 2 ^ 63 ≤ a → min a (2 ^ 63 - 1) ≡ (2 ^ 63 - 1)
at_top a h = omega arith

pub at_bottom : (a : ℕ) → 2 ^ 63 ≤ a → min a (2 ^ 63) ≡ 2 ^ 63
at_bottom a h = omega arith
