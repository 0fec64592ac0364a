-- M is the largest whole number that the request asks for; a greater offset has no greater M; and M lies between 2 ^ 52 and 2 ^ 53.
use Prim.Native.Nat.{ℕ, ◌+◌, ◌*◌, ◌/◌, ◌^◌, ◌≤◌, ◌<◌}
use mathlib.Core.Path.{◌≡◌}
use native.Mathlib.Nat.{le_antisymm, le_trans, lt_of_not-le, lt_of_lt_of_le, lt_of_le_of_lt, lt_irrefl, mul-le-mul, mul-le-mul_left, le_of_mul-le-mul_right, le-div_iff_mul-le}
use native.Mathlib.Omega.{arith}
use native.Mathlib.Decide.{dec_lt}
use lib.Dec.{lit≤, lit<}
use Rattle.float_whole_root.proofs.Squares.{sq_lt}
use Rattle.float_root.proofs.Floor.{Cut, floor_cut}
use Rattle.rules.specs.Offset.{slope, whole, offset_root}

pub slope_pos : (g : ℕ) → 0 < slope g
slope_pos g = omega arith

-- ---- a root cut to a whole number is the largest whose square is reached
most_cut : {n r m : ℕ} → Cut n r → m * m ≤ n → m ≤ r
most_cut {n} {r} {m} p h =
    let l : m < r + 1 = lt_of_not-le (λ (k : r + 1 ≤ m). lt_irrefl n (lt_of_lt_of_le p.short (le_trans (mul-le-mul k k) h))) in
    omega arith

-- the largest m with m * m * d at most n
pub record Largest (n d r : ℕ) : Type 0 where
  pub reached : r * r * d ≤ n
  pub most : (m : ℕ) → m * m * d ≤ n → m ≤ r

pub only : {n d r s : ℕ} → Largest n d r → Largest n d s → r ≡ s
only {r = r} {s = s} p q = le_antisymm (q.most r p.reached) (p.most s q.reached)

pub largest_cut : (n d r : ℕ) → 0 < d → Cut (n / d) r → Largest n d r
largest_cut n d r o p = record {
  reached = (le-div_iff_mul-le o).0 p.reached;
  most = λ m h. most_cut p ((le-div_iff_mul-le o).1 h);
}

pub largest : (g : ℕ) → Largest whole (slope g) (offset_root g)
unfolding offset_root
largest g = largest_cut whole (slope g) _ (slope_pos g) (floor_cut (whole / slope g))

pub root_falls : (g h : ℕ) → g ≤ h → offset_root h ≤ offset_root g
root_falls g h l =
    let m = offset_root h in
    let k = mul-le-mul l l in
    let s : slope g ≤ slope h = omega arith in
    (largest g).most m (le_trans (mul-le-mul_left (m * m) s) (largest h).reached)

pub root_least : (g : ℕ) → g ≤ 1000 → 2 ^ 52 ≤ offset_root g
root_least g h =
    let k = mul-le-mul h h in
    let s : slope g ≤ 2000000 = omega arith in
    (largest g).most (2 ^ 52) (le_trans (mul-le-mul_left (2 ^ 52 * 2 ^ 52) s) (lit≤ tt))

pub root_greatest : (g : ℕ) → offset_root g ≤ 2 ^ 53
root_greatest g = most_square (2 ^ 53) (offset_root g) (le_of_mul-le-mul_right (le_trans (mul-le-mul_left (offset_root g * offset_root g) least) (le_trans (largest g).reached (lit≤ tt))) (lit< {m = 0} {n = 1000000} tt))
  where
    least : 1000000 ≤ slope g
    least = omega arith

    most_square : (s m : ℕ) → m * m ≤ s * s → m ≤ s
    most_square s m h = elim (dec_lt s m) [
      | yes l ↦ absurd (lt_irrefl (m * m) (lt_of_le_of_lt h (sq_lt l)))
      | no l ↦ omega arith
    ]
