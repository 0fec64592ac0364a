-- The root that `quotient_root` finds is M.
use Prim.Native.Nat.{ℕ, ◌+◌, ◌*◌, ◌/◌, ◌≤◌}
use mathlib.Core.Path.{◌≡◌}
use native.Mathlib.Omega.{arith}
use Rattle.float_root.proofs.Floor.{Cut}
use Rattle.float_whole_root.proofs.Squares.{sq_more}
use Rattle.rules.specs.Offset.{whole, slope, offset_root}
use Rattle.float_offset.proofs.Roots.{only, largest_cut, largest, slope_pos}

pub root_is : (g q over : ℕ) → q * q + over ≡ whole / slope g → over ≤ 2 * q → q ≡ offset_root g
root_is g q over e o =
    let c : Cut (whole / slope g) q = record { reached = omega arith; short = omega (arith, sq_more q) } in
    only (largest_cut whole (slope g) q (slope_pos g) c) (largest g)
