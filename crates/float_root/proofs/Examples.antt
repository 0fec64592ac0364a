-- Roots that antt computes: the definition runs.
use mathlib.Core.Path.{◌≡◌, refl}
use mathlib.Core.Bool.{true, false}
use lib.IntN.{pos, negsuc}
use lib.Ieee.{nan, inf, fin, binary64, of_bits, mul}
use Rattle.rules.specs.Root.{root}
use Rattle.rules.proofs.Computing.{book}

-- the root of 4; of the smallest double, which is 2 ^ -537; of the largest; of 2 and of 0.1
four : root binary64 (fin false 1 (pos 2)) ≡ fin false 1 (pos 1)
unfolding book root
four = refl

smallest : root binary64 (fin false 1 (negsuc 1073)) ≡ fin false 1 (negsuc 536)
unfolding book root
smallest = refl

largest : root binary64 (of_bits binary64 0x7fef_ffff_ffff_ffff) ≡ of_bits binary64 0x5fef_ffff_ffff_ffff
unfolding book root
largest = refl

two : root binary64 (of_bits binary64 0x4000_0000_0000_0000) ≡ of_bits binary64 0x3ff6_a09e_667f_3bcd
unfolding book root
two = refl

tenth : root binary64 (of_bits binary64 0x3fb9_9999_9999_999a) ≡ of_bits binary64 0x3fd4_3d13_6248_490f
unfolding book root
tenth = refl

-- 2 ^ -538 squared is 0, whose root is 0, and 2 ^ 512 squared is an infinity
vanished : root binary64 (mul binary64 (fin false 1 (negsuc 537)) (fin false 1 (negsuc 537))) ≡ fin false 0 (pos 0)
unfolding root mul
vanished = refl

unbounded : root binary64 (mul binary64 (fin false 1 (pos 512)) (fin false 1 (pos 512))) ≡ inf false
unfolding root mul
unbounded = refl

-- no number, the infinities, the zeros, and a number below zero
apart : (root binary64 nan ≡ nan) × (root binary64 (inf false) ≡ inf false) × (root binary64 (inf true) ≡ nan) × (root binary64 (fin false 0 (pos 0)) ≡ fin false 0 (pos 0)) × (root binary64 (fin true 0 (pos 0)) ≡ fin true 0 (pos 0)) × (root binary64 (fin true 1 (pos 0)) ≡ nan)
unfolding root
apart = (refl, refl, refl, refl, refl, refl)
