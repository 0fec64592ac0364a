-- A float that is kept as its bits comes back as it was, and the bits are a number of 64 binary digits: lib.Ieee's laws of `to_bits`, read for `bits_of`.
use mathlib.Core.Path.{◌≡◌}
use lib.Dec.{T}
use lib.Ieee.{Float, binary64, of_bits, fits}
use lib.Ieee.Bits.{of_bits-to_bits}
use Rattle.float_bits.specs.Bits.{bits_of}

pub of_bits_of : (x : Float) → T (fits binary64 x) → of_bits binary64 (bits_of x) ≡ x
unfolding bits_of
of_bits_of x h = of_bits-to_bits binary64 x h
