-- `bits::bits_of` meets its contract: `NAN` is what `to_bits` of the definition gives for the NaN.
use mathlib.Core.Path.{refl, sym, ap, ◌∙◌}
use lib.Ieee.{to_bits}
use Rattle.float_bits.specs.Bits.{bits_of}
use Rattle.float_bits.proofs.Patterns.{is_nan_lem}
use Rattle.float_bits.proofs.bits_of.Goals as goal

pub returns-then-is_nan : goal.returns-then-is_nan
unfolding bits_of to_bits
returns-then-is_nan c = sym (ap bits_of (is_nan_lem _ (sym c.is_nan.ensures.value ∙ c.if-is_nan.true)))

pub returns-else-is_nan : goal.returns-else-is_nan
unfolding bits_of
returns-else-is_nan c = refl
