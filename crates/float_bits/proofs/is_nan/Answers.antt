-- `bits::is_nan` meets its contract: a NaN's pattern, with the sign's bit taken off, is above the infinity's.
use mathlib.Core.Path.{sym, ◌∙◌}
use lib.Ieee.{binary64}
use lib.Ieee.Bits.{nan_bits_is, nan_bits_above}
use Rattle.float_bits.proofs.is_nan.Goals as goal

pub returns : goal.returns
returns c = sym (nan_bits_above binary64 c.args.n) ∙ nan_bits_is binary64 c.args.n
