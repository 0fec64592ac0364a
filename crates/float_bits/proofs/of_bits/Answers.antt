-- `bits::of_bits` meets its contract: elsewhere than at a NaN's bits `from_bits` is defined.
use mathlib.Core.Path.{sym, ◌∙◌, subst}
use mathlib.Core.Bool.{Bool, not}
use lib.Dec.{T}
use lib.Ieee.{binary64}
use lib.Ieee.Bits.{nan_bits_is}
use Rattle.float_bits.proofs.Patterns.{is_nan_lem, the_nan}
use Rattle.float_bits.proofs.of_bits.Goals as goal

pub returns-then-is_nan : goal.returns-then-is_nan
returns-then-is_nan c = the_nan ∙ sym (is_nan_lem _ (sym c.is_nan.ensures ∙ c.if-is_nan.true))

pub float_from_bits-result : goal.float_from_bits-result
float_from_bits-result c =
    subst (λ (b : Bool). T (not b)) (sym (nan_bits_is binary64 c.args.n ∙ sym c.is_nan.ensures ∙ c.if-is_nan.false)) tt
