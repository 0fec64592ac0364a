-- `raised` meets its contract: from the infinity's pattern on, one more in the exponent's lowest place carries into the sign's.
use native.Mathlib.Omega.{arith}
use Rattle.float_bits.proofs.Patterns.{wild_is}
use Rattle.float_bits.proofs.raised.Goals as goal

pub overflow_add-result : goal.overflow_add-result
overflow_add-result c = omega arith

pub returns : goal.returns
returns c = (wild_is c.args.n, omega arith)
