-- `order::rank` meets its contract: the bits are the sign's weight and the magnitude's bits.
use native.Mathlib.Omega.{arith}
use borrow.Author.Rules.{rules}
use lib.Ieee.{binary64}
use lib.Ieee.Bits.{to_bits-lt}
use Rattle.float_order.proofs.Ranks.{rank_low, rank_high}
use Rattle.float_order.proofs.rank.Goals as goal

pub overflow_sub-result-else-n-lt-SIGN : goal.overflow_sub-result-else-n-lt-SIGN
overflow_sub-result-else-n-lt-SIGN c = omega (arith, to_bits-lt binary64 c.args.x (search rules))

pub returns-then-n-lt-SIGN : goal.returns-then-n-lt-SIGN
returns-then-n-lt-SIGN c = rank_low binary64 c.args.x (search rules) c.requires c.if-n-lt-SIGN.true

pub returns-else-n-lt-SIGN : goal.returns-else-n-lt-SIGN
returns-else-n-lt-SIGN c = rank_high binary64 c.args.x (search rules) c.requires c.if-n-lt-SIGN.false
