-- `bits::is_finite` meets its contract: without the sign's bit, a finite number's pattern is below the infinity's.
use Rattle.float_bits.proofs.Patterns.{finite_below}
use Rattle.float_bits.proofs.is_finite.Goals as goal

pub returns : goal.returns
returns c = finite_below c.args.n
