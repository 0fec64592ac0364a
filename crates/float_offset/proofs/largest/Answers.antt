-- `float_offset::largest` meets its contract: the root of the quotient is M.
use Rattle.float_offset.proofs.Turns.{root_is}
use Rattle.float_offset.proofs.largest.Goals as goal

pub returns : goal.returns
returns c = let r = c.quotient_root-root in root_is c.args.g r.result.0 r.result.1 r.ensures.0 r.ensures.1
