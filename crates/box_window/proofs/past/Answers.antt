-- The key of x is at least the sign's weight exactly where x is a number from zero on.
use borrow.Author.Rules.{rules}
use Rattle.box_window.proofs.Bits.{upto_key}
use Rattle.box_window.proofs.past.Goals as goal

pub returns : goal.returns
returns c = upto_key c.args.x (search rules) _ _ c.low_key.ensures (search rules)
