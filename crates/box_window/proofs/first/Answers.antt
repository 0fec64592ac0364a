-- The key of x is at least the sign's weight exactly where x is a number from zero on, or a NaN.
use borrow.Author.Rules.{rules}
use Rattle.box_window.proofs.Bits.{from_key}
use Rattle.box_window.proofs.first.Goals as goal

pub returns : goal.returns
returns c = from_key c.args.x (search rules) _ _ c.key.ensures (search rules)
