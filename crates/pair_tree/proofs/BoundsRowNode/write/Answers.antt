use borrow.Author.Rules.{rules}
use native.Mathlib.Omega.{arith}
use Rattle.float_order.proofs.Order.{finite_num}
use Rattle.pair_tree.proofs.Stores.{bounds_back}
use Rattle.pair_tree.proofs.BoundsRowNode.write.Goals as goal

pub float_to_bits-w : goal.float_to_bits-w
float_to_bits-w c = finite_num _ c.requires.sound.low_x_finite

pub float_to_bits-w-2 : goal.float_to_bits-w-2
float_to_bits-w-2 c = finite_num _ c.requires.sound.low_y_finite

pub float_to_bits-w-3 : goal.float_to_bits-w-3
float_to_bits-w-3 c = finite_num _ c.requires.sound.high_x_finite

pub float_to_bits-w-4 : goal.float_to_bits-w-4
float_to_bits-w-4 c = finite_num _ c.requires.sound.high_y_finite

pub returns-clause-put : goal.returns-clause-put
returns-clause-put c =
    bounds_back c.args.w.now c.args.k c.args.self (omega (arith, c.requires.room))
    (record { from_low_x = search rules; from_low_y = search rules; to_high_x = search rules; to_high_y = search rules })
