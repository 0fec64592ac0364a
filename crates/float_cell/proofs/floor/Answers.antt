-- `cell::floor` meets its contract. Each literal is its bit pattern's value, so `of_bits` and `neg` are unfolded to see which number it is.
use Rattle.std.proofs.Common.{refl}
use lib.Ieee.{Float, binary64, add, sub, lt, of_bits, neg}
use Rattle.float_cell.proofs.Swift.{M}
use Rattle.float_cell.proofs.Close.{close, castable, moved}
use Rattle.float_cell.proofs.floor.Goals as goal

-- the whole number next to x
abbrev next : Float → Float
next x = sub binary64 (add binary64 x M) M

pub float_to_int-result : goal.float_to_int-result
unfolding of_bits neg
float_to_int-result c =
    let x = c.args.x in
    castable x (next x) (close x c.if-x.true c.if-x-2.true)

pub overflow_sub-result : goal.overflow_sub-result
unfolding of_bits neg
overflow_sub-result c =
    let x = c.args.x in
    (moved x (next x) (close x c.if-x.true c.if-x-2.true) (lt x (next x)) refl).0

pub returns-then-x-2 : goal.returns-then-x-2
unfolding of_bits neg
returns-then-x-2 c =
    let x = c.args.x in
    (moved x (next x) (close x c.if-x.true c.if-x-2.true) (lt x (next x)) refl).1
