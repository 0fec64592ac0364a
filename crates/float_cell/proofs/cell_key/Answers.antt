-- `cell::cell_key` meets its contract: a floor is an `i64`, which a call hands on as it is.
use Rattle.float_cell.proofs.Same.{joined}
use Rattle.float_cell.proofs.cell_key.Goals as goal

pub returns : goal.returns
returns c =
    let o = c.of_bits in
    let e = c.floor in
    let a = c.args in
    joined c.lift.result a.n e.result o.result a.origin a.tolerance c.lift.ensures e.ensures o.ensures
