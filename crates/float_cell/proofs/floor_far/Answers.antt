-- `cell::floor_far` meets its contract: the whole part, or one less, is the floor.
use Rattle.std.proofs.Common.{T, sym, subst}
use Rattle.float_cell.proofs.Read.{less_is, same_is}
use Rattle.float_cell.proofs.floor_far.Goals as goal

pub returns-then-x-nearest_i64_to_f64 : goal.returns-then-x-nearest_i64_to_f64
returns-then-x-nearest_i64_to_f64 c =
    let t = c.saturating_f64_to_i64-t in
    less_is c.args.x _ t.result _ (subst T (sym c.well_formed.0.1) tt) t.ensures c.nearest_i64_to_f64.ensures c.if-x-nearest_i64_to_f64.true c.saturating_sub.ensures

pub returns-else-x-nearest_i64_to_f64 : goal.returns-else-x-nearest_i64_to_f64
returns-else-x-nearest_i64_to_f64 c =
    let t = c.saturating_f64_to_i64-t in
    same_is c.args.x _ t.result (subst T (sym c.well_formed.0.1) tt) t.ensures c.nearest_i64_to_f64.ensures c.if-x-nearest_i64_to_f64.false
