-- `second_share` is what the book counts of the second district, line by line.
use Rattle.std.proofs.Common.{◌/◌, get_or, arith}
use Rattle.build_shares.proofs.Shares.{one_brought, all_brought, once_at_most}
use Rattle.build_shares.proofs.second_share.Goals as goal

pub loop-i-preserved : goal.loop-i-preserved
loop-i-preserved c =
    let l = c.loop-i in
    let group = get_or c.args.groups.now l.i 0 in
    let count = get_or c.args.counts.now l.i 0 in
    let once = once_at_most (group / 2147483648) count (omega (arith, c.type_inv.groups l.i)) in (
      omega (arith, c.type_inv.groups l.i),
      omega (arith, c.type_inv.counts l.i),
      one_brought c.args.counts.now c.args.groups.now l.lines l.points l.i (omega arith) (omega arith) (omega (arith, c.type_inv.groups l.i)) l.invariant.2,
    )

pub returns : goal.returns
returns c = all_brought _ _ _ _ c.loop-i.i (omega arith) (omega arith) c.loop-i.invariant.2
