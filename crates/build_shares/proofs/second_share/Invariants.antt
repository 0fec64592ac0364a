-- `second_share` is what the book counts of the second district. The loop keeps what is brought so far beside what is left; a group by the border is 0
-- or 1.
use Prim.Native.Nat.{◌*◌, ◌≤◌}
use Rattle.build_shares.proofs.Shares.{Brought}
use Rattle.build_shares.proofs.second_share.Given as goal

abbrev pub invariant-loop-i : goal.invariant-loop-i
invariant-loop-i l =
    (l.lines ≤ l.i) × (l.points ≤ l.i * 4294967295) × Brought l.counts l.groups l.lines l.points l.i
