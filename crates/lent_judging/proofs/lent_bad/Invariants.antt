-- `lent_bad`: the first q pieces pass, their lines are marked, and the sum is that of their coordinates, not above c. After the last a plain line without a mark refuses them all.
use Prim.Native.Nat.{◌≤◌}
use mathlib.Core.Path.{◌≡◌}
use Rattle.lent_laws.specs.Lent.{as_lines, as_pieces}
use Rattle.lent_judging.specs.Judging.{PointsCounted}
use Rattle.lent_judging.proofs.All.{summed}
use Rattle.lent_judging.proofs.lent_bad.Given as goal

abbrev pub invariant-loop-q : goal.invariant-loop-q
invariant-loop-q l =
    PointsCounted l.width (as_lines l.lines) (as_pieces l.pieces) l.seen l.q
    × (l.sum ≡ summed l.width (as_lines l.lines) (as_pieces l.pieces) l.q)
    × (l.sum ≤ l.c)
