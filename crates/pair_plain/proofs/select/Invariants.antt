-- The loop keeps what holds between turns, and what is left over falls with each.
use mathlib.Core.Bool.{not}
use lib.Dec.{eqb}
use Rattle.pair_plain.proofs.Stale.{left_over}
use Rattle.pair_plain.proofs.Route.{Going}
use Rattle.pair_plain.proofs.select.Given as goal

abbrev pub invariant-loop-low : goal.invariant-loop-low
invariant-loop-low g l = Going (not (eqb g.row.BLOCKS 0)) l.fn.w l.d l.limit l.w l.n

abbrev pub decreases-loop-low : goal.decreases-loop-low
decreases-loop-low g l = left_over l.w l.d l.n
