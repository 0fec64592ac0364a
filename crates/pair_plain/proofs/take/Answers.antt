-- `plain::take` meets its contract: six stores.
use lib.ListN.{length-set}
use native.Mathlib.Omega.{arith}
use Rattle.pair_plain.proofs.take.Goals as goal

pub bounds-w-d-2 : goal.bounds-w-d-2
bounds-w-d-2 c = simp length-set (omega arith)

pub bounds-w-d-3 : goal.bounds-w-d-3
bounds-w-d-3 c = simp length-set (omega arith)

pub bounds-w-d-4 : goal.bounds-w-d-4
bounds-w-d-4 c = simp length-set (omega arith)

pub bounds-w-d-5 : goal.bounds-w-d-5
bounds-w-d-5 c = simp length-set (omega arith)

pub bounds-w-d-6 : goal.bounds-w-d-6
bounds-w-d-6 c = simp length-set (omega arith)
