-- What is counted and what is left are the members of the walk (`Counting`).
use Prim.Native.Nat.{◌+◌}
use native.Mathlib.Omega.{arith}
use native.Mathlib.Nat.{add-zero}
use Rattle.chain_merging.proofs.Coordinates.{entry_read}
use Rattle.chain_merging.proofs.Counting.{counting_start, counting_done, counting_fits, counting_step}
use Rattle.chain_merging.proofs.count_members.Goals as goal

pub loop-e-init : goal.loop-e-init
loop-e-init c = λ y. rw add-zero (counting_start c.args.w.now c.args.old c.args.from c.args.to y)

pub overflow_add-r : goal.overflow_add-r
overflow_add-r c =
    let a = c.args in
    let l = c.loop-e in
    omega (
      arith,
      counting_fits a.w.now a.old a.from a.to c.requires l.r (a.from + l.e-index) (l.invariant c.requires) (omega arith) _ (entry_read a.w.now a.from a.to l.e-index (omega arith))
          c.read.result.members c.read.ensures.members,
    )

pub loop-e-preserved : goal.loop-e-preserved
loop-e-preserved c =
    let a = c.args in
    let l = c.loop-e in
    λ y. counting_step a.w.now a.old a.from a.to y l.r (a.from + l.e-index) (l.invariant y) (omega arith) _ (entry_read a.w.now a.from a.to l.e-index (omega arith))
    c.read.result.members c.read.ensures.members (a.from + (l.e-index + 1)) (omega arith)

pub returns : goal.returns
returns c =
    let a = c.args in
    let l = c.loop-e in
    λ y. counting_done a.w.now a.old a.from a.to y l.r (a.from + l.e-index) (l.invariant y) (omega arith)
