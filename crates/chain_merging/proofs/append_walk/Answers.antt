-- Between two entries the runs laid and those that are left make the whole walk (`Laying`).
use Prim.Native.Nat.{◌+◌}
use mathlib.Core.Path.{◌≡◌}
use native.Mathlib.Omega.{arith}
use native.Mathlib.Nat.{add-zero}
use Rattle.chain_merging.proofs.Coordinates.{entry_read, laying_start, laying_done, laying_asks, laying_step}
use Rattle.chain_merging.proofs.append_walk.Goals as goal

pub loop-e-init : goal.loop-e-init
loop-e-init c = let a = c.args in λ y. rw add-zero (laying_start a.width a.w.now a.old a.from a.to a.input.now a.spare.now a.merged.now a.at y)

pub append_piece-have-requires : goal.append_piece-have-requires
append_piece-have-requires c =
    let a = c.args in
    let l = c.loop-e in
    laying_asks a.width a.w.now a.old a.from a.to a.input.now a.spare.now a.merged.now a.at c.requires l.merged l.have (a.from + l.e-index) (l.invariant c.requires) (omega arith)
    _ (entry_read a.w.now a.from a.to l.e-index (omega arith))

pub loop-e-preserved : goal.loop-e-preserved
loop-e-preserved c =
    let a = c.args in
    let l = c.loop-e in
    let p = c.append_piece-have in
    λ y. rw (let e : a.from + (l.e-index + 1) ≡ a.from + l.e-index + 1 = omega arith in e)
    (laying_step a.width a.w.now a.old a.from a.to a.input.now a.spare.now a.merged.now a.at y l.merged l.have (a.from + l.e-index) (l.invariant y) (omega arith)
    _ (entry_read a.w.now a.from a.to l.e-index (omega arith)) p.new.rest p.result p.ensures)

pub returns : goal.returns
returns c =
    let a = c.args in
    let l = c.loop-e in
    λ y. laying_done a.width a.w.now a.old a.from a.to a.input.now a.spare.now a.merged.now a.at y l.merged l.have (a.from + l.e-index) (l.invariant y) (omega arith)
