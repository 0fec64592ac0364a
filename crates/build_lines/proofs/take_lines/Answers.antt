-- After k lines the plain ones among them stand in the block: `Taking` says how, and its laws are the start, a line of either sort, and the end.
use Prim.Native.Nat.{◌≤◌}
use mathlib.Core.Path.{sym, ◌∙◌}
use native.Mathlib.Omega.{arith}
use lib.ListN.{get_or}
use Rattle.build_lines.proofs.Taking.{taking_start, taking_plain, taking_other, taking_done}
use Rattle.build_lines.proofs.take_lines.Goals as goal
use Rattle.build_lines.proofs.take_lines.Goals.{then-is_plain, else-is_plain}

pub loop-k-init : goal.loop-k-init
loop-k-init c =
    let a = c.args in
    taking_start a.w.now a.n a.counts.now a.kinds.now

pub loop-k-preserved : goal.loop-k-preserved
loop-k-preserved c =
    let k = c.loop-k.k in
    let small : get_or c.args.counts.now k 0 ≤ 4294967295 = omega (arith, c.type_inv.counts k) in
    let tested = sym c.is_plain.ensures in
    elim c.if-is_plain.branch [
      | then-is_plain w ↦ taking_plain c.loop-k.invariant c.requires (omega arith) small (tested ∙ w.if-is_plain.true) w.put.ensures w.w-is w.m-is
      | else-is_plain w ↦ taking_other c.loop-k.invariant c.requires (omega arith) small (tested ∙ w.if-is_plain.false) w.w-is w.m-is
    ]

pub returns : goal.returns
returns c = taking_done c.loop-k.invariant c.requires (omega arith)
