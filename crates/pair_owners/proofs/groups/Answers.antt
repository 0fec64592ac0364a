use Prim.Native.Nat.{◌<◌}
use mathlib.Core.Path.{◌≡◌, sym, ap, ◌∙◌}
use mathlib.Core.Bool.{Bool, cond}
use native.Mathlib.Omega.{arith}
use Rattle.pair_owners.proofs.Turns.{grouping_start, grouping_next, grouping_stop, one_more}
use Rattle.pair_owners.proofs.groups.Goals as goal
use Rattle.pair_owners.proofs.groups.Goals.{then-owns, else-owns}

pub loop-p-init : goal.loop-p-init
loop-p-init c = grouping_start c.args.w.now c.args.d

pub loop-p-preserved : goal.loop-p-preserved
loop-p-preserved c =
    let b = c.owner-owns.result in
    let m = c.loop-p.m in
    let h : m < c.args.d = omega (arith, c.loop-p.invariant.started.few, c.loop-p-test.true) in
    let s : c.if-owns.w ≡ cond b m c.args.d =
    elim c.if-owns.branch [
      | then-owns v ↦ v.w-is ∙ sym (ap (λ (t : Bool). cond t m c.args.d) v.if-owns.true)
      | else-owns v ↦ v.w-is ∙ sym (ap (λ (t : Bool). cond t m c.args.d) v.if-owns.false)
    ] in
    rw s
    (grouping_next c.requires.0 c.loop-p.invariant c.loop-p-test.true _ c.group-g.ensures (cond b m c.args.d) (c.owner-owns.ensures m) c.requires.1 _
    (one_more b m c.args.d h))

pub returns : goal.returns
returns c = grouping_stop c.loop-p.invariant c.loop-p-test.false
