-- `any_nowhere_wide` tells whether a point is no place, point by point.
use Rattle.std.proofs.Common.{◌∙◌, arith}
use lib.Bits.{or_lt}
use Rattle.std.specs.Slice.Iter.{chunks_exact_rest}
use Rattle.build_refusals.proofs.Places.{told_next, told_all}
use Rattle.build_refusals.proofs.any_nowhere_wide.Goals as goal

pub loop-point-preserved : goal.loop-point-preserved
loop-point-preserved c =
    let l = c.loop-point in
    let x = c.raised-any_x in
    let y = c.raised-any_y in
    let s = c.in-Some.ensures.steps in
    let left = chunks_exact_rest c.next.new.self in (
      s.0 ∙ l.invariant.0,
      or_lt 64 l.any_x x.result l.invariant.1 x.ensures.1,
      or_lt 64 l.any_y y.result l.invariant.2 y.ensures.1,
      told_next c.args.width _ c.in-Some.point.now left l.any_x l.any_y x.result y.result c.requires.0 s.1.0 (omega arith) l.invariant.1 l.invariant.2 x.ensures.0 y.ensures.0 ∙ l.invariant.3,
    )

pub returns : goal.returns
returns c =
    let l = c.loop-point in
    told_all c.args.width (chunks_exact_rest l.point-iterator) l.any_x l.any_y c.requires.0 (omega (arith, c.in-None.ensures.steps.1.0)) l.invariant.1 l.invariant.2 ∙ l.invariant.3
