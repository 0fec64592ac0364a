-- After i turns the last i numbers of the part stand from `at` on, the last first; the part lies beyond, so that it is read as it was.
use Prim.Native.Nat.{◌+◌}
use mathlib.Core.Path.{◌∙◌}
use mathlib.Core.List.{reverse}
use native.Mathlib.Omega.{arith}
use lib.ListN.{length-reverse}
use lib.Seq.{slice}
use Rattle.point_slices.proofs.Laws.{from_start, copy_done, back_more, part_length}
use Rattle.point_slices.proofs.copy_back.Goals as goal

pub loop-i-init : goal.loop-i-init
loop-i-init c = from_start c.args.w.now c.args.at

pub loop-i-preserved : goal.loop-i-preserved
loop-i-preserved c =
    let a = c.args in
    back_more c.loop-i.w a.w.now a.from a.at a.n c.loop-i.i c.loop-i.invariant c.requires.0 c.requires.1 (omega arith)

pub returns : goal.returns
returns c =
    let a = c.args in
    copy_done c.loop-i.w a.w.now (reverse (slice a.from (a.from + a.n) a.w.now)) a.at c.loop-i.i a.n c.loop-i.invariant (omega arith)
    (length-reverse (slice a.from (a.from + a.n) a.w.now) ∙ part_length a.from a.n a.w.now (omega arith))
