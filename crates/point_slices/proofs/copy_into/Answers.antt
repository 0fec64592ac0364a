-- After i turns the first i numbers of `src` stand from `at` on.
use mathlib.Core.Path.{refl}
use native.Mathlib.Omega.{arith}
use lib.ListN.{length}
use Rattle.point_slices.proofs.Laws.{from_start, copy_more, copy_done}
use Rattle.point_slices.proofs.copy_into.Goals as goal

pub loop-i-init : goal.loop-i-init
loop-i-init c = from_start c.args.dst.now c.args.at

pub loop-i-preserved : goal.loop-i-preserved
loop-i-preserved c = copy_more c.loop-i.dst c.args.dst.now c.args.src.now c.args.at c.loop-i.i c.loop-i.invariant c.requires c.loop-i-test.true

pub returns : goal.returns
returns c = copy_done c.loop-i.dst c.args.dst.now c.args.src.now c.args.at c.loop-i.i (length c.args.src.now) c.loop-i.invariant (omega arith) refl
