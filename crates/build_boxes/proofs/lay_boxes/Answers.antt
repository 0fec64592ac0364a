-- After j turns the boxes of the first j chains stand, and then come the levels above them.
use mathlib.Core.Path.{◌∙◌, subst}
use native.Mathlib.Nat.{le_antisymm}
use native.Mathlib.Omega.{arith}
use Rattle.build_boxes.proofs.Laying.{part_lying, own_real, own_back, Laid, laid_start, laid_more, laid_raisable, laid_done}
use Rattle.build_boxes.proofs.lay_boxes.Goals as goal

pub loop-j-init : goal.loop-j-init
loop-j-init c = (omega arith, laid_start _ _ _ _ _)

pub extent_of-e-requires : goal.extent_of-e-requires
extent_of-e-requires c = part_lying _ _ _ _ c.requires c.loop-j.j c.loop-j-test.true _ c.known_part.ensures

pub put-requires : goal.put-requires
put-requires c = (omega (arith, c.requires.room, c.loop-j.invariant.1.size), own_real _ _ _ _ c.requires c.loop-j.j c.loop-j-test.true _ c.known_part.ensures c.extent_of-e.ensures)

pub loop-j-preserved : goal.loop-j-preserved
loop-j-preserved c = (omega arith, laid_more _ _ _ _ _ c.loop-j.invariant.1 (omega (arith, c.requires.room)) (own_back _ _ _ _ c.requires c.loop-j.j c.loop-j-test.true _ c.known_part.ensures c.extent_of-e.ensures) c.put.ensures)

pub raise_all-requires : goal.raise_all-requires
raise_all-requires c = laid_raisable _ _ _ _ c.args.k (subst (Laid _ _ _ _ _ c.loop-j.boxes) (le_antisymm c.loop-j.invariant.0 c.loop-j-test.false) c.loop-j.invariant.1) c.requires

pub returns : goal.returns
returns c = c.raise_all.ensures ∙ laid_done _ _ _ _ c.args.k (subst (Laid _ _ _ _ _ c.loop-j.boxes) (le_antisymm c.loop-j.invariant.0 c.loop-j-test.false) c.loop-j.invariant.1)
