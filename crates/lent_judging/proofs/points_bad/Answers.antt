-- `points_bad`: what ends within the clean front is fine; else the part from the first number to the last is the piece's coordinates, of a whole number of points.
use borrow.Author.Tests.{ne_eqb, le-ltb}
use Rattle.lent_judging.proofs.Single.{points_other, looked_whole, points_told}
use Rattle.lent_judging.proofs.Front.{front_fine}
use Rattle.lent_judging.proofs.points_bad.Goals as goal

pub any_nowhere-requires : goal.any_nowhere-requires
any_nowhere-requires c = (c.requires.0, looked_whole c.args.width c.args.piece c.args.merged.now (c.requires.2 c.if-piece-ne1.false))

pub returns-then-piece-ne1 : goal.returns-then-piece-ne1
returns-then-piece-ne1 c = rw (ne_eqb _ _ c.if-piece-ne1.true) (points_other _ _ _ c.if-piece-ne1.true)

pub returns-then-clean-end : goal.returns-then-clean-end
returns-then-clean-end c = points_told c.args.width c.args.piece c.args.merged.now c.if-piece-ne1.false c.any_nowhere.ensures

pub returns-else-clean-end : goal.returns-else-clean-end
returns-else-clean-end c = rw (le-ltb _ _ c.if-clean-end.false) (front_fine c.args.width c.args.piece c.args.clean c.args.merged.now c.requires.0 c.requires.3 c.if-piece-ne1.false c.if-clean-end.false)
