-- A piece has a point, and each side names one.
use Rattle.std.proofs.Common.{arith, ◌+◌, ◌≤◌, ◌<◌, length, add-zero}
use borrow.Author.Tests.{eq-eqb, ne_eqb}
use Rattle.chain_keys.specs.Keys.{number_at}
use Rattle.chain_keys.proofs.Laws.{number_long}
use Rattle.chain_keys.proofs.point_at.Goals as goal
use Rattle.chain_keys.proofs.point_at.Goals.{After-coordinates_of-c, Joined-side-eq0, then-side-eq0, else-side-eq0}

long : (c : After-coordinates_of-c) → c.args.width ≤ length c.coordinates_of-c.result.now
long c = rw c.coordinates_of-c.ensures (number_long _ _ _ _ _ c.requires)

within : (c : Joined-side-eq0) → c.if-side-eq0.at + 1 < length c.coordinates_of-c.result.now
within c =
    let l = long (goal.at.Joined-side-eq0 c).After-coordinates_of-c in
    elim c.if-side-eq0.branch [ then-side-eq0 w ↦ omega (arith, w.at-is, c.requires.two) | else-side-eq0 w ↦ omega (arith, w.at-is, c.requires.two) ]

pub overflow_sub-at : goal.overflow_sub-at
overflow_sub-at c = long (goal.at.overflow_sub-at c).After-coordinates_of-c

pub bounds-c-at : goal.bounds-c-at
bounds-c-at c = omega (arith, within (goal.at.bounds-c-at c).Joined-side-eq0)

pub bounds-c-at-2 : goal.bounds-c-at-2
bounds-c-at-2 c = within (goal.at.bounds-c-at-2 c).Joined-side-eq0

pub returns-clause-x : goal.returns-clause-x
unfolding number_at
returns-clause-x c =
    elim c.if-side-eq0.branch [
      | then-side-eq0 w ↦ rw (w.at-is, eq-eqb c.args.side 0 w.if-side-eq0.true, c.coordinates_of-c.ensures) (simp add-zero)
      | else-side-eq0 w ↦ rw (w.at-is, ne_eqb c.args.side 0 w.if-side-eq0.false, c.coordinates_of-c.ensures) (simp add-zero)
    ]

pub returns-clause-y : goal.returns-clause-y
unfolding number_at
returns-clause-y c =
    elim c.if-side-eq0.branch [
      | then-side-eq0 w ↦ rw (w.at-is, eq-eqb c.args.side 0 w.if-side-eq0.true, c.coordinates_of-c.ensures)
      | else-side-eq0 w ↦ rw (w.at-is, ne_eqb c.args.side 0 w.if-side-eq0.false, c.coordinates_of-c.ensures)
    ]
