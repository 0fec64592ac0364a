-- The point is kept out where it meets the last one of the first `have` numbers, and else two numbers are stored behind them.
use native.Mathlib.Omega.{arith}
use lib.ListN.{length-set}
use Prim.Native.Nat.{◌≤◌}
use mathlib.Core.Path.{sym, ◌∙◌}
use Rattle.rules.specs.Plane.{point}
use Rattle.point_slices.proofs.Runs.{two_two, last_two, last_none, kept, more_two}
use Rattle.point_slices.proofs.push_two.Goals as goal
use Rattle.point_slices.proofs.push_two.Goals.{else-have-ge2-via-then-have-ge2+else-equal, else-have-ge2-via-else-have-ge2}

pub returns-then-equal : goal.returns-then-equal
returns-then-equal c =
    let a = c.args in
    let two : 2 ≤ a.have = c.if-have-ge2.true in
    kept 2 two_two a.rest.now a.have (point a.x a.y) (omega arith)
    (last_two a.rest.now a.have (point a.x a.y) (omega arith) two ∙ sym c.equal.ensures ∙ c.if-equal.true)

pub bounds-rest-have-3 : goal.bounds-rest-have-3
bounds-rest-have-3 c = simp length-set (omega arith)

pub returns : goal.returns
returns c =
    let a = c.args in
    more_two a.rest.now a.have a.x a.y c.requires
    (elim c.else-have-ge2.branch [
      | else-have-ge2-via-then-have-ge2+else-equal w ↦ last_two a.rest.now a.have (point a.x a.y) (omega arith) w.if-have-ge2.true ∙ sym w.equal.ensures ∙ w.if-equal.false
      | else-have-ge2-via-else-have-ge2 w ↦ last_none 2 two_two a.rest.now a.have (point a.x a.y) (omega (arith, w.if-have-ge2.false))
    ])
