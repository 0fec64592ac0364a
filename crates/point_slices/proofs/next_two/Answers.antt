-- A point with another x than the last one's is new, and two numbers are stored. One with the same x, but for the sign, goes to `push_two`.
use native.Mathlib.Omega.{arith}
use Rattle.rules.specs.Plane.{point}
use lib.ListN.{length-set}
use Rattle.point_slices.proofs.Runs.{two_two, meets_apart, more_two, near_new, near_one}
use Rattle.point_slices.proofs.next_two.Goals as goal

pub returns-then-x-last : goal.returns-then-x-last
returns-then-x-last c =
    let a = c.args in
    let push = c.push_two.ensures in
    (push, near_one 2 two_two a.rest.now a.have (point a.x a.y) (omega arith) (omega arith) _ _ push (λ two. (c.requires.1 two).0))

pub bounds-rest-have-2 : goal.bounds-rest-have-2
bounds-rest-have-2 c = simp length-set (omega arith)

pub returns : goal.returns
returns c =
    let a = c.args in
    let new = meets_apart 2 two_two a.rest.now a.have (point a.x a.y) (omega arith) (omega arith) a.last c.requires.1 c.if-x-last.false in
    let push = more_two a.rest.now a.have a.x a.y c.requires.0 new in
    (push, near_new 2 two_two a.rest.now a.have (point a.x a.y) (omega arith) (omega arith) _ _ push new)
