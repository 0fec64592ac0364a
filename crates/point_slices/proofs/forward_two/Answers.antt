-- The loop is on the way to the whole run: the points from i on are left, each turn lays one of them, and the x of the last point laid is at hand.
use Prim.Native.Nat.{◌-◌}
use mathlib.Core.Path.{refl, ◌∙◌}
use native.Mathlib.Omega.{arith}
use lib.ListN.{drop, length-drop}
use mathlib.Core.List.{[]}
use Rattle.rules.specs.Plane.{points}
use Rattle.point_numbers.proofs.Points.{points_few}
use Rattle.point_slices.specs.Run.{walked}
use Rattle.point_slices.proofs.Runs.{two_two, way_start, way_step, way_done, push_length, push_then, near_one, points_two}
use Rattle.point_slices.proofs.forward_two.Goals as goal

pub returns-then-src-lt2 : goal.returns-then-src-lt2
unfolding walked
returns-then-src-lt2 c =
    let a = c.args in
    rw (points_few 2 a.src.now (omega arith)) (way_done (way_start 2 a.rest.now a.have [] (omega arith)))

pub bounds-src-0 : goal.bounds-src-0
bounds-src-0 c = omega arith

pub bounds-src-1 : goal.bounds-src-1
bounds-src-1 c = omega arith

pub push_two-w-requires : goal.push_two-w-requires
push_two-w-requires c = omega arith

pub loop-i-init : goal.loop-i-init
loop-i-init c =
    let a = c.args in
    let n = push_length two_two a.have _ _ (omega arith) c.push_two-w.ensures in (
      omega arith,
      omega arith,
      omega (arith, n, c.push_two-w.auto.rest),
      refl,
      way_start 2 _ _ (points 2 (drop 2 a.src.now)) (omega (arith, n, c.push_two-w.auto.rest)),
      near_one 2 two_two a.rest.now a.have _ (omega arith) (omega (arith, c.shared_slice_known-1.given 0)) _ _ c.push_two-w.ensures (λ two. omega (arith, c.slice_known-1.given (a.have - 2))),
    )

pub overflow_add-i : goal.overflow_add-i
overflow_add-i c = omega arith

pub offset_bounds-src-i : goal.offset_bounds-src-i
offset_bounds-src-i c = omega arith

pub bounds-src-i : goal.bounds-src-i
bounds-src-i c = omega arith

pub overflow_add-i-in-loop-i : goal.overflow_add-i-in-loop-i
overflow_add-i-in-loop-i c = omega arith

pub offset_bounds-src-i-in-loop-i : goal.offset_bounds-src-i-in-loop-i
offset_bounds-src-i-in-loop-i c = omega arith

pub bounds-src-i-in-loop-i : goal.bounds-src-i-in-loop-i
bounds-src-i-in-loop-i c = omega arith

pub next_two-w-requires : goal.next_two-w-requires
next_two-w-requires c = (omega arith, c.loop-i.invariant.5)

pub overflow_add-i-in-loop-i-2 : goal.overflow_add-i-in-loop-i-2
overflow_add-i-in-loop-i-2 c = omega arith

pub loop-i-smaller : goal.loop-i-smaller
loop-i-smaller c = omega arith

pub loop-i-preserved : goal.loop-i-preserved
loop-i-preserved c =
    let src = c.args.src.now in
    let m = way_step two_two (rw (points_two src c.loop-i.i (omega arith)) at c.loop-i.invariant.4) c.next_two-w.ensures.0 in
    (omega arith, omega arith, omega (arith, m.1), c.next_two-w.auto.rest ∙ c.loop-i.invariant.3, m.0, c.next_two-w.ensures.1)

pub shape_of-rest : goal.shape_of-rest
shape_of-rest c = omega arith

pub returns : goal.returns
unfolding walked
returns c =
    let a = c.args in
    let none = points_few 2 (drop c.loop-i.i a.src.now) (simp length-drop (omega arith)) in
    rw (points_two a.src.now 0 (omega arith)) (push_then two_two a.have _ _ (omega arith) c.push_two-w.ensures (points 2 (drop 2 a.src.now)) (way_done (rw none at c.loop-i.invariant.4)))
