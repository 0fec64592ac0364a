-- The loop is on the way to the whole run: the points from i on are left, each turn lays one of them, and the x of the last point laid is at hand.
use mathlib.Core.Path.{refl, ◌∙◌}
use mathlib.Core.List.{[]}
use native.Mathlib.Omega.{arith}
use lib.ListN.{drop}
use Rattle.rules.specs.Plane.{points}
use Rattle.point_numbers.proofs.Points.{points_few, points_next, points_from, points_past, multiple_less, multiple_next}
use Rattle.point_slices.specs.Run.{walked}
use Rattle.point_slices.proofs.Runs.{way_start, way_step, way_done, push_length, push_then, high_two, high_one, near_at}
use Rattle.point_slices.proofs.forward_high.Goals as goal

pub returns-then-src-width : goal.returns-then-src-width
unfolding walked
returns-then-src-width c =
    let a = c.args in
    rw (points_few a.width a.src.now c.if-src-width.true) (way_done (way_start a.width a.rest.now a.have [] (omega (arith, c.requires.2))))

pub bounds-src-0 : goal.bounds-src-0
bounds-src-0 c = omega (arith, c.if-src-width.false, c.requires.0)

pub push_high-h-requires : goal.push_high-h-requires
push_high-h-requires c =
    (c.requires.0, omega (arith, c.if-src-width.false, c.requires.2), omega (arith, c.if-src-width.false))

pub loop-i-init : goal.loop-i-init
loop-i-init c =
    let a = c.args in
    let long = c.if-src-width.false in
    let two = high_two c.requires.0 in
    let push = c.push_high-h.ensures in
    let n = push_length two a.have _ _ (omega (arith, c.requires.2)) push.holds in (
      long,
      push.there,
      omega (arith, n, c.push_high-h.auto.rest, c.requires.2),
      refl,
      way_start a.width _ _ (points a.width (drop a.width a.src.now)) (omega (arith, n, long, c.push_high-h.auto.rest, c.requires.2)),
      (multiple_less c.requires.1 (omega (arith, c.requires.0, long))).1,
      near_at two a.src.now 0 push,
    )

pub offset_bounds-src-i : goal.offset_bounds-src-i
offset_bounds-src-i c = omega arith

pub bounds-src-i : goal.bounds-src-i
bounds-src-i c = omega arith

pub next_high-h-requires : goal.next_high-h-requires
next_high-h-requires c =
    let l = c.loop-i in
    let next = (multiple_next l.invariant.5 c.loop-i-test.true).0 in
    (c.requires.0, l.invariant.1, omega (arith, l.invariant.2, l.invariant.3, next), next, l.invariant.6)

pub overflow_add-i : goal.overflow_add-i
overflow_add-i c = omega (arith, (multiple_next c.loop-i.invariant.5 c.loop-i-test.true).0)

pub loop-i-smaller : goal.loop-i-smaller
loop-i-smaller c = omega (arith, (multiple_next c.loop-i.invariant.5 c.loop-i-test.true).0, c.requires.0)

pub loop-i-preserved : goal.loop-i-preserved
loop-i-preserved c =
    let a = c.args in
    let l = c.loop-i in
    let two = high_two c.requires.0 in
    let call = c.next_high-h in
    let next = multiple_next l.invariant.5 c.loop-i-test.true in
    let m = way_step two (rw (points_from a.width a.src.now l.i (omega (arith, c.requires.0)) next.0) at l.invariant.4) call.ensures.holds in
    (next.0, call.ensures.there, omega (arith, m.1, l.invariant.2), call.auto.rest ∙ l.invariant.3, m.0, next.1, near_at two a.src.now l.i call.ensures)

pub shape_of-rest : goal.shape_of-rest
shape_of-rest c = c.loop-i.invariant.3 ∙ c.push_high-h.auto.rest

pub returns : goal.returns
unfolding walked
returns c =
    let a = c.args in
    let l = c.loop-i in
    let one = high_one c.requires.0 in
    let none = points_past a.width a.src.now l.i one (omega (arith, c.loop-i-test.false, c.requires.0)) in
    rw (points_next a.width a.src.now one c.if-src-width.false)
    (push_then (high_two c.requires.0) a.have _ _ (omega (arith, c.requires.2)) c.push_high-h.ensures.holds (points a.width (drop a.width a.src.now))
    (way_done (rw none at l.invariant.4)))
