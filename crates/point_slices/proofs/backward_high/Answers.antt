-- The loop is on the way to the whole run: the points of the first i numbers are left, from the last on, each turn lays one of them, and the x of the last point
-- laid is at hand.
use Prim.Native.Nat.{◌-◌}
use mathlib.Core.Path.{refl, sym, ◌∙◌}
use mathlib.Core.List.{[], reverse}
use native.Mathlib.Omega.{arith}
use lib.ListN.{length, take}
use Rattle.rules.specs.Plane.{points}
use Rattle.point_numbers.proofs.Points.{points_few, multiple_less, turned_one, turned_none, turned_all}
use Rattle.point_slices.specs.Run.{walked}
use Rattle.point_slices.proofs.Runs.{way_start, way_step, way_done, push_length, push_then, high_two, high_one, near_at}
use Rattle.point_slices.proofs.backward_high.Goals as goal

pub returns-then-src-width : goal.returns-then-src-width
unfolding walked
returns-then-src-width c =
    let a = c.args in
    rw (points_few a.width a.src.now c.if-src-width.true) (way_done (way_start a.width a.rest.now a.have [] (omega (arith, c.requires.2))))

pub overflow_sub-i : goal.overflow_sub-i
overflow_sub-i c = omega (arith, c.if-src-width.false)

pub offset_bounds-src-i : goal.offset_bounds-src-i
offset_bounds-src-i c = omega (arith, c.if-src-width.false)

pub bounds-src-i : goal.bounds-src-i
bounds-src-i c = omega (arith, c.if-src-width.false, c.requires.0)

pub push_high-h-requires : goal.push_high-h-requires
push_high-h-requires c =
    (c.requires.0, omega (arith, c.if-src-width.false, c.requires.2), omega (arith, c.if-src-width.false))

pub loop-i-init : goal.loop-i-init
loop-i-init c =
    let a = c.args in
    let long = c.if-src-width.false in
    let two = high_two c.requires.0 in
    let push = c.push_high-h.ensures in
    let n = push_length two a.have _ _ (omega (arith, c.requires.2)) push.holds in (
      omega (arith, long),
      push.there,
      omega (arith, n, long, c.push_high-h.auto.rest, c.requires.2),
      refl,
      way_start a.width _ _ (reverse (points a.width (take (length a.src.now - a.width) a.src.now))) (omega (arith, n, long, c.push_high-h.auto.rest, c.requires.2)),
      (multiple_less c.requires.1 (omega (arith, c.requires.0, long))).1,
      near_at two a.src.now (length a.src.now - a.width) push,
    )

pub overflow_sub-i-in-loop-i : goal.overflow_sub-i-in-loop-i
overflow_sub-i-in-loop-i c = omega (arith, (multiple_less c.loop-i.invariant.5 c.loop-i-test.true).0)

pub offset_bounds-src-i-in-loop-i : goal.offset_bounds-src-i-in-loop-i
offset_bounds-src-i-in-loop-i c = omega (arith, (multiple_less c.loop-i.invariant.5 c.loop-i-test.true).0, c.loop-i.invariant.0)

pub bounds-src-i-in-loop-i : goal.bounds-src-i-in-loop-i
bounds-src-i-in-loop-i c = omega (arith, (multiple_less c.loop-i.invariant.5 c.loop-i-test.true).0, c.loop-i.invariant.0, c.requires.0)

pub next_high-h-requires : goal.next_high-h-requires
next_high-h-requires c =
    let l = c.loop-i in
    let next = (multiple_less l.invariant.5 c.loop-i-test.true).0 in
    (c.requires.0, l.invariant.1, omega (arith, l.invariant.2, l.invariant.3, next), omega (arith, l.invariant.0, next), l.invariant.6)

pub loop-i-smaller : goal.loop-i-smaller
loop-i-smaller c = omega (arith, (multiple_less c.loop-i.invariant.5 c.loop-i-test.true).0, c.requires.0)

pub loop-i-preserved : goal.loop-i-preserved
loop-i-preserved c =
    let a = c.args in
    let l = c.loop-i in
    let two = high_two c.requires.0 in
    let call = c.next_high-h in
    let more = c.loop-i-test.true in
    let next = multiple_less l.invariant.5 more in
    let one = turned_one a.width a.src.now (omega (arith, c.requires.0)) l.i l.invariant.5 more (omega (arith, l.invariant.0)) in
    let m = way_step two (rw one at l.invariant.4) call.ensures.holds in (
      omega (arith, l.invariant.0, next.0),
      call.ensures.there,
      omega (arith, m.1, l.invariant.2, next.0),
      call.auto.rest ∙ l.invariant.3,
      m.0,
      next.1,
      near_at two a.src.now (l.i - a.width) call.ensures,
    )

pub shape_of-rest : goal.shape_of-rest
shape_of-rest c = c.loop-i.invariant.3 ∙ c.push_high-h.auto.rest

pub returns : goal.returns
unfolding walked
returns c =
    let a = c.args in
    let l = c.loop-i in
    let src = a.src.now in
    let one = high_one c.requires.0 in
    let first = turned_one a.width src one (length src) c.requires.1 (omega (arith, c.requires.0, c.if-src-width.false)) (omega arith) in
    rw (sym (turned_all a.width src one) ∙ first)
    (push_then (high_two c.requires.0) a.have _ _ (omega (arith, c.requires.2)) c.push_high-h.ensures.holds (reverse (points a.width (take (length src - a.width) src)))
    (way_done (rw (turned_none a.width src one l.i c.loop-i-test.false) at l.invariant.4)))
