-- The loop is on the way to the whole run: the first k points are left, from the last on, each turn lays one of them, and the x of the last point laid is at hand.
use Prim.Native.Nat.{◌+◌, ◌-◌, ◌/◌}
use mathlib.Core.Path.{refl, sym, ◌∙◌}
use native.Mathlib.Omega.{arith}
use lib.ListN.{length, take}
use mathlib.Core.List.{[], reverse}
use Rattle.rules.specs.Plane.{points}
use Rattle.point_slices.specs.Run.{walked}
use Rattle.point_slices.proofs.Runs.{two_two, way_start, way_step, way_done, push_length, push_then, near_one, back_all, back_one, back_none}
use Rattle.point_slices.proofs.backward_two.Goals as goal

pub returns-then-k-eq0 : goal.returns-then-k-eq0
unfolding walked
returns-then-k-eq0 c =
    let a = c.args in
    rw (sym (back_all a.src.now) ∙ back_none a.src.now (length a.src.now / 2) (omega arith)) (way_done (way_start 2 a.rest.now a.have [] (omega arith)))

pub overflow_sub-k : goal.overflow_sub-k
overflow_sub-k c = omega arith

pub overflow_add-last : goal.overflow_add-last
overflow_add-last c = omega arith

pub offset_bounds-src-k : goal.offset_bounds-src-k
offset_bounds-src-k c = omega arith

pub bounds-src-k : goal.bounds-src-k
bounds-src-k c = omega arith

pub overflow_add-k : goal.overflow_add-k
overflow_add-k c = omega arith

pub overflow_add-k-2 : goal.overflow_add-k-2
overflow_add-k-2 c = omega arith

pub offset_bounds-src-k-2 : goal.offset_bounds-src-k-2
offset_bounds-src-k-2 c = omega arith

pub bounds-src-k-2 : goal.bounds-src-k-2
bounds-src-k-2 c = omega arith

pub push_two-w-requires : goal.push_two-w-requires
push_two-w-requires c = omega arith

pub loop-k-init : goal.loop-k-init
loop-k-init c =
    let a = c.args in
    let n = push_length two_two a.have _ _ (omega arith) c.push_two-w.ensures in (
      omega arith,
      omega (arith, n, c.push_two-w.auto.rest),
      refl,
      way_start 2 _ _ (reverse (take (length a.src.now / 2 - 1) (points 2 a.src.now))) (omega (arith, n, c.push_two-w.auto.rest)),
      near_one 2 two_two a.rest.now a.have _ (omega arith) (omega (arith, c.shared_slice_known-1.given (length a.src.now / 2 - 1 + (length a.src.now / 2 - 1)))) _ _ c.push_two-w.ensures (λ two. omega (arith, c.slice_known-1.given (a.have - 2))),
    )

pub overflow_sub-k-in-loop-k : goal.overflow_sub-k-in-loop-k
overflow_sub-k-in-loop-k c = omega arith

pub overflow_add-x : goal.overflow_add-x
overflow_add-x c = omega arith

pub offset_bounds-src-k-in-loop-k : goal.offset_bounds-src-k-in-loop-k
offset_bounds-src-k-in-loop-k c = omega arith

pub bounds-src-k-in-loop-k : goal.bounds-src-k-in-loop-k
bounds-src-k-in-loop-k c = omega arith

pub overflow_add-k-in-loop-k : goal.overflow_add-k-in-loop-k
overflow_add-k-in-loop-k c = omega arith

pub overflow_add-k-in-loop-k-2 : goal.overflow_add-k-in-loop-k-2
overflow_add-k-in-loop-k-2 c = omega arith

pub offset_bounds-src-k-in-loop-k-2 : goal.offset_bounds-src-k-in-loop-k-2
offset_bounds-src-k-in-loop-k-2 c = omega arith

pub bounds-src-k-in-loop-k-2 : goal.bounds-src-k-in-loop-k-2
bounds-src-k-in-loop-k-2 c = omega arith

pub next_two-w-requires : goal.next_two-w-requires
next_two-w-requires c = (omega arith, c.loop-k.invariant.4)

pub loop-k-smaller : goal.loop-k-smaller
loop-k-smaller c = omega arith

pub loop-k-preserved : goal.loop-k-preserved
loop-k-preserved c =
    let src = c.args.src.now in
    let m = way_step two_two (rw (back_one src c.loop-k.k (omega arith) (omega arith)) at c.loop-k.invariant.3) c.next_two-w.ensures.0 in
    (omega arith, omega (arith, m.1), c.next_two-w.auto.rest ∙ c.loop-k.invariant.2, m.0, c.next_two-w.ensures.1)

pub shape_of-rest : goal.shape_of-rest
shape_of-rest c = omega arith

pub returns : goal.returns
unfolding walked
returns c =
    let a = c.args in
    let src = a.src.now in
    let first = sym (back_all src) ∙ back_one src (length src / 2) (omega arith) (omega arith) in
    rw first
    (push_then two_two a.have _ _ (omega arith) c.push_two-w.ensures (reverse (take (length src / 2 - 1) (points 2 src)))
    (way_done (rw (back_none src c.loop-k.k c.loop-k-test.false) at c.loop-k.invariant.3)))
