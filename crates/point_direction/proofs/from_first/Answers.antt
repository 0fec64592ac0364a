-- `direction::from_first` meets its contract. What is still to be searched, the points from the i-th number on, gives the direction that is sought; the measure is what is left of the length.
use mathlib.Core.Path.{◌≡◌, sym, ap, ◌∙◌}
use mathlib.Core.Bool.{not}
use Prim.Native.Nat.{◌-◌, ◌≤◌, ◌<◌}
use native.Mathlib.Omega.{arith}
use borrow.Author.Rules.{rules}
use lib.ListN.{length, drop}
use Rattle.rules.specs.Plane.{point, points, direction_of}
use Rattle.point_numbers.specs.Width.{Multiple}
use Rattle.point_numbers.proofs.Points.{multiple_less, multiple_next}
use Rattle.point_direction.proofs.Points.{sought, plain_at, started, found, passed, ended, nothing}
use Rattle.point_direction.proofs.from_first.Goals as goal

-- src/lib.rt:40:9
pub returns-then-c-width : goal.returns-then-c-width
returns-then-c-width c = nothing c.args.width c.requires.0 c.args.c.now c.if-c-width.true

-- src/lib.rt:42:13
pub bounds-c-0 : goal.bounds-c-0
bounds-c-0 c = omega (arith, c.requires.0, c.if-c-width.false)

-- src/lib.rt:43:13
pub bounds-c-1 : goal.bounds-c-1
bounds-c-1 c = omega (arith, c.requires.0, c.if-c-width.false)

-- src/lib.rt:45:5
pub loop-i-init : goal.loop-i-init
loop-i-init c =
    let l = c.args.c.now in
    let o : 0 < length l = omega (arith, c.requires.0, c.if-c-width.false) in
    (c.if-c-width.false, (multiple_less c.requires.1 o).1, started c.args.width c.requires.0 l c.if-c-width.false)

-- src/lib.rt:46:17
pub offset_bounds-c-i : goal.offset_bounds-c-i
offset_bounds-c-i c = omega arith

-- src/lib.rt:46:17
pub bounds-c-i : goal.bounds-c-i
bounds-c-i c = omega arith

-- src/lib.rt:47:19
pub overflow_add-b : goal.overflow_add-b
overflow_add-b c = omega arith

-- src/lib.rt:47:17
pub offset_bounds-c-i-in-loop-i : goal.offset_bounds-c-i-in-loop-i
offset_bounds-c-i-in-loop-i c = omega (arith, c.requires.0, (multiple_next c.loop-i.invariant.1 c.loop-i-test.true).0)

-- src/lib.rt:47:17
pub bounds-c-i-in-loop-i : goal.bounds-c-i-in-loop-i
bounds-c-i-in-loop-i c = omega (arith, c.requires.0, (multiple_next c.loop-i.invariant.1 c.loop-i-test.true).0)

-- src/lib.rt:49:13
pub returns-then-not-equal : goal.returns-then-not-equal
returns-then-not-equal c =
    let l = c.args.c.now in
    let i = c.loop-i.i in
    let next = (multiple_next c.loop-i.invariant.1 c.loop-i-test.true).0 in
    c.between.ensures ∙ found c.args.width c.requires.0 l (plain_at l 0) i next (ap not (sym c.equal.ensures ∙ c.if-not-equal.true)) ∙ c.loop-i.invariant.2

-- src/lib.rt:51:9
pub overflow_add-i : goal.overflow_add-i
overflow_add-i c = omega (arith, (multiple_next c.loop-i.invariant.1 c.loop-i-test.true).0)

-- src/lib.rt:45:5
pub loop-i-smaller : goal.loop-i-smaller
loop-i-smaller c = omega (arith, c.requires.0, (multiple_next c.loop-i.invariant.1 c.loop-i-test.true).0)

-- src/lib.rt:45:5
pub loop-i-preserved : goal.loop-i-preserved
loop-i-preserved c =
    let l = c.args.c.now in
    let i = c.loop-i.i in
    let next = multiple_next c.loop-i.invariant.1 c.loop-i-test.true in
    (next.0, next.1, passed c.args.width c.requires.0 l (plain_at l 0) i next.0 (ap not (sym c.equal.ensures ∙ c.if-not-equal.false)) ∙ c.loop-i.invariant.2)

-- src/lib.rt:35:1
pub returns : goal.returns
returns c =
    let l = c.args.c.now in
    ended c.args.width c.requires.0 l (plain_at l 0) c.loop-i.i c.loop-i-test.false ∙ c.loop-i.invariant.2
