-- `direction::from_last` meets its contract. What is still to be searched, the points of the first i numbers in reverse, gives the direction that is sought; the measure is i.
use mathlib.Core.Path.{◌≡◌, sym, ap, ◌∙◌}
use mathlib.Core.Bool.{not}
use mathlib.Core.List.{reverse}
use Prim.Native.Nat.{◌+◌, ◌-◌, ◌≤◌, ◌<◌}
use native.Mathlib.Omega.{arith}
use borrow.Author.Rules.{rules}
use lib.ListN.{length, take}
use Rattle.rules.specs.Plane.{point, points, direction_of}
use Rattle.point_numbers.specs.Width.{Multiple}
use Rattle.point_numbers.proofs.Points.{multiple_less}
use Rattle.point_direction.proofs.Points.{sought, plain_at, started_back, found_back, passed_back, ended_back, nothing_back}
use Rattle.point_direction.proofs.from_last.Goals as goal

-- src/lib.rt:62:9
pub returns-then-c-width : goal.returns-then-c-width
returns-then-c-width c = nothing_back c.args.width c.requires.0 c.args.c.now c.if-c-width.true

-- src/lib.rt:64:17
pub overflow_sub-i : goal.overflow_sub-i
overflow_sub-i c = omega (arith, c.if-c-width.false)

-- src/lib.rt:65:13
pub offset_bounds-c-i : goal.offset_bounds-c-i
offset_bounds-c-i c = omega (arith, c.if-c-width.false)

-- src/lib.rt:65:13
pub bounds-c-i : goal.bounds-c-i
bounds-c-i c = omega (arith, c.requires.0, c.if-c-width.false)

-- src/lib.rt:66:15
pub overflow_add-y : goal.overflow_add-y
overflow_add-y c = omega (arith, c.requires.0, c.if-c-width.false)

-- src/lib.rt:66:13
pub offset_bounds-c-i-2 : goal.offset_bounds-c-i-2
offset_bounds-c-i-2 c = omega (arith, c.requires.0, c.if-c-width.false)

-- src/lib.rt:66:13
pub bounds-c-i-2 : goal.bounds-c-i-2
bounds-c-i-2 c = omega (arith, c.requires.0, c.if-c-width.false)

-- src/lib.rt:67:5
pub loop-i-init : goal.loop-i-init
loop-i-init c =
    let l = c.args.c.now in
    let o : 0 < length l = omega (arith, c.requires.0, c.if-c-width.false) in
    (omega (arith, c.if-c-width.false), (multiple_less c.requires.1 o).1, started_back c.args.width c.requires.0 l c.requires.1 o)

-- src/lib.rt:68:9
pub overflow_sub-i-in-loop-i : goal.overflow_sub-i-in-loop-i
overflow_sub-i-in-loop-i c = omega (arith, (multiple_less c.loop-i.invariant.1 c.loop-i-test.true).0)

-- src/lib.rt:69:17
pub offset_bounds-c-i-in-loop-i : goal.offset_bounds-c-i-in-loop-i
offset_bounds-c-i-in-loop-i c = omega (arith, c.loop-i.invariant.0)

-- src/lib.rt:69:17
pub bounds-c-i-in-loop-i : goal.bounds-c-i-in-loop-i
bounds-c-i-in-loop-i c = omega (arith, c.loop-i.invariant.0, c.requires.0)

-- src/lib.rt:70:19
pub overflow_add-b : goal.overflow_add-b
overflow_add-b c = omega (arith, c.loop-i.invariant.0, c.requires.0)

-- src/lib.rt:70:17
pub offset_bounds-c-i-in-loop-i-2 : goal.offset_bounds-c-i-in-loop-i-2
offset_bounds-c-i-in-loop-i-2 c = omega (arith, c.loop-i.invariant.0, c.requires.0)

-- src/lib.rt:70:17
pub bounds-c-i-in-loop-i-2 : goal.bounds-c-i-in-loop-i-2
bounds-c-i-in-loop-i-2 c = omega (arith, c.loop-i.invariant.0, c.requires.0, (multiple_less c.loop-i.invariant.1 c.loop-i-test.true).0)

-- src/lib.rt:72:13
pub returns-then-not-equal : goal.returns-then-not-equal
returns-then-not-equal c =
    let l = c.args.c.now in
    let p = c.loop-i in
    c.between.ensures
    ∙ found_back c.args.width c.requires.0 l (plain_at l (length l - c.args.width)) p.i p.invariant.1 c.loop-i-test.true (omega (arith, p.invariant.0)) (ap not (sym c.equal.ensures ∙ c.if-not-equal.true))
    ∙ p.invariant.2

-- src/lib.rt:67:5
pub loop-i-smaller : goal.loop-i-smaller
loop-i-smaller c = omega (arith, c.requires.0, (multiple_less c.loop-i.invariant.1 c.loop-i-test.true).0)

-- src/lib.rt:67:5
pub loop-i-preserved : goal.loop-i-preserved
loop-i-preserved c =
    let l = c.args.c.now in
    let p = c.loop-i in
    let less = multiple_less p.invariant.1 c.loop-i-test.true in
    (omega (arith, p.invariant.0), less.1, passed_back c.args.width c.requires.0 l (plain_at l (length l - c.args.width)) p.i p.invariant.1 c.loop-i-test.true (omega (arith, p.invariant.0)) (ap not (sym c.equal.ensures ∙ c.if-not-equal.false)) ∙ p.invariant.2)

-- src/lib.rt:57:1
pub returns : goal.returns
returns c =
    let l = c.args.c.now in
    ended_back c.args.width c.requires.0 l (plain_at l (length l - c.args.width)) c.loop-i.i c.loop-i-test.false ∙ c.loop-i.invariant.2
