-- From the last mark down: those that were passed are what the line makes of them, and the others as they were.
use Prim.Native.Nat.{ℕ, suc, ◌-◌}
use mathlib.Core.Path.{◌≡◌, subst}
use native.Mathlib.Omega.{arith}
use Rattle.rules.specs.Plane.{points}
use Rattle.check_marks.proofs.Moving.{Moving, moving_next, put_told}
use Rattle.check_marks.proofs.move_on.Goals as goal

pub loop-j-preserved : goal.loop-j-preserved
loop-j-preserved c =
    let a = c.args in
    let o = c.loop-j in
    let e : o.j ≡ suc (o.j - 1) = omega arith in
    let v : Moving (points a.width a.chain.now) a.base a.low a.end a.drawn a.turned a.drawn_fits.now a.turned_fits.now a.marks.now (suc (o.j - 1)) o.marks =
    subst (λ (n : ℕ). Moving (points a.width a.chain.now) a.base a.low a.end a.drawn a.turned a.drawn_fits.now a.turned_fits.now a.marks.now n o.marks) e o.invariant in
    moving_next (points a.width a.chain.now) a.base a.low a.end a.drawn a.turned a.drawn_fits.now a.turned_fits.now a.marks.now (o.j - 1) o.marks v (omega arith) c.requires.inside c.set_of.result
    (put_told (points a.width a.chain.now) a.base a.low a.end a.drawn a.turned a.drawn_fits.now a.turned_fits.now a.marks.now (o.j - 1) o.marks v (omega arith) c.requires.inside
    c.fresh_at-fresh.result c.mark_here-here.result c.mark_before-before.result c.goes_on-as_drawn.result c.goes_on-as_turned.result c.set_of.result
    c.fresh_at-fresh.ensures c.mark_here-here.ensures c.mark_before-before.ensures c.goes_on-as_drawn.ensures c.goes_on-as_turned.ensures c.set_of.ensures)
