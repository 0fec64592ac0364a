-- Where there is a last point, its own x is at hand, and else the point is new.
use Prim.Native.Nat.{◌-◌}
use mathlib.Core.Path.{refl}
use native.Mathlib.Omega.{arith}
use Rattle.point_slices.proofs.Runs.{high_two, last_none, pushed_new}
use Rattle.point_slices.proofs.push_high.Goals as goal

pub next_high-requires : goal.next_high-requires
next_high-requires c =
    (c.requires.0, c.if-width-have.true, c.requires.1, c.requires.2, (λ _. (omega (arith, c.slice_known-then-width-have-1.given (c.args.have - c.args.width)), refl)))

pub returns : goal.returns
returns c =
    let a = c.args in
    let two = high_two c.requires.0 in
    pushed_new a.width two a.rest.now a.have a.src.now a.j (omega (arith, c.requires.1)) (omega (arith, c.shared_slice_known-1.given a.j)) c.requires.2
    c.put_high.ensures (last_none a.width two a.rest.now a.have _ c.if-width-have.false)
