-- What is left of the room and all bytes are the room and the bytes from chain j on.
use Prim.Native.Nat.{ℕ, ◌+◌}
use mathlib.Core.Path.{ap, ◌∙◌}
use native.Mathlib.Omega.{arith}
use Rattle.wkb_writing.proofs.Chains.{bytes_next, bytes_none, room_passed, room_enough}
use Rattle.wkb_writing.proofs.run_short.Goals as goal

pub returns-then-left-size : goal.returns-then-left-size
returns-then-left-size c =
    let a = c.args in
    let t = a.table.now in
    room_passed _ _ _ _ _ c.loop-j.invariant.0 (c.loop-j.invariant.1 ∙ ap (λ (n : ℕ). a.room + n) (bytes_next _ t t t _ _ c.loop-j-test.true)) c.if-left-size.true

pub loop-j-preserved : goal.loop-j-preserved
loop-j-preserved c =
    let a = c.args in
    let t = a.table.now in
    omega (arith, bytes_next a.width t t t c.loop-j.j a.k c.loop-j-test.true)

pub returns : goal.returns
returns c = room_enough _ _ _ c.loop-j.invariant.0 (c.loop-j.invariant.1 ∙ ap (λ (n : ℕ). c.args.room + n) (bytes_none _ _ _ _ c.loop-j-test.false))
