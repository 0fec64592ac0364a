-- After k turns the first 32 k numbers are zero.
use Prim.Native.Nat.{◌+◌, ◌*◌}
use mathlib.Core.Path.{◌≡◌}
use native.Mathlib.Omega.{arith}
use Rattle.point_slices.proofs.Zeros.{wiped_more}
use Rattle.point_slices.proofs.wipe_all.Goals as goal

pub loop-k-preserved : goal.loop-k-preserved
loop-k-preserved c =
    let e : c.loop-k.k * 32 + 32 ≡ (c.loop-k.k + 1) * 32 = omega arith in
    rw (← e) (wiped_more c.loop-k.invariant (omega arith) c.wipe.ensures)
