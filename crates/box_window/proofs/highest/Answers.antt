-- A box is followed by as many levels as its number has zeros behind its last one, up to the last level.
use Prim.Native.Nat.{◌-◌}
use native.Mathlib.Omega.{arith}
use Rattle.box_window.proofs.Climbs.{climbed}
use Rattle.box_window.proofs.highest.Goals as goal

pub returns : goal.returns
returns c =
    let a = c.args in
    let m = c.min-up.ensures in
    climbed (a.top - a.level) a.level a.j c.min-up.result c.requires.1 (omega arith) (omega arith) (omega arith) (λ h. omega arith)
