-- `angle` answers the angle of (x, y): below the axis the lower half of the way round, and else the upper.
use Prim.Native.Nat.{ℕ, ◌/◌}
use mathlib.Core.Path.{ap, ◌∙◌}
use lib.Ieee.{of_bits}
use Rattle.float_order.specs.Key.{key}
use Rattle.pair_owners.proofs.Angles.{angle_lower, angle_upper}
use Rattle.pair_owners.proofs.angle.Goals as goal
use Rattle.pair_owners.proofs.angle.Goals.{then-y, else-y}

pub returns : goal.returns
unfolding of_bits
returns c =
    let a = c.args in
    elim c.if-y.branch [
      | then-y w ↦ angle_lower a.x a.y c.size.ensures c.size-2.ensures w.if-y.true (ap (λ (k : ℕ). k / 2) (c.key.ensures ∙ ap key w.key-is))
      | else-y w ↦ angle_upper a.x a.y c.size.ensures c.size-2.ensures w.if-y.false (ap (λ (k : ℕ). k / 2) (c.key.ensures ∙ ap key w.key-is))
    ]
