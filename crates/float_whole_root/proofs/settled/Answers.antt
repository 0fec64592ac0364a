-- `whole_root::settled` meets its contract: the distance of the square from w * 2 ^ 52, which is exact, says whether g or a neighbour is nearest,
-- and which.
use Prim.Native.Nat.{◌*◌, ◌^◌}
use mathlib.Core.Logic.{inl, inr}
use Rattle.float_whole_root.proofs.Elsewhere.{apart, beside}
use Rattle.float_whole_root.proofs.settled.Goals as goal
use Rattle.float_whole_root.proofs.settled.Goals.{then-square-near-via-then-square-near, then-square-near-via-else-square-near+then-c-near}

pub returns-then-square-near : goal.returns-then-square-near
returns-then-square-near c =
    let far = apart (c.args.w * 2 ^ 52) c.args.g c.requires.2 in
    elim c.then-square-near.branch [
      | then-square-near-via-then-square-near w ↦ far (inl w.if-square-near.true)
      | then-square-near-via-else-square-near+then-c-near w ↦ far (inr w.if-c-near.true)
    ]

pub returns : goal.returns
returns c = beside (c.args.w * 2 ^ 52) c.args.g c.requires.2 c.if-square-near.false c.if-c-near.false
