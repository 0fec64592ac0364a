-- Four numbers are stored one behind another.
use Prim.Native.Nat.{◌*◌}
use Rattle.box_levels.specs.Extents.{boxed_of}
use Rattle.box_levels.proofs.Raised.{four_stores}
use Rattle.box_levels.proofs.put.Goals as goal

pub returns : goal.returns
unfolding boxed_of
returns c = four_stores _ (c.args.j * 4) _ _ _ _ c.requires.0
