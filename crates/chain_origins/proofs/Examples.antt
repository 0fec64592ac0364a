-- A line of a tile whose corner is 1024, 0, moved to the corner 0, 0: that what `moved_cell` asks for is met, and the cells, computed.
use mathlib.Core.Path.{◌≡◌, refl}
use lib.IntN.{pos}
use lib.Ieee.{binary64, of_bits, sub, div, fits}
use Rattle.rules.specs.Cell.{cell, floor64}
use Rattle.float_order.proofs.Near.{unit, over, under}
use Rattle.chain_origins.specs.Moved.{Moved}

-- 1025.5 from 1024, and 1.5 from 0
pub example : Moved (of_bits binary64 0x4090_0600_0000_0000) (of_bits binary64 0x4090_0000_0000_0000) (of_bits binary64 0x3ff8_0000_0000_0000) (of_bits binary64 0)
unfolding of_bits fits over under unit
example =
    record {
      coordinate = record { held = tt; somewhere = tt };
      origin = record { held = tt; somewhere = tt };
      coordinate' = record { held = tt; somewhere = tt };
      origin' = record { held = tt; somewhere = tt };
      distance = refl;
    }

-- at tolerance 1 both are in cell 1
pub computed : (cell (of_bits binary64 0x3ff0_0000_0000_0000) (of_bits binary64 0x4090_0000_0000_0000) 0x4090_0600_0000_0000 ≡ pos 1)
    × (cell (of_bits binary64 0x3ff0_0000_0000_0000) (of_bits binary64 0) 0x3ff8_0000_0000_0000 ≡ pos 1)
unfolding cell of_bits floor64 sub div
computed = (refl, refl)
