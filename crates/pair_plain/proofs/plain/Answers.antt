-- `plain::plain` meets its contract: each way through it gives the selection, and where every direction is beyond the box around all there is no pair.
use Rattle.pair_all_directions.proofs.Nothing.{idle_none}
use Rattle.pair_plain.proofs.plain.Goals as goal

pub returns-then-idle : goal.returns-then-idle
returns-then-idle c =
    rw c.key.ensures at (idle_none c.requires.0 _ c.idle.ensures c.if-idle.true)
