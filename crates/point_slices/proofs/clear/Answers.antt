-- A room is filled with zeros, or wiped and the rest of it filled.
use Rattle.point_slices.proofs.Zeros.{wiped_whole, wiped_done}
use Rattle.point_slices.proofs.clear.Goals as goal

pub returns-then-n-lt-NEAR : goal.returns-then-n-lt-NEAR
returns-then-n-lt-NEAR c = wiped_whole c.fill_from.ensures

pub returns : goal.returns
returns c = wiped_done c.wipe_all-i.ensures.2 c.wipe_all-i.ensures.0 c.requires c.fill_from-2.ensures
