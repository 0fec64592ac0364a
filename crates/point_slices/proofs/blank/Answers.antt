-- What the numbers make together is zero where each of them is.
use native.Mathlib.Omega.{arith}
use Rattle.point_slices.proofs.Zeros.{blanks}
use Rattle.point_slices.proofs.blank.Goals as goal

pub returns : goal.returns
returns c = blanks c.args.w.now c.args.i c.requires _ c.together.result (omega arith) c.together.ensures
