-- `bucket` is the bucket's definition, and a number of 32 binary digits divided by 2 ^ 19 is below 8,192.
use native.Mathlib.Omega.{arith}
use mathlib.Core.Path.{refl}
use Rattle.pair_refusals.specs.Linked.{bucket_of}
use Rattle.pair_refusals.proofs.bucket.Goals as goal

pub returns : goal.returns
unfolding bucket_of
returns c = (refl, omega arith)
