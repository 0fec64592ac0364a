-- `limit_bad` is the book's test: a NaN is at or below nothing, so that neither comparison takes it.
use Rattle.std.proofs.Common.{◌≡◌, ◌&&◌, not, ap}
use lib.Ieee.{of_bits, neg, le}
use Rattle.rules.specs.Plane.{unity, minus_unity}
use Rattle.rules.specs.Refusals.{limit_bad}
use Rattle.build_refusals.proofs.limit_bad.Goals as goal
use Rattle.build_refusals.proofs.limit_bad.Goals.{then-limit, else-limit}

pub returns : goal.returns
unfolding limit_bad of_bits neg
returns c =
    let e : c.if-limit.result ≡ (le minus_unity c.args.limit && le c.args.limit unity) = elim c.if-limit.branch [ then-limit w ↦ simp (w.if-limit.true, w.result-is) | else-limit w ↦ simp (w.if-limit.false, w.result-is) ] in
    ap not e
