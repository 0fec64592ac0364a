-- The first point has none before it, and a place beyond the chain has none at all.
use Prim.Native.Nat.{◌*◌}
use native.Mathlib.Omega.{arith}
use mathlib.Core.Path.{ap, ◌∙◌}
use mathlib.Core.Bool.{not}
use lib.ListN.{length}
use borrow.Author.Tests.{le-ltb}
use Rattle.rules.specs.Plane.{points}
use Rattle.check_marks.proofs.Fresh.{fresh_first, fresh_beyond, fresh_there}
use Rattle.check_marks.proofs.fresh_at.Goals.{then-i-gt0, else-i-gt0}
use Rattle.check_marks.proofs.fresh_at.Goals as goal

pub returns-then-at-chain : goal.returns-then-at-chain
returns-then-at-chain c =
    let a = c.args in
    let t = c.if-at-chain.true in
    ap not c.equal.ensures ∙ fresh_there a.width a.chain.now c.requires.0 c.requires.2 a.i (λ z. omega arith) t.1

pub returns-else-at-chain : goal.returns-else-at-chain
returns-else-at-chain c =
    let a = c.args in
    elim c.if-i-gt0.branch [
      | then-i-gt0 w ↦
          w.t-6-is ∙ le-ltb (a.i * a.width) (length a.chain.now) (omega arith)
          ∙ fresh_beyond a.width a.chain.now c.requires.0 c.requires.2 a.i (λ z. omega arith) (omega arith)
      | else-i-gt0 w ↦ w.t-6-is ∙ le-ltb 0 a.i (omega arith) ∙ fresh_first (points a.width a.chain.now) a.i (omega arith)
    ]
