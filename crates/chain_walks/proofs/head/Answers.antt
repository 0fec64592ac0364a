use Rattle.std.proofs.Common.{arith, sym, ◌∙◌}
use native.Mathlib.Nat.{sub-zero}
use Rattle.chain_laws.specs.Table.{head_of}
use Rattle.chain_walks.proofs.Heads.{back_free, back_ring, back_on, back_done}
use Rattle.chain_walks.proofs.head.Goals as goal

pub loop-k-init : goal.loop-k-init
unfolding head_of
loop-k-init c = (omega arith, rw sub-zero)

pub returns-in_default : goal.returns-in_default
returns-in_default c = sym (back_free _ _ _ c.loop-k._k _ (omega arith) (sym c.in_default.ensures)) ∙ c.loop-k.invariant.1

pub returns-then-g-start : goal.returns-then-g-start
returns-then-g-start c = sym (back_ring _ _ _ c.loop-k._k _ (omega arith) c.in-Some.g (sym c.in-Some.ensures) c.if-g-start.true) ∙ c.loop-k.invariant.1

pub loop-k-preserved : goal.loop-k-preserved
loop-k-preserved c =
    rw c.other-e.ensures
    (omega (arith, c.requires.0.named c.loop-k.e), sym (back_on _ _ _ c.loop-k._k _ (omega arith) c.in-Some.g (sym c.in-Some.ensures) c.if-g-start.false) ∙ c.loop-k.invariant.1)

pub returns : goal.returns
returns c = sym (back_done _ _ _ _ _ c.loop-k-test.false) ∙ c.loop-k.invariant.1
