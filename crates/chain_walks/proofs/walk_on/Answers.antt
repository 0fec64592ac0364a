-- Forward: between two turns the workspace is `Going`: k entries are written, their pieces are marked, and the walk from here on is what is left of it.
use Rattle.std.proofs.Common.{arith, ◌≡◌, ℕ, sym, subst}
use Rattle.chain_walks.specs.Walks.{Walked}
use Rattle.chain_walks.proofs.Go.{going_start, going_done, at_free, at_seen, at_next}
use Rattle.chain_walks.proofs.walk_on.Goals as goal

pub loop-k-init : goal.loop-k-init
loop-k-init c = going_start _ _ _ _ c.requires

pub returns-in_default : goal.returns-in_default
returns-in_default c = at_free _ _ _ _ c.requires _ _ _ c.loop-k.invariant c.loop-k-test.true (sym (rw c.other.ensures at c.in_default.ensures))

pub returns-then-w-n-eq1 : goal.returns-then-w-n-eq1
returns-then-w-n-eq1 c =
    at_seen _ _ _ _ c.requires _ _ _ c.loop-k.invariant c.loop-k-test.true c.in-Some.g (sym (rw c.other.ensures at c.in-Some.ensures)) c.if-w-n-eq1.true

pub loop-k-preserved : goal.loop-k-preserved
loop-k-preserved c =
    at_next _ _ _ _ c.requires _ _ _ c.loop-k.invariant c.loop-k-test.true c.in-Some.g (sym (rw c.other.ensures at c.in-Some.ensures)) c.if-w-n-eq1.false

pub returns : goal.returns
returns c =
    let e : c.loop-k.k ≡ c.args.n = omega arith in
    subst (λ (k : ℕ). Walked c.loop-k.w c.args.w.now c.args.n c.args.first c.args.at k) e (going_done _ _ _ _ c.requires _ _ _ c.loop-k.invariant c.loop-k-test.false)
