-- Chain after chain: the marks are how often each line was listed so far, and all chains so far fit.
use native.Mathlib.Omega.{arith}
use Rattle.check_calls.proofs.Judging.{judging_start, judging_next, judging_stop, judged_all}
use Rattle.check_calls.proofs.acceptable.Goals as goal

pub loop-k-init : goal.loop-k-init
loop-k-init c =
    let a = c.args in
    let d = a.chains.now in
    judging_start a.m a.width a.coordinates.now a.counts.now a.groups.now a.kinds.now d.merged.now d.table.now d.listing.now a.n

pub returns-then-not-chain_at : goal.returns-then-not-chain_at
returns-then-not-chain_at c =
    let a = c.args in
    let d = a.chains.now in
    let o = c.loop-k in
    let q = c.chain_at in
    judging_stop a.m a.width a.coordinates.now a.counts.now a.groups.now a.kinds.now d.merged.now d.table.now d.listing.now a.n c.requires.0.few c.requires.1 o.seen q.new.seen o.k o.invariant c.loop-k-test.true q.result q.ensures c.if-not-chain_at.true

pub loop-k-preserved : goal.loop-k-preserved
loop-k-preserved c =
    let a = c.args in
    let d = a.chains.now in
    let o = c.loop-k in
    let q = c.chain_at in
    judging_next a.m a.width a.coordinates.now a.counts.now a.groups.now a.kinds.now d.merged.now d.table.now d.listing.now a.n c.requires.0.few c.requires.1 o.seen q.new.seen o.k o.invariant c.loop-k-test.true q.result q.ensures c.if-not-chain_at.false

pub returns : goal.returns
returns c =
    let a = c.args in
    let d = a.chains.now in
    let o = c.loop-k in
    judged_all a.m a.width a.coordinates.now a.counts.now a.groups.now a.kinds.now d.merged.now d.table.now d.listing.now a.n c.requires.0.few c.requires.1 o.seen o.k o.invariant (omega arith) c.all_seen.result c.all_seen.ensures
