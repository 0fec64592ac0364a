-- Chain after chain: the marks are how often each line was listed so far, and all chains so far fit.
use Rattle.check_calls.proofs.Judging.{Judging}
use Rattle.check_calls.proofs.acceptable.Given as goal

abbrev pub invariant-loop-k : goal.invariant-loop-k
invariant-loop-k l = Judging l.m l.width l.coordinates l.counts l.groups l.kinds l.chains.merged.now l.chains.table.now l.chains.listing.now l.n l.seen l.k
