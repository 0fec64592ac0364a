-- The loop keeps `Writing`; each step writes one chain.
use Rattle.wkb_writing.proofs.Runs.{start, chain, step, stop}
use Rattle.wkb_writing.proofs.write_chains.Goals as goal

pub loop-j-init : goal.loop-j-init
loop-j-init c = start _ _ c.requires

pub put_chain-end-requires : goal.put_chain-end-requires
put_chain-end-requires c = chain c.requires c.loop-j.invariant c.loop-j-test.true

pub loop-j-preserved : goal.loop-j-preserved
loop-j-preserved c = step c.requires c.loop-j.invariant c.loop-j-test.true c.put_chain-end.ensures

pub returns : goal.returns
returns c = stop c.loop-j.invariant c.loop-j-test.false
