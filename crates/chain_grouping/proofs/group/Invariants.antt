-- `group` starts with empty buckets and places end by end; after all m the lists behind the leaders are the nodes.
use Rattle.chain_grouping.specs.Group.{EndPlaced}
use Rattle.chain_grouping.proofs.group.Given as goal

abbrev pub invariant-loop-e : goal.invariant-loop-e
invariant-loop-e l = EndPlaced l.w l.initial.w l.m l.e
