-- `list_node` follows the list behind the leader. What it writes stands below the groups, so that every word it reads is as it was.
use Rattle.chain_joins.specs.Node.{NodeListable}
use Rattle.chain_joins.proofs.Listing.{Way}
use Rattle.chain_joins.proofs.list_node.Given as goal

abbrev pub invariant-loop-d : goal.invariant-loop-d
invariant-loop-d l = (L : NodeListable l.initial.w l.list l.at l.m l.e) → Way L l.w l.f l.d
