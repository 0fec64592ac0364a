-- `join_junction` lists the node's ends, puts them before the pairing, pairs them and joins the pairs. Each call's contract is what the next one asks.
use borrow.Author.Rules.{rules}
use Rattle.std.proofs.Common.{refl}
use Rattle.chain_nodes.proofs.Paired.{ends_ask, pair_asks, part_twice, put_asks, junction_joined}
use Rattle.chain_nodes.proofs.join_junction.Goals as goal

pub put_ends-requires : goal.put_ends-requires
put_ends-requires c =
    ends_ask c.requires c.list_node-d.ensures

pub junction_pairs-r-requires : goal.junction_pairs-r-requires
junction_pairs-r-requires c =
    (pair_asks c.requires c.list_node-d.ensures c.put_ends.auto.w c.put_ends.ensures, c.requires.noded.fair _ refl, part_twice c.requires c.list_node-d.ensures c.put_ends.auto.w c.put_ends.ensures)

pub put_joins-requires : goal.put_joins-requires
put_joins-requires c =
    put_asks c.requires c.list_node-d.ensures c.put_ends.auto.w c.put_ends.ensures c.junction_pairs-r.auto.w c.junction_pairs-r.ensures (search rules)

pub returns : goal.returns
returns c =
    λ J. junction_joined J c.list_node-d.ensures c.put_ends.auto.w c.put_ends.ensures c.junction_pairs-r.auto.w c.junction_pairs-r.ensures (search rules) c.put_joins.ensures
