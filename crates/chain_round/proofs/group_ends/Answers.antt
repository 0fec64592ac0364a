-- `group_ends` writes the keys beyond everything else and groups the ends there; the pieces stay where they are.
use Rattle.chain_round.proofs.Grouping.{key_asks, group_room_lem, grouped_ended}
use Rattle.chain_round.proofs.group_ends.Goals as goal

pub collect_keys-requires : goal.collect_keys-requires
collect_keys-requires c = key_asks c.requires

pub group-requires : goal.group-requires
group-requires c =
    group_room_lem c.requires c.collect_keys.auto.w c.collect_keys.ensures

pub returns : goal.returns
returns c =
    λ y. grouped_ended y c.collect_keys.auto.w c.collect_keys.ensures c.group.auto.w c.group.ensures
