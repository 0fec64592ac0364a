use Rattle.pair_indexed.proofs.Sizes.{fits}
use Rattle.pair_indexed.proofs.tree_for.Goals as goal

pub returns : goal.returns
returns c =
    let b = c.next_power_of_two-base.ensures in
    fits b.power b.lower_bound b.upper_bound c.ilog2.ensures.power_le c.ilog2.ensures.next_power_gt
