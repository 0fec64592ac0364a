-- `chosen::junction_pairs` meets its contract: either route gives the selection, and the index is asked only where the scan has found every direction tame.
use borrow.Author.Rules.{rules}
use lib.Dec.{T}
use lib.Ieee.{binary64, fits}
use Rattle.pair_chosen.proofs.Asking.{asks}
use Rattle.pair_chosen.proofs.junction_pairs.Goals as goal
use Rattle.pair_chosen.proofs.junction_pairs.Goals.{Start}

fitting : (s : Start) → T (fits binary64 s.args.limit)
fitting s = search rules

pub indexed-requires : goal.indexed-requires
indexed-requires c = asks c.args.limit c.requires.0 (fitting (goal.at.indexed-requires c).Start) c.requires.1 c.requires.2 c.all_finite.ensures c.if-not-all_finite.false c.key.ensures

pub returns : goal.returns
returns c = rw c.key.ensures at c.indexed.ensures
