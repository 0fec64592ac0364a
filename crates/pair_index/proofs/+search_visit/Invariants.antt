-- The search finds the first of the best so far and of all pairs below a node. Its height falls from a node to its children. A visit and the search of the same
-- node have one height, so the measure is twice the height, and one more for a visit.
use Prim.Native.Nat.{◌+◌, ◌*◌}
use Rattle.pair_index.proofs.+search_visit.Given as goal

abbrev pub decreases-search : goal.decreases-search
decreases-search l = 2 * l.height

abbrev pub decreases-visit : goal.decreases-visit
decreases-visit l = 2 * l.height + 1
