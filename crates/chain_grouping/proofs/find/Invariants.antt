-- The search goes along the leaders of a bucket, which fall, so that the word that names the next one is the measure. A leader of the key is always below it.
use Rattle.chain_grouping.specs.Group.{word_of}
use Rattle.chain_grouping.proofs.Seek.{Seek}
use Rattle.chain_grouping.proofs.find.Given as goal

abbrev pub invariant-loop-leader : goal.invariant-loop-leader
invariant-loop-leader l = Seek l.w l.m l.e l.b (word_of l.leader)

abbrev pub decreases-loop-leader : goal.decreases-loop-leader
decreases-loop-leader l = word_of l.leader
