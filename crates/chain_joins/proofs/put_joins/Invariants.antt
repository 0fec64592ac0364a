-- `put_joins` fills the table pair by pair; the pairs and the list stand beyond the table and stay as they were.
use Rattle.chain_joins.specs.Node.{Puttable}
use Rattle.chain_joins.proofs.Putting.{Putting}
use Rattle.chain_joins.proofs.put_joins.Given as goal

abbrev pub invariant-loop-k : goal.invariant-loop-k
invariant-loop-k l = (P : Puttable l.initial.w l.joins l.m l.list l.d l.pairs l.r) → Putting P l.w l.k
