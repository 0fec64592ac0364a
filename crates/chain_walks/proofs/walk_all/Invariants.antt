-- All walks: between two starts the workspace is a `Bench`, with the walks of the starts below s written and their pieces marked. A marked start has
-- its walk already; another's walk goes behind the others, and room is left for it because no piece is walked twice.
use Rattle.chain_walks.specs.Walks.{WalksReady}
use Rattle.chain_walks.proofs.Starts.{Bench}
use Rattle.chain_walks.proofs.walk_all.Given as goal

abbrev pub invariant-loop-s : goal.invariant-loop-s
invariant-loop-s l = (y : WalksReady l.initial.w l.n) → Bench l.initial.w l.n y l.w l.s l.at l.c
