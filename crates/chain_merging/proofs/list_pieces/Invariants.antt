-- Between two entries the members, marks and listing of those before stand at the front (`Listing`).
use Rattle.chain_merging.specs.Emit.{PiecesListable}
use Rattle.chain_merging.proofs.Listing.{Listing}
use Rattle.chain_merging.proofs.list_pieces.Given as goal

abbrev pub invariant-loop-k : goal.invariant-loop-k
invariant-loop-k l = (y : PiecesListable l.initial.w l.n l.old l.entries l.m) → Listing l.initial.w l.n l.old l.entries l.m y l.w l.r l.k
