-- `note_listing`: the first i lines of the listing had the mark 1, each once, and have 2.
use Rattle.lent_noting.proofs.Marks.{Stepping}
use Rattle.lent_noting.proofs.note_listing.Given as goal

abbrev pub invariant-loop-line : goal.invariant-loop-line
invariant-loop-line l = Stepping l.seen l.initial.seen l.listing 1 l.line-index
