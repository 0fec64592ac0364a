-- After q turns the first q pieces are chains of the table: `Chaining` says how, and its laws are the start, one piece more, and the end.
use Rattle.build_layout.specs.Laying.{PiecesLayable}
use Rattle.build_layout.proofs.Chaining.{Chaining}
use Rattle.build_layout.proofs.lay_pieces.Given as goal

abbrev pub invariant-loop-q : goal.invariant-loop-q
invariant-loop-q l =
    (y : PiecesLayable l.width l.w l.p l.coordinates l.copies l.initial.table) → Chaining y.counts y.ps l.p l.q l.table l.initial.table
