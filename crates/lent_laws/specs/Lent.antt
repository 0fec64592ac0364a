-- What a call lends, as the book has it.
use Rattle.rules.specs.Layout.{Lines}
use Rattle.rules.specs.Lent.{lines_of}
use Rattle.rules.specs.Pieces.{LentPieces, lent_pieces}
use Rattle.rules.specs.declared.LentLines.{LentLines}
use Rattle.lent_laws.specs.declared.Pieces.{Pieces}

abbrev pub as_lines : LentLines → Lines
as_lines l = lines_of l

abbrev pub as_pieces : Pieces → LentPieces
as_pieces p = lent_pieces p.records.now p.members.now p.marks.now p.listing.now p.merged.now p.number
