-- The pieces as chains, three copies of small words, and the lines that pass through behind them.
use Rattle.build_layout.proofs.Laid.{pieces_layable, members_narrow, marks_narrow, listing_narrow, outputs}
use Rattle.build_layout.proofs.lay_out.Goals as goal

pub lay_pieces-requires : goal.lay_pieces-requires
lay_pieces-requires c = pieces_layable c.requires

pub lay_words-requires : goal.lay_words-requires
lay_words-requires c = members_narrow c.requires

pub lay_marks-requires : goal.lay_marks-requires
lay_marks-requires c = marks_narrow c.requires

pub lay_words-requires-2 : goal.lay_words-requires-2
lay_words-requires-2 c = listing_narrow c.requires

pub returns : goal.returns
returns c =
    λ y. outputs y c.lay_pieces.ensures c.lay_words.ensures c.lay_marks.ensures c.lay_words-2.ensures c.lay_rest.ensures
