-- `leave_pieces`: the words of each block are copied to the front of its slice.
use Rattle.lent_taking.proofs.Leaving.{records_narrow, members_narrow, marks_narrow, listing_narrow, pieces_left}
use Rattle.lent_taking.proofs.leave_pieces.Goals as goal

pub lay_words-requires : goal.lay_words-requires
lay_words-requires c = records_narrow c.requires

pub lay_words-requires-2 : goal.lay_words-requires-2
lay_words-requires-2 c = members_narrow c.requires

pub lay_marks-requires : goal.lay_marks-requires
lay_marks-requires c = marks_narrow c.requires

pub lay_words-requires-3 : goal.lay_words-requires-3
lay_words-requires-3 c = listing_narrow c.requires

pub returns : goal.returns
returns c = λ y. pieces_left y c.lay_words.ensures c.lay_words-2.ensures c.lay_marks.ensures c.lay_words-3.ensures
