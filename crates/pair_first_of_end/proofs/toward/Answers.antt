-- `row::toward` meets its contract: the two words are no NaN's, and so they are read as they stand.
use Rattle.pair_first_of_end.proofs.Measures.{numbered_mark, numbered_x, numbered_y}
use Rattle.pair_ends.proofs.Reading.{direction_toward}
use mathlib.Core.Path.{sym}
use Rattle.pair_first_of_end.proofs.toward.Goals as goal

pub float_from_bits-result : goal.float_from_bits-result
float_from_bits-result c = let a = c.args in numbered_x a.w.now a.d a.e c.requires.e_value

pub float_from_bits-result-2 : goal.float_from_bits-result-2
float_from_bits-result-2 c = let a = c.args in numbered_y a.w.now a.d a.e c.requires.e_value

pub returns : goal.returns
returns c = let a = c.args in sym (direction_toward a.w.now a.d a.e (numbered_mark a.w.now a.d a.e c.requires.e_value))
