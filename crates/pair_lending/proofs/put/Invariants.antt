-- After i turns the words of the first i items stand from `at` on.
use lib.ListN.{take}
use mathlib.Core.List.{map}
use Rattle.point_slices.specs.Holds.{HoldsFrom}
use Rattle.pair_lending.proofs.put.Given as goal

abbrev pub invariant-loop-i : goal.invariant-loop-i
invariant-loop-i g l = HoldsFrom l.w l.initial.w l.at l.i (take l.i (map g.T.Word.word_of l.items))
