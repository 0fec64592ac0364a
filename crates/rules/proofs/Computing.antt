-- To compute with the book is to unfold every definition that a case runs through. `book` stands for all of them on an `unfolding` line, and each of
-- the names above it for some.
use mathlib.Core.List.{flat_map}
use lib.Ieee.{div, of_bits, size, units}
use Rattle.rules.specs.Lists.{count, stands, from, upto, total, keep, first}
use Rattle.rules.specs.Root.{digits, floor_root, root_units}
use Rattle.rules.specs.Cell.{floor64, cell}
use Rattle.rules.specs.Plane.{numbers_of, reads, points, flat, equal, same_key, exact_key, cell_key, key_of, toward, straight, direction_of, clamp, dot, measure}
use Rattle.rules.specs.Selecting.{within, pair, pairs_with, qualifying, before, insert, sorted, greedy, select}
use Rattle.rules.specs.Walking.{back, forward, walk, walks_from, walks}
use Rattle.rules.specs.Chaining.{mate, lay, piece_at, run, key_at, node, end_at, chosen, joined, partner, merged, merge, join, plain, alone, pieces, limit_of, round_one, round_two, chains, passed, turned}
use Rattle.rules.specs.Layout.{lines, copied, copy, loop, five, six, rows, laid_out, build, given, ends, listed}
use Rattle.rules.specs.Types.{width_of}
use Rattle.rules.specs.Districts.{district_of, is_of, lines_brought, points_brought, over_lines, over_points}
use Rattle.rules.specs.Refusals.{first_of, any_above, limit_bad, origin_bad, nowhere, any_nowhere, refusal_of, more_than_twice, any_wild, pair_refusal_of}
use Rattle.rules.specs.Calls.{pairs_of}

unfoldable pub the-library : Unit {0}
unfolding flat_map div of_bits size units
the-library = tt

unfoldable pub the-numbers : Unit {0}
unfolding count stands from upto total keep first digits floor_root root_units floor64 cell
the-numbers = tt

unfoldable pub the-plane : Unit {0}
unfolding numbers_of reads points flat equal same_key exact_key cell_key key_of toward straight direction_of clamp dot measure
the-plane = tt

unfoldable pub the-pairs : Unit {0}
unfolding within pair pairs_with qualifying before insert sorted greedy select
the-pairs = tt

unfoldable pub the-chains : Unit {0}
unfolding back forward walk walks_from walks mate lay piece_at run key_at node end_at chosen joined partner merged passed turned merge join plain alone pieces limit_of round_one round_two chains
the-chains = tt

unfoldable pub the-calls : Unit {0}
unfolding lines copied copy five laid_out build given ends listed width_of first_of any_above limit_bad origin_bad nowhere any_nowhere refusal_of more_than_twice any_wild pair_refusal_of pairs_of loop six rows
the-calls = tt

unfoldable pub the-shares : Unit {0}
unfolding keep district_of is_of lines_brought points_brought over_lines over_points
the-shares = tt

unfoldable pub book : Unit {0}
unfolding the-library the-numbers the-plane the-pairs the-chains the-calls the-shares
book = tt
