-- Without the number that is left over, if there is one, the points are the same.
use borrow.Author.Rules.{rules}
use mathlib.Core.Path.{sym, ap, ◌∙◌}
use mathlib.Core.List.{List}
use native.Mathlib.Omega.{arith}
use Rattle.rules.specs.Plane.{Point, direction_of}
use Rattle.point_direction.specs.Seen.{seen}
use Rattle.float_probe.proofs.Trimmed.{trimmed_long, trimmed_whole, trimmed_points}
use Rattle.float_probe.proofs.direction_of.Goals as goal

pub slice_bounds-piece_direction-end : goal.slice_bounds-piece_direction-end
slice_bounds-piece_direction-end c = sym (trimmed_long c.args.c.now)

pub piece_direction-requires : goal.piece_direction-requires
piece_direction-requires c = (omega arith, trimmed_whole c.args.c.now)

pub returns : goal.returns
returns c =
    let a = c.args in
    c.piece_direction.ensures ∙ ap (λ (l : List Point). direction_of (seen a.side l)) (trimmed_points a.c.now)
