-- `side_direction` hands `piece_direction` the part that the record names.
use mathlib.Core.Path.{sym, ap, subst, ◌∙◌}
use mathlib.Core.List.{List}
use Prim.Native.Nat.{ℕ}
use Rattle.rules.specs.Plane.{points, direction_of}
use Rattle.point_direction.specs.Seen.{seen}
use Rattle.point_numbers.specs.Width.{Whole}
use Rattle.chain_pieces.proofs.Source.{recorded_whole}
use Rattle.chain_junctions.proofs.side_direction.Goals as goal

-- src/lib.rt:17:5
pub piece_direction-requires : goal.piece_direction-requires
piece_direction-requires c =
    (c.requires.0, subst (Whole c.args.width) (sym c.coordinates_of-c.ensures) (recorded_whole c.args.width c.args.w.now c.args.p c.args.input.now c.args.spare.now c.requires.1))

-- src/lib.rt:12:1
pub returns : goal.returns
returns c =
    c.piece_direction.ensures ∙ ap (λ (l : List ℕ). direction_of (seen c.args.side (points c.args.width l))) c.coordinates_of-c.ensures
