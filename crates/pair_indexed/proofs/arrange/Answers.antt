use Prim.Native.Nat.{◌*◌}
use native.Mathlib.Omega.{arith}
use Rattle.pair_tree.proofs.Words.{changes_then, changes_wider}
use Rattle.pair_owners.proofs.Turns.{room_kept}
use Rattle.pair_ends.specs.Blocks.{order_from, heap_from}
use Rattle.pair_indexed.proofs.Arranging.{part_permuted, part_sorted, part_together, part_changes, arranged}
use Rattle.pair_indexed.proofs.arrange.Goals as goal

pub positions-requires : goal.positions-requires
positions-requires c = part_permuted _ _ c.args.d (room_kept c.keys.ensures.kept c.requires) c.sort_ends.ensures

pub groups-requires : goal.groups-requires
groups-requires c = (part_sorted _ _ c.args.d (room_kept c.keys.ensures.kept c.requires) c.sort_ends.ensures c.positions.ensures, part_together _ _ c.args.d (room_kept c.keys.ensures.kept c.requires) c.sort_ends.ensures c.positions.ensures c.keys.ensures)

pub returns : goal.returns
returns c =
    let d = c.args.d in
    let room = room_kept c.keys.ensures.kept c.requires in
    let g = c.groups.ensures in (
      arranged (part_sorted _ _ d room c.sort_ends.ensures c.positions.ensures) g,
      changes_then (changes_wider (d * order_from) (d * heap_from) (omega arith) (omega arith) c.keys.ensures.kept)
          (changes_then (changes_wider (d * order_from) (d * heap_from) (omega arith) (omega arith) (part_changes _ _ d room c.sort_ends.ensures c.positions.ensures))
          (changes_wider (d * order_from) (d * heap_from) (omega arith) (omega arith) g.kept)),
    )
