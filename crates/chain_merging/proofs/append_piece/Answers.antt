-- The part of its source that the record names is lent on, whichever source that is.
use mathlib.Core.Path.{subst, sym, ap}
use native.Mathlib.Omega.{arith}
use lib.ListN.{length}
use Rattle.point_numbers.specs.Width.{Whole}
use Rattle.chain_pieces.proofs.Source.{recorded_whole}
use Rattle.chain_merging.proofs.append_piece.Goals as goal

pub append_run-requires : goal.append_run-requires
append_run-requires c =
    let e = c.coordinates_of-c.ensures in (
      c.requires.0,
      subst (Whole c.args.width) (sym e) (recorded_whole c.args.width c.args.w.now c.args.p c.args.input.now c.args.spare.now c.requires.1),
      omega (arith, c.requires.2, ap length e),
    )
