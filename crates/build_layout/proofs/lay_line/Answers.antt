-- Six stores, one behind the other, are the record; the member, the mark and the place in the listing are one store each.
use Prim.Native.Nat.{◌*◌}
use native.Mathlib.Omega.{arith}
use Rattle.chain_pieces.proofs.Storing.{one_put, record_put}
use Rattle.rules.specs.Refusals.{record_size}
use Rattle.point_slices.proofs.Laws.{from_set}
use Rattle.build_layout.proofs.lay_line.Goals as goal

pub returns : goal.returns
returns c =
    let a = c.args in
    record {
      row = from_set (record_put a.table.now (a.chain * record_size) a.m 1 0 a.first a.count (omega (arith, c.requires.record_fits))) (omega (arith, c.requires.record_fits)) a.closed;
      member = one_put a.members.now a.m a.k c.requires.member_fits;
      mark = one_put a.marks.now a.m 0 c.requires.mark_fits;
      line = one_put a.listing.now a.m a.k c.requires.line_fits;
    }
