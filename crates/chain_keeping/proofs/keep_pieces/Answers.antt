-- The walks are the pieces, each alone (`Keeping`), so what is emitted are the pieces.
use Rattle.chain_keeping.proofs.Keeping.{keeping_walks, kept}
use Rattle.chain_keeping.proofs.keep_pieces.Goals as goal

pub emit_all-requires : goal.emit_all-requires
emit_all-requires c =
    keeping_walks c.requires c.walk_each.ensures

pub returns : goal.returns
returns c =
    let e = c.walk_each.ensures in
    λ y. kept y e (c.emit_all.ensures (keeping_walks y e))
