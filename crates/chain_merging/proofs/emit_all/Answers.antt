-- The two calls write two parts of the front and read what stands beyond, so that neither disturbs the other.
use Rattle.chain_merging.proofs.Finished.{listable, finished}
use Rattle.chain_merging.proofs.emit_all.Goals as goal

pub list_pieces-requires : goal.list_pieces-requires
list_pieces-requires c =
    let a = c.args in
    listable a.width a.w.now a.n a.old a.m a.entries a.lengths a.r a.input.now a.spare.now a.merged.now c.requires
    c.emit_walks.new.w c.emit_walks.new.merged (c.emit_walks.ensures c.requires)

pub returns : goal.returns
returns c =
    let a = c.args in
    λ y. finished a.width a.w.now a.n a.old a.m a.entries a.lengths a.r a.input.now a.spare.now a.merged.now y
    c.emit_walks.new.w c.emit_walks.new.merged (c.emit_walks.ensures y)
    c.list_pieces.new.w
    (c.list_pieces.ensures
    (listable a.width a.w.now a.n a.old a.m a.entries a.lengths a.r a.input.now a.spare.now a.merged.now y
    c.emit_walks.new.w c.emit_walks.new.merged (c.emit_walks.ensures y)))
