use mathlib.Core.Path.{sym, ◌∙◌}
use Rattle.pair_indexed.proofs.Planting.{leaf_out, leaf_in}
use Rattle.pair_owners.specs.Tables.{order_at}
use Rattle.pair_indexed.proofs.leaf.Goals as goal
use Rattle.pair_indexed.proofs.leaf.Goals.{then-p-d+in_default, else-p-d}

pub returns-in-Some : goal.returns-in-Some
returns-in-Some c =
    leaf_in c.requires.room (order_at c.args.w.now c.args.d) c.args.p c.if-p-d.true (c.requires.order.order_in c.args.p c.if-p-d.true) _
    (sym c.in-Some.is ∙ c.direction_at.ensures)

pub returns : goal.returns
returns c =
    c.empty.ensures
    ∙ elim c.if-p-d.branch [
      | then-p-d+in_default v ↦
          leaf_in c.requires.room (order_at c.args.w.now c.args.d) c.args.p v.if-p-d.true (c.requires.order.order_in c.args.p v.if-p-d.true) _
          (sym v.in_default.is ∙ v.direction_at.ensures)
      | else-p-d v ↦ leaf_out c.requires.room (order_at c.args.w.now c.args.d) c.args.p v.if-p-d.false
    ]
