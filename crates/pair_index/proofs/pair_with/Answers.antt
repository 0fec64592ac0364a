use mathlib.Core.Path.{sym, ◌∙◌}
use Rattle.pair_ends.specs.Ends.{direction_at, piece_at}
use Rattle.pair_index.proofs.Steps.{pair_own, pair_other}
use Rattle.pair_index.proofs.pair_with.Goals as goal

pub returns-then-piece_at-a : goal.returns-then-piece_at-a
returns-then-piece_at-a c =
    let a = c.args.a.now in
    pair_own (direction_at c.args.w.now a.d) (piece_at c.args.w.now a.d) a.ax a.ay a.own c.args.e _ (sym c.piece_at.ensures ∙ c.if-piece_at-a.true) c.none.ensures

pub returns : goal.returns
returns c =
    let a = c.args.a.now in
    pair_other (direction_at c.args.w.now a.d) (piece_at c.args.w.now a.d) a.ax a.ay a.own c.args.e _ _
    (λ e. c.if-piece_at-a.false (c.piece_at.ensures ∙ e)) c.direction_at.ensures c.pair_key.ensures
