use mathlib.Core.Path.{sym, subst, ◌∙◌}
use native.Mathlib.Omega.{arith}
use Rattle.std.specs.Prelude.{Option}
use Rattle.pair_index.specs.declared.Best.{Best}
use Rattle.pair_index.specs.Index.{pair_of, Answers}
use Rattle.pair_index.proofs.Leaves.{ready}
use Rattle.pair_index.proofs.Owner.{answers_absent, answers_none, answers_found, upper_some}
use Rattle.pair_index.proofs.first_pair.Goals as goal

pub returns-in_err-ax-clause-first : goal.returns-in_err-ax-clause-first
returns-in_err-ax-clause-first c =
    let a = c.args in
    subst (λ (r : Option Best). Answers a.w.now a.d a.t a.height a.limit a.o (pair_of r)) (sym c.from_residual.ensures)
    (answers_absent c.requires (sym c.in_err-ax.was ∙ c.direction_at.ensures))

pub partner-found-requires : goal.partner-found-requires
partner-found-requires c = ready c.requires _ _ (sym c.in_ok-ax.was ∙ c.direction_at.ensures)

pub returns-then-found-clause-first : goal.returns-then-found-clause-first
returns-then-found-clause-first c =
    answers_none c.requires _ _ (sym c.in_ok-ax.was ∙ c.direction_at.ensures) _ c.piece_at-own.ensures c.partner-found.result
    (omega (arith, c.if-found.true)) c.partner-found.ensures c.if-found.true

pub returns-clause-first : goal.returns-clause-first
returns-clause-first c =
    answers_found c.requires _ _ (sym c.in_ok-ax.was ∙ c.direction_at.ensures) _ c.piece_at-own.ensures c.partner-found.result
    (omega arith) c.partner-found.ensures c.if-found.false _ _ c.min.ensures c.max.ensures

pub returns-clause-upper : goal.returns-clause-upper
returns-clause-upper c _ =
    upper_some c.requires _ _ (sym c.in_ok-ax.was ∙ c.direction_at.ensures) _ c.piece_at-own.ensures c.partner-found.result
    (omega arith) c.partner-found.ensures c.if-found.false _ c.max.ensures
