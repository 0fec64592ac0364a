-- The rungs one after another.
use native.Mathlib.Omega.{arith}
use mathlib.Core.Path.{sym, ap, subst, ◌∙◌}
use lib.ListN.{length}
use Rattle.rules.specs.Layout.{lent}
use Rattle.rules.specs.Check.{Delivery, delivery, Checked}
use Rattle.rules.specs.Answers.{found}
use Rattle.build_refusals.proofs.Found.{no_none, refused_on}
use Rattle.check_calls.proofs.Records.{all_recorded}
use Rattle.check_calls.proofs.Ladder.{refused, admitted, first_none, lined, first_refused, record_refused, chain_refused, none_refused}
use Rattle.check_calls.proofs.check.Goals as goal
use Rattle.check_calls.proofs.check.Goals.{Start}

abbrev call : Start → Delivery
call s =
    let a = s.args in
    delivery a.wkb_type (lent a.coordinates.now a.counts.now a.groups.now a.kinds.now) a.m a.table.now a.k a.listing.now a.merged.now a.workspace.now

pub returns-in_err-refusal : goal.returns-in_err-refusal
returns-in_err-refusal c =
    let i = call (goal.at.returns-in_err-refusal c).Start in
    let r = c.in_err-refusal.field-0.0 in
    subst (λ x. Checked i x i.workspace) (sym (refused_on c.from_residual.result r c.from_residual.ensures.1))
    (refused i _ (first_refused i _ c.in_err-refusal.ensures (no_none r)) (no_none r))

pub returns-then-any_bad : goal.returns-then-any_bad
returns-then-any_bad c =
    let a = c.args in
    let f = c.refusal in
    let w = c.width_of-width in
    let b = c.any_bad in
    refused (delivery a.wkb_type (lent a.coordinates.now a.counts.now a.groups.now a.kinds.now) a.m a.table.now a.k a.listing.now a.merged.now a.workspace.now) 23 (record_refused (delivery a.wkb_type (lent a.coordinates.now a.counts.now a.groups.now a.kinds.now) a.m a.table.now a.k a.listing.now a.merged.now a.workspace.now) _ f.ensures (ap found c.in_ok-refusal.was) w.result w.ensures.0 b.result b.ensures c.if-any_bad.true) (λ z. omega arith)

pub acceptable-requires : goal.acceptable-requires
acceptable-requires c =
    let a = c.args in
    let f = c.refusal in
    let w = c.width_of-width in
    let b = c.any_bad in (
      lined a.wkb_type w.result (lent a.coordinates.now a.counts.now a.groups.now a.kinds.now) w.ensures.0 (first_none a.wkb_type (lent a.coordinates.now a.counts.now a.groups.now a.kinds.now) a.m (length a.workspace.now) (sym (ap found c.in_ok-refusal.was) ∙ f.ensures)).0,
      all_recorded w.result (length a.counts.now) a.coordinates.now a.merged.now a.table.now a.listing.now a.k (sym b.ensures ∙ c.if-any_bad.false),
    )

pub returns-then-not-acceptable : goal.returns-then-not-acceptable
returns-then-not-acceptable c =
    let a = c.args in
    let f = c.refusal in
    let w = c.width_of-width in
    let b = c.any_bad in
    let g = c.acceptable in
    refused (delivery a.wkb_type (lent a.coordinates.now a.counts.now a.groups.now a.kinds.now) a.m a.table.now a.k a.listing.now a.merged.now a.workspace.now) 24 (chain_refused (delivery a.wkb_type (lent a.coordinates.now a.counts.now a.groups.now a.kinds.now) a.m a.table.now a.k a.listing.now a.merged.now a.workspace.now) _ f.ensures (ap found c.in_ok-refusal.was) w.result w.ensures.0 b.result b.ensures c.if-any_bad.false g.result g.ensures c.if-not-acceptable.true) (λ z. omega arith)

pub overflow_mul-n : goal.overflow_mul-n
overflow_mul-n c =
    let a = c.args in
    let f = c.refusal in
    omega (arith, (first_none a.wkb_type (lent a.coordinates.now a.counts.now a.groups.now a.kinds.now) a.m (length a.workspace.now) (sym (ap found c.in_ok-refusal.was) ∙ f.ensures)).0.few)

pub clear-requires : goal.clear-requires
clear-requires c =
    let a = c.args in
    let f = c.refusal in
    (first_none a.wkb_type (lent a.coordinates.now a.counts.now a.groups.now a.kinds.now) a.m (length a.workspace.now) (sym (ap found c.in_ok-refusal.was) ∙ f.ensures)).1

pub returns : goal.returns
returns c =
    let a = c.args in
    let f = c.refusal in
    let w = c.width_of-width in
    let b = c.any_bad in
    let g = c.acceptable in
    admitted (delivery a.wkb_type (lent a.coordinates.now a.counts.now a.groups.now a.kinds.now) a.m a.table.now a.k a.listing.now a.merged.now a.workspace.now) _ (none_refused (delivery a.wkb_type (lent a.coordinates.now a.counts.now a.groups.now a.kinds.now) a.m a.table.now a.k a.listing.now a.merged.now a.workspace.now) _ f.ensures (ap found c.in_ok-refusal.was) w.result w.ensures.0 b.result b.ensures c.if-any_bad.false g.result g.ensures c.if-not-acceptable.false)
    c.clear.ensures
