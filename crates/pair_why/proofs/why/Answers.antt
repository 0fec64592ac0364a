-- Two numbers that are no two ends are refused, after the plain route's refusals. Otherwise the plain route's call is made: its refusal is passed on, and of an
-- accepted one the written pairs are looked at.
use borrow.Author.Rules.{rules}
use mathlib.Core.Path.{refl, sym, ap, ◌∙◌, subst}
use native.Mathlib.Omega.{arith}
use Rattle.rules.specs.Answers.{Answer, refusal_number, answered}
use Rattle.rules.specs.Lent.{ends_lent}
use Rattle.rules.specs.Reasons.{Why}
use Rattle.rules.specs.Refusals.{LentEnds}
use Rattle.build_refusals.proofs.Found.{no_none}
use Rattle.pair_calls.proofs.Routing.{handed_on}
use Rattle.pair_why.specs.Looking.{Called}
use Rattle.pair_why.proofs.Answers.{refused_plain, refused_ends, passed_on, few_words, words_there, words_within, asks, answered_by}
use Rattle.pair_why.proofs.why.Goals as goal
use Rattle.pair_why.proofs.why.Goals.{After-pairs, Start}

abbrev lent : Start → LentEnds
lent s = ends_lent s.args.ends.now s.args.limit s.args.pairs.now s.args.workspace.now

-- the plain route has been called, for two ends
called : (c : After-pairs) → Called (lent (goal.at.After-pairs c).Start) c.args.i c.args.j (answered c.pairs.result) c.pairs.new.pairs c.pairs.new.workspace
called c = record { two_ends = sym c.no_ends.ensures ∙ c.if-no_ends.false; fitting = search rules; paired = c.pairs.ensures }

pub returns-in_err-pair_refusal : goal.returns-in_err-pair_refusal
returns-in_err-pair_refusal c =
    let i = lent (goal.at.returns-in_err-pair_refusal c).Start in
    let r = c.in_err-pair_refusal.field-0.0 in
    subst (λ (a : Answer). Why i c.args.i c.args.j a i.pairs i.workspace) (sym (handed_on c.from_residual.result r c.from_residual.ensures.1))
    (refused_plain i c.args.i c.args.j (refusal_number r) c.in_err-pair_refusal.ensures (no_none r))

pub returns-then-no_ends : goal.returns-then-no_ends
returns-then-no_ends c =
    refused_ends (lent (goal.at.returns-then-no_ends c).Start) c.args.i c.args.j 0 c.in_ok-pair_refusal.ensures refl (sym c.no_ends.ensures ∙ c.if-no_ends.true)

pub returns-in_err-n : goal.returns-in_err-n
returns-in_err-n c =
    let i = lent (goal.at.returns-in_err-n c).Start in
    let r = c.in_err-n.field-0.0 in
    subst (λ (a : Answer). Why i c.args.i c.args.j a c.pairs.new.pairs c.pairs.new.workspace) (sym (handed_on c.from_residual-in_err-n.result r c.from_residual-in_err-n.ensures.1))
    (passed_on (called (goal.at.returns-in_err-n c).After-pairs) (ap answered c.in_err-n.was))

pub overflow_mul-n : goal.overflow_mul-n
overflow_mul-n c = omega (arith, few_words (called (goal.at.overflow_mul-n c).After-pairs) (ap answered c.in_ok-n.was))

pub slice_bounds-reason-end : goal.slice_bounds-reason-end
slice_bounds-reason-end c = words_within (called (goal.at.slice_bounds-reason-end c).After-pairs) (ap answered c.in_ok-n.was)

pub slice_bounds-reason-end-2 : goal.slice_bounds-reason-end-2
slice_bounds-reason-end-2 c = words_there (called (goal.at.slice_bounds-reason-end-2 c).After-pairs) (ap answered c.in_ok-n.was)

pub reason-told-requires : goal.reason-told-requires
reason-told-requires c = asks (called (goal.at.reason-told-requires c).After-pairs) (ap answered c.in_ok-n.was)

pub returns : goal.returns
returns c =
    answered_by (called (goal.at.returns c).After-pairs) (ap answered c.in_ok-n.was) c.reason-told.result c.number.result c.reason-told.ensures c.number.ensures
