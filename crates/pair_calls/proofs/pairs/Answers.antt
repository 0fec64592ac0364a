-- A call by one of the routes. Refused, nothing is touched. Accepted, the ends are put into the workspace, the route leaves the selected pairs behind them,
-- they are taken out, and the workspace is cleared: the laws of `lending` make the book's record of these four.
use borrow.Author.Rules.{rules}
use mathlib.Core.Path.{◌≡◌, sym, subst}
use native.Mathlib.Omega.{arith}
use Rattle.rules.specs.Answers.{Answer, refusal_number}
use Rattle.rules.specs.Lent.{ends_lent}
use Rattle.rules.specs.Calls.{Paired}
use Rattle.rules.specs.Refusals.{LentEnds, pair_refusal_of}
use Rattle.build_refusals.proofs.Found.{no_none}
use Rattle.pair_laws.proofs.Refusals.{admitted}
use Rattle.pair_lending.specs.Lent.{Matched}
use Rattle.pair_lending.proofs.Answers.{matched, put_room, few_words, takeable, refused, accepted}
use Rattle.pair_calls.proofs.Routing.{ruled, routed, handed_on}
use Rattle.pair_calls.proofs.pairs.Given.{Over}
use Rattle.pair_calls.proofs.pairs.Goals as goal
use Rattle.pair_calls.proofs.pairs.Goals.{In_ok-pair_refusal}

module _ (g : Over) (c : In_ok-pair_refusal g) where
  abbrev lent : LentEnds
  lent = ends_lent c.args.ends.now c.args.limit c.args.pairs.now c.args.workspace.now

  -- an accepted call is refused by nothing
  none : pair_refusal_of g.R.Route.ALONE lent ≡ 0
  none = sym (ruled g.R.Route.ALONE c.ALONE.result lent 0 c.ALONE.ensures c.in_ok-pair_refusal.ensures)

  matches : Matched lent.workspace lent.present lent.directions lent.pieces
  matches = matched g.R.Route.ALONE lent none

pub returns-in_err-pair_refusal : goal.returns-in_err-pair_refusal
returns-in_err-pair_refusal g c =
    let i = ends_lent c.args.ends.now c.args.limit c.args.pairs.now c.args.workspace.now in
    let r = c.in_err-pair_refusal.field-0.0 in
    subst (λ (a : Answer). Paired g.R.Route.ALONE i a i.pairs i.workspace) (sym (handed_on c.from_residual.result r c.from_residual.ensures.1))
    (refused g.R.Route.ALONE i (refusal_number r) (ruled g.R.Route.ALONE c.ALONE.result i (refusal_number r) c.ALONE.ensures c.in_err-pair_refusal.ensures) (no_none r))

pub put_ends-requires : goal.put_ends-requires
put_ends-requires g c = matches g (goal.at.put_ends-requires g c).In_ok-pair_refusal

pub select-n-requires : goal.select-n-requires
select-n-requires g c =
    let s = (goal.at.select-n-requires g c).In_ok-pair_refusal in routed g.R.Route.ALONE (lent g s) (none g s) c.put_ends.ensures

pub overflow_mul-n : goal.overflow_mul-n
overflow_mul-n g c =
    let m = matches g (goal.at.overflow_mul-n g c).In_ok-pair_refusal in
    omega (arith, few_words (put_room m c.put_ends.ensures) c.select-n.ensures, m.room.few)

pub take_pairs-requires : goal.take_pairs-requires
take_pairs-requires g c =
    let s = (goal.at.take_pairs-requires g c).In_ok-pair_refusal in
    takeable (put_room (matches g s) c.put_ends.ensures) c.select-n.ensures (search rules) _ (admitted g.R.Route.ALONE (lent g s) (none g s)).room

pub overflow_mul-d-2 : goal.overflow_mul-d-2
overflow_mul-d-2 g c = omega (arith, (matches g (goal.at.overflow_mul-d-2 g c).In_ok-pair_refusal).room.few)

pub clear-requires : goal.clear-requires
clear-requires g c = omega (arith, (matches g (goal.at.clear-requires g c).In_ok-pair_refusal).room.long)

pub returns : goal.returns
returns g c =
    let s = (goal.at.returns g c).In_ok-pair_refusal in
    accepted g.R.Route.ALONE (lent g s) (none g s) (search rules) c.put_ends.ensures c.select-n.ensures c.take_pairs.ensures c.clear.ensures
