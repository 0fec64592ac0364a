-- `share_refusal` is the first of 20 and 21: both districts bring together what is lent, so that the rest of all is the first's.
use mathlib.Core.Path.{◌≡◌, sym, ◌∙◌}
use native.Mathlib.Omega.{arith}
use Rattle.rules.specs.Districts.{over_lines, over_points}
use Rattle.build_shares.proofs.Shares.{lines_shared, points_shared, over_lines_lem, over_points_lem, by_twenty, by_twenty_one, by_neither}
use Rattle.build_shares.proofs.share_refusal.Goals as goal
use Rattle.build_shares.proofs.share_refusal.Goals.{After-over, After-over-2}

-- what the two calls of `over` tell
lines_told : (c : After-over) → over_lines c.args.groups.now ≡ c.over.result
lines_told c =
    over_lines_lem _ _ _ c.requires.1 c.second_share-second.ensures.0 ∙ sym c.over.ensures

points_told : (c : After-over-2)
    → over_points c.args.counts.now c.args.groups.now
    ≡ c.over-2.result
points_told c =
    over_points_lem _ _ _ _ c.requires.2 c.second_share-second.ensures.1 ∙ sym c.over-2.ensures

pub over-requires : goal.over-requires
over-requires c = omega (arith, lines_shared c.args.groups.now, c.second_share-second.ensures.0)

pub returns-then-over : goal.returns-then-over
returns-then-over c = by_twenty _ _ (lines_told (goal.at.returns-then-over c).After-over ∙ c.if-over.true)

pub over-requires-2 : goal.over-requires-2
over-requires-2 c =
    omega (
      arith,
      points_shared c.args.counts.now c.args.groups.now,
      c.second_share-second.ensures.1,
      c.requires.2,
    )

pub returns-then-over-2 : goal.returns-then-over-2
returns-then-over-2 c = by_twenty_one _ _ (lines_told (goal.at.returns-then-over-2 c).After-over ∙ c.if-over.false) (points_told (goal.at.returns-then-over-2 c).After-over-2 ∙ c.if-over-2.true)

pub returns : goal.returns
returns c = by_neither _ _ (lines_told (goal.at.returns c).After-over ∙ c.if-over.false) (points_told (goal.at.returns c).After-over-2 ∙ c.if-over-2.false)
