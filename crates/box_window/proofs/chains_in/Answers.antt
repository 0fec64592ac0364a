-- Each return answers by the first refusal that applies, or by the listing.
use mathlib.Core.Path.{sym, ◌∙◌}
use native.Mathlib.Omega.{arith}
use Rattle.rules.specs.Windows.{found_of}
use Rattle.box_window.proofs.Answers.{refused_18, few_boxes, few_found, too_many, accepted}
use Rattle.box_window.proofs.chains_in.Goals as goal
use Rattle.box_window.proofs.chains_in.Goals.{then-boxes-lt-BOX_ROOM_BESIDE-via-then-boxes-lt-BOX_ROOM_BESIDE, then-boxes-lt-BOX_ROOM_BESIDE-via-else-boxes-lt-BOX_ROOM_BESIDE+then-boxes-k, then-boxes-lt-BOX_ROOM_BESIDE-via-else-boxes-lt-BOX_ROOM_BESIDE+else-boxes-k+then-found-k, then-boxes-lt-BOX_ROOM_BESIDE-via-else-boxes-lt-BOX_ROOM_BESIDE+else-boxes-k+else-found-k+then-k-gt-NAMES}

pub returns-then-bad : goal.returns-then-bad
returns-then-bad c = refused_18 _ (sym c.bad.ensures ∙ c.if-bad.true)

pub returns-then-boxes-lt-BOX_ROOM_BESIDE : goal.returns-then-boxes-lt-BOX_ROOM_BESIDE
returns-then-boxes-lt-BOX_ROOM_BESIDE c =
    let good = sym c.bad.ensures ∙ c.if-bad.false in
    elim c.then-boxes-lt-BOX_ROOM_BESIDE.branch [
      | then-boxes-lt-BOX_ROOM_BESIDE-via-then-boxes-lt-BOX_ROOM_BESIDE w ↦ few_boxes _ good (omega arith)
      | then-boxes-lt-BOX_ROOM_BESIDE-via-else-boxes-lt-BOX_ROOM_BESIDE+then-boxes-k w ↦ few_boxes _ good (omega arith)
      | then-boxes-lt-BOX_ROOM_BESIDE-via-else-boxes-lt-BOX_ROOM_BESIDE+else-boxes-k+then-found-k w ↦ few_found _ good w.if-found-k.true
      | then-boxes-lt-BOX_ROOM_BESIDE-via-else-boxes-lt-BOX_ROOM_BESIDE+else-boxes-k+else-found-k+then-k-gt-NAMES w ↦ too_many _ good w.if-k-gt-NAMES.true
    ]

pub returns : goal.returns
unfolding found_of
returns c = accepted _ (sym c.bad.ensures ∙ c.if-bad.false) (omega arith) (omega arith) (omega arith) _ _ c.list.ensures
