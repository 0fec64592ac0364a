-- `indexed::indexed` meets its contract: where each direction is beyond the box around all there is no pair; else the ends are arranged, the index and the
-- heap are built, and the pairs are chosen from them.
use mathlib.Core.Path.{◌≡◌}
use native.Mathlib.Omega.{arith}
use Rattle.pair_indexed.proofs.Beginning.{none_selected, some_end, noted_asks, noted_here, noted_selected, cleared_room, begins, selected}
use Rattle.pair_indexed.proofs.indexed.Goals as goal
use Rattle.pair_indexed.proofs.indexed.Goals.{Else-apart}

pub returns-then-apart : goal.returns-then-apart
returns-then-apart c = none_selected c.requires c.apart.ensures c.if-apart.true

-- ---- where one is not

some : (c : Else-apart) → c.args.d ≡ 0 → ⊥
some c = some_end c.apart.ensures c.if-apart.false

pub note-requires : goal.note-requires
note-requires c = (c.requires.room, some (goal.at.note-requires c).Else-apart)

pub arrange-m-requires : goal.arrange-m-requires
arrange-m-requires c =
    let x = c.requires in
    let n = c.note.ensures in
    cleared_room (noted_asks x n) (noted_here x n) (some (goal.at.arrange-m-requires c).Else-apart) c.fill_from.ensures

pub tree_for-slots-requires : goal.tree_for-slots-requires
tree_for-slots-requires c =
    omega (arith, c.requires.room.few, c.arrange-m.ensures.0.started.few)

pub begin-requires : goal.begin-requires
begin-requires c =
    let z = c.arrange-m.ensures in
    let x = c.requires in
    let n = c.note.ensures in
    (c.tree_for-index.ensures.power, begins (noted_asks x n) (noted_here x n) (some (goal.at.begin-requires c).Else-apart) c.fill_from.ensures z.0 z.1 c.tree_for-index.ensures c.tree_for-slots.ensures)

pub returns : goal.returns
returns c =
    let z = c.arrange-m.ensures in
    let x = c.requires in
    let n = c.note.ensures in
    noted_selected x n
    (selected (noted_asks x n) (noted_here x n) (some (goal.at.returns c).Else-apart) c.fill_from.ensures z.0 z.1 c.begin.ensures.1 c.choose.ensures)
