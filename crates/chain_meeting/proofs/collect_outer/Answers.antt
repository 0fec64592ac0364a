-- `collect_outer` writes key by key, of the ends that are listed below (`Collecting`).
use Prim.Native.Nat.{◌+◌, ◌-◌, ◌*◌, ◌/◌, ◌≤◌}
use native.Mathlib.Omega.{arith}
use lib.ListN.{length, get_or}
use Rattle.rules.specs.Answers.{Grid}
use Rattle.std.specs.Prelude.{Some}
use Rattle.chain_keys.proofs.Laws.{keying_start}
use Rattle.chain_meeting.specs.Meeting.{Collectable}
use Rattle.chain_meeting.proofs.Collecting.{Collecting, collecting_done, listed_in, listed_placed, listed_group, listed_fits, collecting_step}
use Rattle.chain_meeting.proofs.collect_outer.Goals as goal
use Rattle.chain_meeting.proofs.collect_outer.Goals.{In-loop-t}

module _ (i : In-loop-t) where
  abbrev grid : Grid
  grid = Some i.args.cells

  abbrev keys_so_far : Collecting i.args.width i.args.records i.args.members i.args.ends i.args.keys i.args.k i.args.groups.now i.args.input.now grid i.args.w.now i.requires i.loop-t.w i.loop-t.t
  keys_so_far = i.loop-t.invariant.1 i.requires

  -- the list, the pieces and the keys are inside the workspace
  listed_below : i.args.ends + i.args.k ≤ length i.loop-t.w
  listed_below = omega (arith, i.requires.below, i.requires.keyable.room, keys_so_far.size)

  record_below : i.args.records + get_or i.loop-t.w (i.args.ends + i.loop-t.t) 0 / 2 * 5 + 5 ≤ length i.loop-t.w
  record_below =
      omega (
        arith,
        i.requires.keyable.below,
        i.requires.keyable.room,
        keys_so_far.size,
        listed_in i.args.width i.args.records i.args.members i.args.ends i.args.keys i.args.k i.args.groups.now i.args.input.now grid i.args.w.now i.requires i.loop-t.w i.loop-t.t keys_so_far i.loop-t-test.true,
      )

  key_fits : i.args.keys + i.loop-t.t * 3 + 3 ≤ length i.loop-t.w
  key_fits = listed_fits i.args.width i.args.records i.args.members i.args.ends i.args.keys i.args.k i.args.groups.now i.args.input.now grid i.args.w.now i.requires i.loop-t.w i.loop-t.t keys_so_far i.loop-t-test.true

pub overflow_mul-e : goal.overflow_mul-e
overflow_mul-e c = omega (arith, record_below (goal.at.overflow_mul-e c).In-loop-t, (keys_so_far (goal.at.overflow_mul-e c).In-loop-t).size)

pub overflow_add-records : goal.overflow_add-records
overflow_add-records c = omega (arith, record_below (goal.at.overflow_add-records c).In-loop-t, (keys_so_far (goal.at.overflow_add-records c).In-loop-t).size)

pub put_cell-requires : goal.put_cell-requires
put_cell-requires c =
    let a = c.args in
    let g : Grid = Some a.cells in
    let K = c.loop-t.invariant.1 c.requires in
    let h = c.loop-t-test.true in (
      listed_placed a.width a.records a.members a.ends a.keys a.k a.groups.now a.input.now g a.w.now c.requires c.loop-t.w c.loop-t.t K h,
      listed_group a.width a.records a.members a.ends a.keys a.k a.groups.now a.input.now g a.w.now c.requires c.loop-t.w c.loop-t.t K h,
      listed_fits a.width a.records a.members a.ends a.keys a.k a.groups.now a.input.now g a.w.now c.requires c.loop-t.w c.loop-t.t K h,
    )

pub loop-t-preserved : goal.loop-t-preserved
loop-t-preserved c =
    let a = c.args in (
      omega (arith, c.loop-t-test.true),
      λ y. collecting_step a.width a.records a.members a.ends a.keys a.k a.groups.now a.input.now (Some a.cells) a.w.now y c.loop-t.w c.loop-t.t (c.loop-t.invariant.1 y) c.loop-t-test.true
          _ c.put_cell.ensures,
    )

pub returns : goal.returns
returns c =
    let a = c.args in
    collecting_done a.width a.records a.members a.ends a.keys a.k a.groups.now a.input.now (Some a.cells) a.w.now c.requires c.loop-t.w c.loop-t.t (c.loop-t.invariant.1 c.requires) c.loop-t-test.false
