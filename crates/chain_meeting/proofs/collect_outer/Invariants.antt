-- `collect_outer` writes key by key, of the ends that are listed below (`Collecting`).
use Prim.Native.Nat.{◌-◌, ◌≤◌}
use Rattle.std.specs.Prelude.{Some}
use Rattle.chain_meeting.specs.Meeting.{Collectable}
use Rattle.chain_meeting.proofs.Collecting.{Collecting}
use Rattle.chain_meeting.proofs.collect_outer.Given as goal

abbrev pub invariant-loop-t : goal.invariant-loop-t
invariant-loop-t l =
    (l.t ≤ l.k) × ((y : Collectable l.width l.initial.w l.records l.members l.ends l.keys l.k l.groups l.input) → Collecting l.width l.records l.members l.ends l.keys l.k l.groups l.input (Some l.cells) l.initial.w y l.w l.t)
