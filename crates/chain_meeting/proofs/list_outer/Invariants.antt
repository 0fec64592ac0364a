-- `list_outer` reads the lengths of the walks and their first and last entries, which stand below what it writes (`Listing`).
use Rattle.chain_meeting.specs.Meeting.{OuterListable}
use Rattle.chain_meeting.proofs.Listing.{Listing}
use Rattle.chain_meeting.proofs.list_outer.Given as goal

abbrev pub invariant-loop-j : goal.invariant-loop-j
invariant-loop-j l = (y : OuterListable l.initial.w l.entries l.lengths l.r l.at) → Listing l.initial.w l.entries l.lengths l.r l.at y l.w l.from l.j
