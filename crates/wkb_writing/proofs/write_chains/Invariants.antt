-- The loop keeps `Writing`; each step writes one chain.
use Rattle.rules.specs.Wkb.{chains_as}
use Rattle.wkb_records.specs.Orders.{byte_of}
use Rattle.wkb_writing.proofs.Runs.{Writing}
use Rattle.wkb_writing.proofs.write_chains.Given as goal

abbrev pub invariant-loop-j : goal.invariant-loop-j
invariant-loop-j l = Writing l.width (chains_as l.wkb_type l.coordinates l.merged l.table l.n (byte_of l.order) l.initial.run l.initial.lengths) l.run l.lengths l.at l.j
