-- Back: the head from the end e on, with the steps that are left, is the head of the start.
use Prim.Native.Nat.{◌<◌, ◌*◌, ◌-◌}
use mathlib.Core.Path.{◌≡◌}
use Rattle.rules.specs.Walking.{back}
use Rattle.chain_laws.specs.Table.{from_table, head_of}
use Rattle.chain_walks.proofs.head.Given as goal

abbrev pub invariant-loop-k : goal.invariant-loop-k
invariant-loop-k l = (l.e < 2 * l.n) × (back (from_table l.joins) l.start (l.n - l._k) l.e ≡ head_of l.joins l.n l.start)
