-- After q turns the entries of the first q pieces stand from `at` on; the lengths are filled in behind them.
use Prim.Native.Nat.{◌*◌}
use mathlib.Core.Path.{◌≡◌, refl}
use native.Mathlib.Omega.{arith}
use lib.ListN.{length-set}
use Rattle.point_slices.proofs.Laws.{from_start, from_set}
use Rattle.rules.specs.Lists.{from, upto}
use Rattle.chain_keeping.proofs.Alone.{entries_next}
use Rattle.chain_keeping.proofs.walk_each.Goals as goal

pub loop-q-init : goal.loop-q-init
unfolding upto from
loop-q-init c = (omega arith, (λ h. from_start c.args.w.now c.args.at), refl)

pub loop-q-preserved : goal.loop-q-preserved
loop-q-preserved c =
    (omega arith, (λ h. rw (entries_next c.loop-q.q) (from_set (c.loop-q.invariant.1 h) (omega arith) (c.loop-q.q * 2))), simp length-set c.loop-q.invariant.2)

pub returns : goal.returns
returns c =
    let e : c.loop-q.q ≡ c.args.m = omega arith in
    record { one = c.loop-q.w; entered = rw (← e) (c.loop-q.invariant.1 c.requires); measured = c.fill_from.ensures }
