use native.Mathlib.Omega.{arith}
use Rattle.pair_indexed.proofs.Starting.{pairing_start, pairing_idle, pairing_query, pairing_next, pairing_changes, pairing_stop}
use Rattle.pair_indexed.proofs.fill.Goals as goal
use Rattle.pair_indexed.proofs.fill.Goals.{then-s-d, else-s-d}

pub loop-p-init : goal.loop-p-init
loop-p-init c = let a = c.args.plan in pairing_start c.args.w.now a.d a.index.height a.slots a.limit c.requires

pub first_of-v-requires : goal.first_of-v-requires
first_of-v-requires c = pairing_query c.loop-p.invariant c.loop-p-test.true

pub loop-p-preserved : goal.loop-p-preserved
loop-p-preserved c =
    elim c.if-s-d.branch [
      | then-s-d v ↦ rw v.w-is (pairing_next c.loop-p.invariant c.loop-p-test.true (omega (arith, v.if-s-d.true)) v.first_of-v.ensures v.put.ensures)
      | else-s-d v ↦ rw v.w-is (pairing_idle c.loop-p.invariant c.loop-p-test.true v.if-s-d.false)
    ]

pub returns : goal.returns
returns c = (pairing_stop c.loop-p.invariant c.loop-p-test.false c.join.ensures, pairing_changes c.loop-p.invariant c.loop-p-test.false c.join.ensures)
