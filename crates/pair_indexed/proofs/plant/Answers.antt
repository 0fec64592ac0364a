use mathlib.Core.Path.{refl}
use native.Mathlib.Omega.{arith}
use Rattle.pair_indexed.proofs.Planting.{planting_room, planting_sound, planting_next, planting_leaves}
use Rattle.pair_indexed.proofs.plant.Goals as goal

pub put-requires : goal.put-requires
put-requires c =
    let b = planting_room c.requires c.loop-p.invariant.1 in
    record {
      inside = omega (arith, b.0, b.1, c.loop-p-test.true);
      sound = planting_sound c.requires c.loop-p.invariant.1 c.loop-p-test.true c.leaf-b.ensures;
    }

pub loop-p-preserved : goal.loop-p-preserved
loop-p-preserved c = (refl, planting_next c.requires c.loop-p.invariant.1 c.loop-p-test.true c.leaf-b.ensures c.put.ensures)

pub join-requires : goal.join-requires
join-requires c = planting_leaves c.requires c.loop-p.invariant.1 c.loop-p-test.false
