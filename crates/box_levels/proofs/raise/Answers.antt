-- The loop's invariant is `Raised`; what is left at the end is nothing, or one box alone.
use Prim.Native.Nat.{◌+◌, ◌*◌, ◌/◌, ◌<◌}
use mathlib.Core.Path.{◌≡◌, subst}
use native.Mathlib.Omega.{arith}
use Rattle.rules.specs.Boxes.{box_at}
use Rattle.box_laws.specs.Sound.{BoxSound}
use Rattle.box_levels.proofs.Extents.{real_of, boxed_back, pair_real, pair_back}
use Rattle.box_levels.proofs.Raised.{Raised, raised_last, raised_pair, raised_more, raised_even, raised_odd}
use Rattle.box_levels.proofs.raise.Goals as goal
use Rattle.box_levels.proofs.raise.Goals.{After-loop-i}

pub extent_at-requires : goal.extent_at-requires
extent_at-requires c = (omega arith, (raised_pair _ _ _ c.requires.0 c.loop-i.invariant c.requires.1 (omega arith)).0)

pub extent_at-requires-in-loop-i : goal.extent_at-requires-in-loop-i
extent_at-requires-in-loop-i c = (omega arith, (raised_pair _ _ _ c.requires.0 c.loop-i.invariant c.requires.1 (omega arith)).1)

pub put-requires : goal.put-requires
put-requires c = (omega arith, pair_real c.around-e.ensures c.extent_at.ensures c.extent_at-in-loop-i.ensures (raised_pair _ _ _ c.requires.0 c.loop-i.invariant c.requires.1 (omega arith)).0 (raised_pair _ _ _ c.requires.0 c.loop-i.invariant c.requires.1 (omega arith)).1)

pub loop-i-preserved : goal.loop-i-preserved
loop-i-preserved c = raised_more _ _ _ c.requires.0 _ c.loop-i.invariant (omega arith) (pair_back c.around-e.ensures c.extent_at.ensures c.extent_at-in-loop-i.ensures (raised_pair _ _ _ c.requires.0 c.loop-i.invariant c.requires.1 (omega arith)).0 (raised_pair _ _ _ c.requires.0 c.loop-i.invariant c.requires.1 (omega arith)).1) c.put.ensures

-- at the end all pairs are raised
reached : (c : After-loop-i) → Raised c.args.boxes.now c.args.at c.args.n c.loop-i.boxes (c.args.n / 2)
reached c = let e : c.loop-i.i ≡ c.args.n / 2 = omega arith in subst (Raised c.args.boxes.now c.args.at c.args.n c.loop-i.boxes) e c.loop-i.invariant

last_sound : (c : After-loop-i) → c.args.n / 2 * 2 < c.args.n → BoxSound (box_at c.loop-i.boxes (c.args.at + c.args.n / 2 * 2))
last_sound c h = raised_last _ _ _ c.requires.0 (reached c) c.requires.1 h

pub extent_at-e-requires : goal.extent_at-e-requires
extent_at-e-requires c =
    let l = (goal.at.extent_at-e-requires c).After-loop-i in
    (omega arith, last_sound l (omega arith))

pub put-requires-then-pairs-n : goal.put-requires-then-pairs-n
put-requires-then-pairs-n c =
    let l = (goal.at.put-requires-then-pairs-n c).After-loop-i in
    (omega arith, real_of c.extent_at-e.ensures (last_sound l (omega arith)))

pub returns-then-pairs-n : goal.returns-then-pairs-n
returns-then-pairs-n c =
    let l = (goal.at.returns-then-pairs-n c).After-loop-i in
    raised_odd _ _ _ c.requires.0 _ (reached l) (omega arith) (omega arith) (boxed_back c.extent_at-e.ensures (last_sound l (omega arith))) c.put-then-pairs-n.ensures

pub returns-else-pairs-n : goal.returns-else-pairs-n
returns-else-pairs-n c = raised_even _ _ _ c.requires.0 (reached (goal.at.returns-else-pairs-n c).After-loop-i) (omega arith)
