-- What is known from the place `low` where it reaches so far, and else point by point.
use native.Mathlib.Omega.{arith}
use Rattle.check_places.proofs.Stretching.{known_less, known_all, known_small}
use Rattle.check_places.proofs.alike.Goals as goal

pub overflow_cast-known : goal.overflow_cast-known
overflow_cast-known c =
    let a = c.args in
    omega (arith, known_small a.width a.chain.now a.near.now a.s c.requires.last a.i c.requires.known c.requires.next (omega arith))

pub returns-then-known-all : goal.returns-then-known-all
returns-then-known-all c =
    let a = c.args in
    let g = c.requires in
    known_less a.width a.chain.now a.near.now a.s g.last a.i g.known g.next (omega arith) (omega arith)

pub stretch-requires-2 : goal.stretch-requires-2
stretch-requires-2 c =
    let a = c.args in
    let g = c.requires in
    record {
      two = g.two;
      four = g.four;
      chain_whole = g.chain_whole;
      near = g.reach;
      short = omega (arith, g.known.short);
      inside = g.known.best_inside;
      begun = known_all a.width a.chain.now a.near.now a.s g.last a.i g.known g.next (omega arith) (omega arith);
    }
