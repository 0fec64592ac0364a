-- `group` starts with empty buckets and places end by end; after all m the lists behind the leaders are the nodes.
use Rattle.std.proofs.Common.{arith, ℕ, ◌≡◌, refl, subst}
use Rattle.chain_grouping.specs.Group.{EndPlaced}
use Rattle.chain_grouping.proofs.Space.{cleared_zero, cleared_kept, placed_start, placed_own, placed_then}
use Rattle.chain_grouping.proofs.Nodes.{nodes}
use Rattle.chain_grouping.proofs.group.Goals as goal

pub loop-e-init : goal.loop-e-init
loop-e-init c = placed_start _ _ _ (cleared_zero _ _ _ c.clear.ensures) (λ j h. refl)

pub place-requires : goal.place-requires
place-requires c = (
  record { few = c.requires.few; fits = omega (arith, c.requires.fits) },
  c.loop-e-test.true,
  placed_own c.loop-e.invariant,
)

pub loop-e-preserved : goal.loop-e-preserved
loop-e-preserved c = placed_then c.loop-e.invariant c.place.ensures

pub returns : goal.returns
returns c =
    let q : c.loop-e.e ≡ c.args.m = omega arith in
    nodes (subst (λ (i : ℕ). EndPlaced c.loop-e.w c.args.w.now c.args.m i) q
    (placed_then (placed_start _ c.args.w.now _ (cleared_zero _ _ _ c.clear.ensures) (cleared_kept _ _ _ c.clear.ensures)) c.loop-e.invariant))
