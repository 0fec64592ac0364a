-- Where rows stand in blocks, the least of all keys is the least of the blocks' least keys.
use Rattle.std.proofs.Common.{ℕ, ◌*◌, refl, subst, rules}
use Rattle.pair_ends.specs.Blocks.{lows_from}
use Rattle.pair_plain.specs.Lows.{IsLow}
use Rattle.pair_plain.proofs.Blockwise.{top_none, top_row}
use Rattle.pair_plain.proofs.lowest.Goals as goal

pub returns-in_err-low-clause-is : goal.returns-in_err-low-clause-is
returns-in_err-low-clause-is g c =
    rw c.from_residual.ensures
    (top_none _ _ (c.requires.1 (search rules)) _ (subst (λ (n : ℕ). IsLow c.args.w.now (c.args.d * lows_from) 0 n _) c.blocks-2.ensures c.in_err-low.ensures.is) refl)

pub returns-clause-is : goal.returns-clause-is
returns-clause-is g c =
    top_row _ _ (c.requires.1 (search rules)) c.in_ok-low.low (subst (λ (n : ℕ). IsLow c.args.w.now (c.args.d * lows_from) 0 n c.in_ok-low.low) c.blocks-2.ensures c.in_ok-low.ensures.is) c.in_ok-low.ensures.some
