-- `root::root` meets its contract: a double that is kept as its bits comes back as it was.
use mathlib.Core.Path.{ap, ◌∙◌}
use Prim.Native.Nat.{ℕ}
use lib.Ieee.{binary64, of_bits}
use Rattle.rules.specs.Root.{root}
use Rattle.float_bits.proofs.Kept.{of_bits_of}
use borrow.Author.Rules.{rules}
use Rattle.float_root.proofs.root.Goals as goal

pub returns : goal.returns
returns c =
    let x = c.args.x in
    c.root_of_bits.ensures
    ∙ ap (λ (n : ℕ). root binary64 (of_bits binary64 n)) c.bits_of.ensures
    ∙ ap (root binary64) (of_bits_of x (search rules))
