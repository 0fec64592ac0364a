-- What the pieces of a call have that a round leaves, or that a round takes in.
use Rattle.std.specs.Prelude.{ℕ, ◌≤◌, ◌<◌, ◌≡◌, false, length}
use mathlib.Core.List.{List, map, flat_map}
use Rattle.rules.specs.Lists.{count, total}
use Rattle.rules.specs.Chaining.{Piece}
use Rattle.rules.specs.Layout.{Lines, lines_in}
use Rattle.rules.specs.Refusals.{any_nowhere}
use Rattle.rules.specs.Pieces.{plain_lines}
use Rattle.chain_laws.proofs.Counts.{Each}
use Rattle.chain_laws.proofs.Room.{size}
use Rattle.chain_laws.proofs.Sound.{Sound}
use Rattle.point_numbers.specs.Width.{AllWide}

-- they are sound, each with coordinates that are places, and have each line that doesn't pass through once, and no more coordinates than there are
pub record Good (w : ℕ) (l : Lines) (ps : List Piece) : Type 0 where
  pub sound : Each (Sound (lines_in w l)) ps
  pub pointed : Each (λ p. 0 < length p.points) ps
  pub placed : Each (λ p. any_nowhere p.points ≡ false) ps
  pub wide : Each (λ p. AllWide w p.points) ps
  pub once : (y : ℕ) → count y (flat_map (λ p. p.lines) ps) ≡ count y (plain_lines w l)
  pub few : total (map size ps) ≤ total l.counts
