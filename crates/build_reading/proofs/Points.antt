-- Every point of a chain is one of the lent points: so what holds of each of these holds of each point of each chain, and a chain's points that are written
-- are read as they were.
use Prim.Native.Nat.{ℕ, ◌≤◌, ◌<◌}
use mathlib.Core.Path.{◌≡◌, sym, subst}
use mathlib.Core.List.{List, [], ◌∷◌}
use native.Mathlib.Omega.{arith}
use lib.ListN.{length, get_or}
use Rattle.rules.specs.declared.Settings.{Settings}
use Rattle.rules.specs.Lists.{total}
use Rattle.rules.specs.Plane.{Point, points, flat}
use Rattle.rules.specs.Chaining.{Piece, nothing, chains}
use Rattle.rules.specs.Layout.{Lines, lines_in}
use Rattle.point_numbers.specs.Width.{Wide, AllWide, none_wide, more_wide}
use Rattle.point_numbers.proofs.Points.{points_wide, points_flat}
use Rattle.chain_laws.proofs.Counts.{Each, nil, cons, each_part, each_get_d}
use Rattle.chain_laws.proofs.Records.{line_at}
use Rattle.chain_extras.proofs.Riding.{chains_all}
use lib.ListN.{take}

module _ (w : ℕ) (l : Lines) (s : Settings) where
  pub chains_have : (P : Point → Type 0) → Each P (points w l.coordinates) → Each (λ (c : Piece). Each P c.points) (chains s (lines_in w l))
  chains_have P h =
      chains_all (lines_in w l) P
      (λ k. subst (Each P) (sym (line_at (points w l.coordinates) l.counts l.groups l.kinds k))
      (each_part (points w l.coordinates) (total (take k l.counts)) (get_or l.counts k 0) h))
      s

  all_each : (ps : List Point) → AllWide w ps → Each (Wide w) ps
  all_each [] none_wide = nil
  all_each (p ∷ ps) (more_wide h a) = cons h (all_each ps a)

  each_all : (ps : List Point) → Each (Wide w) ps → AllWide w ps
  each_all [] nil = none_wide
  each_all (p ∷ ps) (cons h a) = more_wide h (each_all ps a)

  pub points_read : 2 ≤ w → (q : ℕ) → q < length (chains s (lines_in w l))
      → points w (flat w (get_or (chains s (lines_in w l)) q nothing).points) ≡ (get_or (chains s (lines_in w l)) q nothing).points
  points_read two q h =
      points_flat w _ (omega arith)
      (each_all _ (each_get_d (λ (c : Piece). Each (Wide w) c.points) (chains s (lines_in w l)) q nothing
      (chains_have (Wide w) (all_each (points w l.coordinates) (points_wide w l.coordinates two))) h))
