-- A call's lines: where no lent coordinate is refused as no place, every chain of the lent lines is as `Travelled` says, and so is what is written of
-- it. A line's points are some of those that were looked at, and a chain's points have the lines' width.
use Prim.Native.Nat.{ℕ, zero, suc, ◌≤◌}
use mathlib.Core.Path.{◌≡◌, refl, sym, subst}
use mathlib.Core.Bool.{false}
use mathlib.Core.List.{List, [], ◌∷◌}
use native.Mathlib.Omega.{arith}
use lib.ListN.{take, drop}
use Rattle.rules.specs.declared.Settings.{Settings}
use Rattle.rules.specs.Plane.{Point, points, flat}
use Rattle.rules.specs.Chaining.{Piece, chains}
use Rattle.rules.specs.Layout.{Lines, lines, lines_in}
use Rattle.rules.specs.Refusals.{any_nowhere}
use Rattle.point_numbers.proofs.Points.{points_flat, points_wide}
use Rattle.chain_laws.proofs.Counts.{Each, nil, cons}
use Rattle.chain_extras.specs.Bare.{From}
use Rattle.chain_extras.proofs.Riding.{chains_owned}
use Rattle.chain_extras.proofs.Building.{lines_wide, from_wide}
use Rattle.chain_travel.specs.Travel.{Travelled, ChainTravelled}
use Rattle.chain_travel.proofs.Values.{places_split}
use Rattle.chain_travel.proofs.Travel.{chains_travelled}

-- where no point of a list is no place, none in front is, and none behind
places_take : (c : ℕ) (l : List Point) → any_nowhere l ≡ false → any_nowhere (take c l) ≡ false
unfolding any_nowhere
places_take zero l h = refl
places_take (suc c) [] h = refl
places_take (suc c) (p ∷ l) h = rw ((places_split p l h).0, any_nowhere) (places_take c l (places_split p l h).1)

places_drop : (c : ℕ) (l : List Point) → any_nowhere l ≡ false → any_nowhere (drop c l) ≡ false
places_drop zero l h = h
places_drop (suc c) [] h = h
places_drop (suc c) (p ∷ l) h = places_drop c l (places_split p l h).1

pub lines_places : (ps : List Point) (counts groups kinds : List ℕ) → any_nowhere ps ≡ false → Each (λ l. any_nowhere l.points ≡ false) (lines ps counts groups kinds)
unfolding lines
lines_places ps [] groups kinds h = nil
lines_places ps (c ∷ counts) groups kinds h =
    cons (places_take c ps h) (lines_places (drop c ps) counts (drop 1 groups) (drop 1 kinds) (places_drop c ps h))

-- ---- chains of lent lines, of points of w numbers each

module _ (w : ℕ) (s : Settings) (l : Lines) (places : any_nowhere (points w l.coordinates) ≡ false) where
  pub lent_travelled : Each (ChainTravelled (lines_in w l)) (chains s (lines_in w l))
  lent_travelled = chains_travelled (lines_in w l) (lines_places (points w l.coordinates) l.counts l.groups l.kinds places) s

  -- points written as numbers are read as they were
  as_written : (p : Piece) → 2 ≤ w → Each (From (lines_in w l) p.lines) p.points → points w (flat w p.points) ≡ p.points
  as_written p two h =
      points_flat w p.points (omega arith)
      (from_wide w (lines_in w l)
      (λ k. lines_wide w (points w l.coordinates) l.counts l.groups l.kinds k (points_wide w l.coordinates two))
      p.lines p.points h)

  -- THE SAME OF THE CHAINS' NUMBERS, AS A CALL WRITES THEM
  pub written_travelled : 2 ≤ w → Each (λ p. Travelled (lines_in w l) p.lines p.marks p.listing (points w (flat w p.points))) (chains s (lines_in w l))
  written_travelled two = go (chains s (lines_in w l)) (chains_owned (lines_in w l) s) lent_travelled
    where
      go : (ps : List Piece) → Each (λ (p : Piece). Each (From (lines_in w l) p.lines) p.points) ps → Each (ChainTravelled (lines_in w l)) ps
          → Each (λ p. Travelled (lines_in w l) p.lines p.marks p.listing (points w (flat w p.points))) ps
      go ps nil nil = nil
      go ps (cons {a = p} {l = qs} h a) (cons t b) =
          cons (subst (Travelled (lines_in w l) p.lines p.marks p.listing) (sym (as_written p two h)) t) (go qs a b)
