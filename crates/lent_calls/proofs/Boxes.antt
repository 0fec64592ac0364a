-- The chains of a second call: good pieces and behind them the lines that pass through. All their points are places, as wide as the call's, so their boxes are
-- laid as building lays its own.
use Prim.Native.Nat.{ℕ, ◌+◌, ◌≤◌}
use mathlib.Core.Path.{◌≡◌, sym, ap, subst}
use mathlib.Core.Bool.{false}
use mathlib.Core.List.{List, ◌++◌}
use native.Mathlib.Omega.{arith}
use native.Mathlib.Nat.{zero-add}
use lib.ListN.{length, get_or, take, length-append}
use Rattle.rules.specs.Lists.{total}
use Rattle.rules.specs.Plane.{points}
use Rattle.rules.specs.Boxes.{box_room}
use Rattle.rules.specs.Chaining.{Piece, nothing, alone}
use Rattle.rules.specs.Layout.{Lines, lines_in}
use Rattle.rules.specs.Types.{width_of}
use Rattle.rules.specs.Refusals.{any_nowhere}
use Rattle.point_numbers.specs.Width.{AllWide}
use Rattle.point_numbers.proofs.Points.{points_flat}
use Rattle.chain_laws.proofs.Counts.{Each, each_append, each_weak, each_get_d, each_part}
use Rattle.chain_laws.proofs.Records.{line_at}
use Rattle.chain_laws.proofs.Room.{lines_length}
use Rattle.chain_laws.proofs.Sound.{no_line, alones}
use Rattle.box_laws.specs.Sound.{Places}
use Rattle.box_laws.proofs.Places.{places_of}
use Rattle.build_lines.specs.Taken.{Adds}
use Rattle.build_lines.proofs.Own.{alone_wide}
use Rattle.build_lines.proofs.Passing.{every}
use Rattle.build_layout.specs.Laying.{passing_of}
use Rattle.build_refusals.specs.Admitted.{LinesAdmitted}
use Rattle.build_chains.specs.Building.{Boxing}
use Rattle.lent_laws.specs.Good.{Good}
use Rattle.lent_calls.proofs.Pieces.{pieces_fit}

module _ (t : ℕ) (l : Lines) (a : LinesAdmitted t l) where
  abbrev w : ℕ
  w = width_of t

  adds : Adds w l.counts l.coordinates
  adds = record { two = a.two; sum = a.adds }

  -- the lines that pass through
  passing_wide : Each (λ (p : Piece). AllWide w p.points) (passing_of w l)
  passing_wide = every false (λ (p : Piece). AllWide w p.points) 0 (lines_in w l)
      (λ i b. rw zero-add (alone_wide w l.coordinates l.counts l.groups l.kinds adds i (omega (arith, lines_length (points w l.coordinates) l.counts l.groups l.kinds))))

  passing_placed : Each (λ (p : Piece). Places p.points) (passing_of w l)
  unfolding alone
  passing_placed =
      every false (λ (p : Piece). Places p.points) 0 (lines_in w l)
      (λ i b. subst Places (sym (line_at (points w l.coordinates) l.counts l.groups l.kinds i))
      (each_part (points w l.coordinates) (total (take i l.counts)) (get_or l.counts i 0) (places_of (points w l.coordinates) a.places)))

  module _ (ps : List Piece) (good : Good w l ps) where
    all_wide : Each (λ (p : Piece). AllWide w p.points) (ps ++ passing_of w l)
    all_wide = each_append good.wide passing_wide

    pub finish_boxing : {boxes : List ℕ} → box_room (length l.counts) ≤ length boxes → Boxing t l (ps ++ passing_of w l) boxes
    finish_boxing room =
        record {
          few = a.few;
          adds = adds;
          fit = omega (arith, length-append ps (passing_of w l), pieces_fit ps good);
          sound = each_append good.sound (alones (lines_in w l) false 0 (lines_in w l) (λ i. let z : 0 + i ≡ i = omega arith in ap (λ (m : ℕ). get_or (lines_in w l) m no_line) z));
          read = λ j h. points_flat w _ (omega (arith, a.two)) (each_get_d (λ (p : Piece). AllWide w p.points) (ps ++ passing_of w l) j nothing all_wide h);
          placed =
              each_append (each_weak (λ (p : Piece). any_nowhere p.points ≡ false) (λ (p : Piece). Places p.points) ps (λ p h. places_of p.points h) good.placed) passing_placed;
          room = room;
        }
