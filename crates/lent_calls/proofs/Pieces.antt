-- Good pieces beside the lines that pass through: they have the plain lines, so that together there are as many members as lines; and their numbers are small.
use Prim.Native.Nat.{ℕ, ◌+◌, ◌*◌, ◌≤◌}
use mathlib.Core.Path.{◌≡◌, ◌∙◌}
use mathlib.Core.Bool.{true}
use mathlib.Core.List.{List, map}
use native.Mathlib.Omega.{arith}
use native.Mathlib.Nat.{mul-le-mul_right}
use lib.ListN.{length}
use Rattle.rules.specs.Lists.{total}
use Rattle.rules.specs.Plane.{points}
use Rattle.rules.specs.Chaining.{Piece}
use Rattle.rules.specs.Layout.{Lines, lines_in}
use Rattle.rules.specs.Refusals.{most_lines, most_points}
use Rattle.rules.specs.Pieces.{plain_lines}
use Rattle.chain_laws.proofs.Counts.{zero_of}
use Rattle.chain_laws.proofs.Drawn.{Low}
use Rattle.chain_laws.proofs.Room.{full_long, lines_length}
use Rattle.chain_laws.proofs.Totals.{same_length}
use Rattle.chain_pieces.specs.Held.{lines_of, Packed}
use Rattle.chain_keys.specs.Tells.{OneGroup}
use Rattle.build_lines.specs.Taken.{plain_of}
use Rattle.build_lines.proofs.Passing.{pieces_lone, lone_lines}
use Rattle.build_layout.specs.Laying.{passing_of, SmallPieces}
use Rattle.build_layout.proofs.Left.{pieces_both}
use Rattle.build_layout.proofs.Small.{members_low}
use Rattle.build_walks.proofs.Good.{good_grouped}
use Rattle.lent_laws.specs.Good.{Good}
use Rattle.lent_laws.proofs.Passing.{good_low}

module _ {w : ℕ} {l : Lines} (ps : List Piece) (h : Good w l ps) where
  abbrev n : ℕ
  n = length l.counts

  -- as many members as plain lines
  pub lines_many : length (lines_of ps) ≡ length (plain_of w l)
  unfolding plain_lines
  lines_many = same_length (lines_of ps) (plain_lines w l) h.once ∙ lone_lines (plain_of w l) (pieces_lone true 0 (lines_in w l))

  pub members_fit : length (lines_of ps) + length (passing_of w l) ≤ length l.counts
  members_fit = omega (arith, lines_many, pieces_both 0 (lines_in w l), lines_length (points w l.coordinates) l.counts l.groups l.kinds)

  pub pieces_fit : length ps + length (passing_of w l) ≤ length l.counts
  pieces_fit = omega (arith, members_fit, full_long (lines_in w l) ps h.sound)

  pub lines_low : length l.counts ≤ most_lines → Low most_lines (lines_of ps)
  lines_low few =
      members_low most_lines (lines_of ps) (λ x b. zero_of _ (λ k. omega (arith, good_low w l ps h x k)))

  pub points_fit : total l.counts ≤ most_points → total (map (λ (q : Piece). length q.points) ps) ≤ most_points
  points_fit small = omega (arith, h.few)

  -- and the points fit where the coordinates do
  pub numbers_fit : {numbers room : ℕ} → total l.counts * w ≡ numbers → numbers ≤ room → total (map (λ (q : Piece). length q.points) ps) * w ≤ room
  numbers_fit adds fits = omega (arith, mul-le-mul_right w h.few, adds, fits)

  pub one_group_lem : length l.groups ≡ length l.counts → OneGroup l.groups ps
  one_group_lem long =
      good_grouped (points w l.coordinates) l.counts l.groups l.kinds ps long
      (record {
        sound = h.sound;
        long = h.pointed;
        low = λ y k. omega (arith, good_low w l ps h y k, lines_length (points w l.coordinates) l.counts l.groups l.kinds);
      })

  unfoldable pub small_pieces : {ws copies : List ℕ} {p m : ℕ} → length l.counts ≤ most_lines → total l.counts ≤ most_points
      → Packed w ws 0 (length l.counts) l.coordinates copies l.counts ps → p ≡ length ps → m ≡ length (lines_of ps)
      → SmallPieces w ws (length l.counts) p m l.coordinates copies l.counts
  small_pieces few small held number listed =
      record {
        ps = ps;
        held = held;
        number = number;
        listed = listed;
        members_low = lines_low few;
        points_few = points_fit small;
        few = few;
        small = small;
      }
