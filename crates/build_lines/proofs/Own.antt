-- A line alone has its own points: they stand in the input from the sum of the counts before it on.
use Prim.Native.Nat.{ℕ, ◌+◌, ◌*◌, ◌≤◌, ◌<◌}
use mathlib.Core.Path.{◌≡◌, sym, ap, subst, ◌∙◌}
use mathlib.Core.List.{List}
use native.Mathlib.Omega.{arith}
use native.Mathlib.Nat.{mul-le-mul_right, add-mul}
use lib.ListN.{length, get_or, take, drop, length-drop}
use lib.Seq.{length-take-le}
use Rattle.rules.specs.Lists.{total}
use Rattle.rules.specs.Plane.{Point, points, flat}
use Rattle.rules.specs.Chaining.{Line, alone}
use Rattle.rules.specs.Layout.{lines}
use Rattle.chain_laws.proofs.Sound.{no_line}
use Rattle.chain_laws.proofs.Records.{line_at}
use Rattle.chain_laws.proofs.Wide.{wide_take, wide_drop}
use Rattle.point_numbers.specs.Width.{AllWide}
use Rattle.point_numbers.proofs.Points.{points_drop, points_take, points_back, points_wide}
use Rattle.chain_pieces.specs.Held.{Own}
use Rattle.build_lines.specs.Taken.{Adds}
use Rattle.build_lines.proofs.Passing.{points_at, total_next, total_part}

flat_take : (w c : ℕ) (l : List ℕ) → 2 ≤ w → c * w ≤ length l → flat w (take c (points w l)) ≡ take (c * w) l
flat_take w c l two h =
    let o : 0 < w = omega arith in
    ap (flat w) (sym (points_take w l c o h)) ∙ points_back w (take (c * w) l) two (record { number = c; long = length-take-le (c * w) l h })

module _ (width : ℕ) (input counts groups kinds : List ℕ) (adds : Adds width counts input) (k : ℕ) (b : k < length counts) where
  abbrev line : Line
  line = get_or (lines (points width input) counts groups kinds) k no_line

  inside : total (take k counts) + get_or counts k 0 ≤ total counts
  inside = omega (arith, total_next counts k b, total_part counts (k + 1))

  size : length line.points ≡ get_or counts k 0
  size = points_at width input counts groups kinds adds k b

  abbrev first : ℕ
  first = total (take k counts)

  pub alone_own : Own width input counts (alone k (get_or (lines (points width input) counts groups kinds) k no_line))
  unfolding alone
  alone_own =
      let o : 0 < width = omega (arith, adds.two) in
      let fits : (first + get_or counts k 0) * width ≤ length input = omega (arith, mul-le-mul_right width inside, adds.sum) in
      record {
        within = rw size fits;
        same =
            ap (λ (i : ℕ). take (i * width) (drop (first * width) input)) size
            ∙ sym (flat_take width (get_or counts k 0) (drop (first * width) input) adds.two (omega (arith, fits, add-mul first (get_or counts k 0) width, length-drop (first * width) input)))
            ∙ ap (λ (l : List Point). flat width (take (get_or counts k 0) l)) (points_drop width input first o)
            ∙ ap (flat width) (sym (line_at (points width input) counts groups kinds k));
      }

  pub alone_wide : AllWide width (alone k (get_or (lines (points width input) counts groups kinds) k no_line)).points
  unfolding alone
  alone_wide =
      subst (AllWide width) (sym (line_at (points width input) counts groups kinds k))
      (wide_take (get_or counts k 0) (wide_drop first (points_wide width input adds.two)))
