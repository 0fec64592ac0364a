-- The lines of a call by their numbers: the points of each, its group, and whether it is plain; and what is known of those that a chain lists.
use Prim.Native.Nat.{ℕ, zero, suc, ◌+◌, ◌-◌, ◌*◌, ◌≤◌, ◌<◌}
use mathlib.Core.Path.{◌≡◌, refl, sym, ap, ◌∙◌, subst}
use mathlib.Core.Bool.{true, and-eq-true_iff}
use mathlib.Core.List.{List, [], ◌∷◌}
use native.Mathlib.Omega.{arith}
use native.Mathlib.Nat.{mul-le-mul_right, add-mul}
use native.Mathlib.Numerals.{one-add}
use lib.Dec.{eqb, leb}
use lib.ListN.{length, get_or, take, drop, length-drop}
use lib.Seq.{get_or-drop}
use borrow.Author.Tests.{leb-true}
use Rattle.rules.specs.Lists.{total, all_of}
use Rattle.rules.specs.Plane.{Point, points}
use Rattle.rules.specs.Chaining.{Line, plain}
use Rattle.rules.specs.Layout.{lines, lent, lines_in}
use Rattle.rules.specs.Refusals.{most_points}
use Rattle.rules.specs.Check.{no_line}
use Rattle.point_numbers.proofs.Points.{points_drop, points_take}
use Rattle.chain_laws.proofs.Counts.{Each, each_part}
use Rattle.chain_laws.proofs.Records.{line_at}
use Rattle.chain_travel.proofs.Values.{Number, places_numbers}
use Rattle.build_lines.specs.Taken.{Adds}
use Rattle.build_lines.proofs.Passing.{total_next, total_part, points_at, plain_at_lem}
use Rattle.check_laws.proofs.Rows.{all_each}
use Rattle.check_chains.specs.Chains.{line_points, LinesListed}
use Rattle.check_lines.specs.Lines.{plain_at}
use Rattle.check_fits.specs.Fits.{LinesTabled, ChainLent}

group_at : (ps : List Point) (cs gs ks : List ℕ) (k : ℕ) → k < length cs → (get_or (lines ps cs gs ks) k no_line).group ≡ get_or gs k 0
unfolding lines
group_at ps [] gs ks k b = absurd (omega arith)
group_at ps (c ∷ cs) gs ks zero b = refl
group_at ps (c ∷ cs) gs ks (suc k) b =
    group_at (drop c ps) cs (drop 1 gs) (drop 1 ks) k (omega arith) ∙ get_or-drop 1 gs k 0 ∙ ap (λ (i : ℕ). get_or gs i 0) (one-add k)

module _ (w : ℕ) (coordinates firsts counts groups kinds : List ℕ) (g : LinesTabled w coordinates firsts counts groups kinds) where
  abbrev pub line_of : ℕ → Line
  line_of y = get_or (lines_in w (lent coordinates counts groups kinds)) y no_line

  added : Adds w counts coordinates
  added = record { two = g.lined.two; sum = g.lined.adds }

  pub coordinates_short : length coordinates ≤ most_points * w
  coordinates_short = omega (arith, mul-le-mul_right w g.lined.small, g.lined.adds)

  pub coordinates_near : length coordinates ≤ 262144
  coordinates_near = omega (arith, coordinates_short, g.lined.four)

  module _ (y : ℕ) (b : y < length counts) where
    abbrev first : ℕ
    first = get_or firsts y 0

    abbrev size : ℕ
    size = get_or counts y 0

    inside_points : first + size ≤ total counts
    inside_points = omega (arith, g.firsts_are y b, total_next counts y b, total_part counts (y + 1))

    pub line_inside : first * w + size * w ≤ length coordinates
    line_inside = omega (arith, mul-le-mul_right w inside_points, add-mul first size w, g.lined.adds)

    pub line_points_lem : (line_of y).points ≡ line_points w coordinates firsts counts y
    line_points_lem =
        let o : 0 < w = omega (arith, g.lined.two) in
        let e : first * w + size * w - first * w ≡ size * w = omega arith in
        let n : size * w ≤ length (drop (first * w) coordinates) = omega (arith, length-drop (first * w) coordinates, line_inside) in
        line_at (points w coordinates) counts groups kinds y
        ∙ ap (λ (i : ℕ). take size (drop i (points w coordinates))) (sym (g.firsts_are y b))
        ∙ ap (take size) (sym (points_drop w coordinates first o))
        ∙ sym (points_take w (drop (first * w) coordinates) size o n)
        ∙ ap (λ (i : ℕ). points w (take i (drop (first * w) coordinates))) (sym e)

    pub line_group : (line_of y).group ≡ get_or groups y 0
    line_group = group_at (points w coordinates) counts groups kinds y b

    pub line_plain : plain (line_of y) ≡ plain_at counts kinds y
    line_plain = plain_at_lem w coordinates counts groups kinds added y b

    pub line_size : length (line_of y).points ≡ size
    line_size = points_at w coordinates counts groups kinds added y b

    line_numbers : Each Number (line_of y).points
    line_numbers =
        subst (Each Number) (sym (line_at (points w coordinates) counts groups kinds y))
        (each_part (points w coordinates) (total (take y counts)) size (places_numbers (points w coordinates) g.lined.places))

    pub numbers_of : Each Number (line_points w coordinates firsts counts y)
    numbers_of = subst (Each Number) line_points_lem line_numbers

  -- a chain of plain lines
  module _ (listed chain : List ℕ) (c : ChainLent w counts listed chain) (plains : all_of (plain_at counts kinds) listed ≡ true) where
    pub count_some : (i : ℕ) → i < length listed → 2 ≤ get_or counts (get_or listed i 0) 0
    count_some i h =
        leb-true 2 (get_or counts (get_or listed i 0) 0)
        ((and-eq-true_iff (eqb (get_or kinds (get_or listed i 0) 0) 0) (leb 2 (get_or counts (get_or listed i 0) 0))).0 (all_each (plain_at counts kinds) listed i 0 plains h)).1

    pub listed_lines : 0 < length listed → LinesListed w coordinates firsts counts listed chain
    listed_lines some =
        record {
          two = g.lined.two;
          four = g.lined.four;
          some_line = some;
          few = c.few;
          short = coordinates_short;
          chain_whole = c.whole;
          below = λ i h. omega (arith, c.below i h, g.lined.few);
          count_there = c.below;
          a_point = λ i h. omega (arith, count_some i h);
          inside = λ i h. line_inside (get_or listed i 0) (c.below i h);
          numbers = λ i h. numbers_of (get_or listed i 0) (c.below i h);
        }
