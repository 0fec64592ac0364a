-- A chain by its numbers: whether its lines may be joined, and the three kinds of chains.
use Prim.Native.Nat.{ℕ, zero, suc, ◌+◌, ◌*◌, ◌≤◌, ◌<◌}
use mathlib.Core.Path.{◌≡◌, refl, sym, ap, ap₂, ◌∙◌, subst}
use mathlib.Core.Bool.{Bool, true, false}
use mathlib.Core.List.{List, [], ◌∷◌, map}
use native.Mathlib.Omega.{arith}
use lib.Dec.{eqb}
use lib.ListN.{length, get_or, drop}
use borrow.Author.Tests.{eqb-true}
use Rattle.rules.specs.declared.Meeting.{Meeting}
use Rattle.rules.specs.Lists.{any_of, all_of}
use Rattle.rules.specs.Plane.{Point, points}
use Rattle.rules.specs.Chaining.{Line, plain, lay}
use Rattle.rules.specs.Check.{meetings, end_to_end, agree, suits, choices, a_choice, same_numbers, untouched, one_group, joins, fits}
use Rattle.point_numbers.specs.Width.{Whole}
use Rattle.point_numbers.proofs.Points.{points_few, points_next}
use Rattle.chain_laws.proofs.Counts.{Each, nil, cons}
use Rattle.check_laws.specs.Standing.{Begun}
use Rattle.check_laws.proofs.Tests.{and_no, and_yes}
use Rattle.check_laws.proofs.Rows.{all_map, all_same}
use Rattle.check_laws.proofs.Ways.{Sized}
use Rattle.check_laws.proofs.Choosing.{points_of, choice_begun, begun_choice}
use Rattle.check_chains.specs.Chains.{line_at, line_points, LineThere, ChainDecided}
use Rattle.check_chains.proofs.Choosing.{part_length}
use Rattle.check_lines.specs.Lines.{Below, plain_at, group_is}
use Rattle.check_fits.specs.Fits.{LinesTabled, ChainLent, chosen}
use Rattle.check_fits.proofs.Untouched.{untouched_numbers}
use Rattle.check_fits.proofs.Listed.{line_of, line_inside, coordinates_near, line_points_lem, line_group, line_plain, line_size, numbers_of, count_some}

-- ---- two tests that hold in the same cases are one

bool_same : (a b : Bool) → (a ≡ true → b ≡ true) → (b ≡ true → a ≡ true) → a ≡ b
bool_same true b f g = sym (f refl)
bool_same false true f g = g refl
bool_same false false f g = refl

-- ---- the kinds of chains

pub fits_joins : (m : Meeting) (ls : List Line) (ps : List Point) → 2 ≤ length ls → fits m ls ps ≡ joins m ls ps
unfolding fits
fits_joins m [] ps h = absurd (omega arith)
fits_joins m (l ∷ []) ps h = absurd (omega arith)
fits_joins m (p ∷ l ∷ ls) ps h = refl

-- without lines there is one choice, which lays nothing
pub fits_none : (m : Meeting) (ps : List Point) → fits m [] ps ≡ agree [] ps
unfolding fits joins all_of one_group a_choice choices suits meetings end_to_end lay any_of
fits_none m ps = go (agree [] ps)
  where
    go : (b : Bool) → any_of (λ (c : List Bool). b) ([] ∷ []) ≡ b
    go true = refl
    go false = refl

module _ (w : ℕ) (coordinates firsts counts groups kinds : List ℕ) (g : LinesTabled w coordinates firsts counts groups kinds) where
  -- ---- none

  pub none_fits : (m : Meeting) (listed chain : List ℕ) → ChainLent w counts listed chain → length listed < 1
      → eqb (length chain) 0 ≡ fits m (chosen w coordinates counts groups kinds listed) (points w chain)
  unfolding agree
  none_fits m [] chain c e = go (eqb (length chain) 0) refl ∙ sym (fits_none m (points w chain))
    where
      go : (b : Bool) → eqb (length chain) 0 ≡ b → eqb (length chain) 0 ≡ agree [] (points w chain)
      go true q = q ∙ sym (ap (agree []) (points_few w chain (omega (arith, g.lined.two, eqb-true (length chain) 0 q))))
      go false q =
          q ∙ sym (ap (agree []) (points_next w chain (omega (arith, g.lined.two)) (some c.whole (borrow.Author.Tests.eqb-false (length chain) 0 q))))
        where
          some : Whole w chain → (length chain ≡ 0 → ⊥) → w ≤ length chain
          some h n = at_least h.number w (length chain) h.long n
            where
              at_least : (k w l : ℕ) → l ≡ k * w → (l ≡ 0 → ⊥) → w ≤ l
              at_least zero w l e n = absurd (n (omega arith))
              at_least (suc k) w l e n = let f : suc k * w ≡ k * w + w = omega arith in omega arith
  none_fits m (y ∷ listed) chain c e = absurd (omega arith)

  -- ---- one

  pub lone_fits : (m : Meeting) (y : ℕ) (chain : List ℕ) → ChainLent w counts (y ∷ []) chain
      → same_numbers (line_at w coordinates firsts counts y) chain ≡ fits m (chosen w coordinates counts groups kinds (y ∷ [])) (points w chain)
  unfolding fits
  lone_fits m y chain c =
      let b : y < length counts = c.below 0 (omega arith) in
      sym
      (ap (λ (p : List Point). untouched p (points w chain)) (line_points_lem w coordinates firsts counts groups kinds g y b)
      ∙ untouched_numbers w (line_at w coordinates firsts counts y) chain g.lined.two
      (record {
        number = get_or counts y 0;
        long = part_length coordinates (get_or firsts y 0 * w) (get_or counts y 0 * w) (line_inside w coordinates firsts counts groups kinds g y b);
      }) c.whole)

  pub line_there : (y : ℕ) → y < length counts → LineThere w coordinates firsts counts y
  line_there y b =
      record {
        few = omega (arith, g.lined.few);
        count_there = b;
        inside = line_inside w coordinates firsts counts groups kinds g y b;
        short = coordinates_near w coordinates firsts counts groups kinds g;
        two = g.lined.two;
      }

  -- ---- more

  module _ (listed chain : List ℕ) (c : ChainLent w counts listed chain) where
    abbrev ls : List Line
    ls = chosen w coordinates counts groups kinds listed

    pub plains_are : all_of plain ls ≡ all_of (plain_at counts kinds) listed
    plains_are =
        all_map plain (line_of w coordinates firsts counts groups kinds g) listed
        ∙ all_same (λ (y : ℕ). plain (line_of w coordinates firsts counts groups kinds g y)) (plain_at counts kinds) listed 0
        (λ i h. line_plain w coordinates firsts counts groups kinds g (get_or listed i 0) (c.below i h))

  pub group_is_lem : (listed chain : List ℕ) → ChainLent w counts listed chain → 0 < length listed
      → one_group (chosen w coordinates counts groups kinds listed) ≡ all_of (group_is groups (get_or groups (get_or listed 0 0) 0)) (drop 1 listed)
  unfolding one_group
  group_is_lem [] chain c h = absurd (omega arith)
  group_is_lem (y ∷ listed) chain c h =
      all_map (λ (l : Line). eqb (line_of w coordinates firsts counts groups kinds g y).group l.group) (line_of w coordinates firsts counts groups kinds g) listed
      ∙ all_same (λ (z : ℕ). eqb (line_of w coordinates firsts counts groups kinds g y).group (line_of w coordinates firsts counts groups kinds g z).group)
      (group_is groups (get_or groups y 0)) listed 0
      (λ i b. ap₂ eqb (line_group w coordinates firsts counts groups kinds g y (c.below 0 (omega arith)))
      (line_group w coordinates firsts counts groups kinds g (get_or listed i 0) (c.below (suc i) (omega arith))))

  -- the points of the lines, one after another
  points_are : (listed : List ℕ) → Below (length counts) listed → points_of (chosen w coordinates counts groups kinds listed) ≡ map (line_points w coordinates firsts counts) listed
  points_are [] b = refl
  points_are (y ∷ listed) b =
      ap₂ {C = List (List Point)} (λ (p : List Point) (r : List (List Point)). p ∷ r) (line_points_lem w coordinates firsts counts groups kinds g y (b 0 (omega arith)))
      (points_are listed (λ i h. b (suc i) (omega arith)))

  sized_lines : (listed : List ℕ) → Below (length counts) listed → ((i : ℕ) → i < length listed → 2 ≤ get_or counts (get_or listed i 0) 0)
      → Each Sized (points_of (chosen w coordinates counts groups kinds listed))
  sized_lines [] b s = nil
  sized_lines (y ∷ listed) b s =
      let h : y < length counts = b 0 (omega arith) in
      cons (record {
        numbers = subst (Each Rattle.chain_travel.proofs.Values.Number) (sym (line_points_lem w coordinates firsts counts groups kinds g y h))
            (numbers_of w coordinates firsts counts groups kinds g y h);
        filled = omega (arith, line_size w coordinates firsts counts groups kinds g y h, s 0 (omega arith));
      }) (sized_lines listed (λ i k. b (suc i) (omega arith)) (λ i k. s (suc i) (omega arith)))

  pub choice_is : (m : Meeting) (listed chain : List ℕ) (c : ChainLent w counts listed chain) → all_of (plain_at counts kinds) listed ≡ true → 0 < length listed
      → (r : Bool) → ChainDecided m w coordinates firsts counts listed chain r → r ≡ a_choice m (chosen w coordinates counts groups kinds listed) (points w chain)
  choice_is m [] chain c p h r d = absurd (omega arith)
  choice_is m (y ∷ listed) chain c p h r d =
      bool_same r (a_choice m (chosen w coordinates counts groups kinds (y ∷ listed)) (points w chain))
      (λ e. begun_choice m (points w chain) first rest sized (to (d.sound e)))
      (λ e. d.complete (back (choice_begun m (points w chain) first rest sized e)))
    where
      first : Line
      first = line_of w coordinates firsts counts groups kinds g y

      rest : List Line
      rest = chosen w coordinates counts groups kinds listed

      sized : Each Sized (points_of (chosen w coordinates counts groups kinds (y ∷ listed)))
      sized = sized_lines (y ∷ listed) c.below (count_some w coordinates firsts counts groups kinds g (y ∷ listed) chain c p)

      one_line : (line_of w coordinates firsts counts groups kinds g y).points ≡ line_points w coordinates firsts counts y
      one_line = line_points_lem w coordinates firsts counts groups kinds g y (c.below 0 (omega arith))

      others : points_of (chosen w coordinates counts groups kinds listed) ≡ map (line_points w coordinates firsts counts) listed
      others = points_are listed (λ i k. c.below (suc i) (omega arith))

      to : Begun m (points w chain) (line_points w coordinates firsts counts y) (map (line_points w coordinates firsts counts) listed)
          → Begun m (points w chain) (line_of w coordinates firsts counts groups kinds g y).points (points_of (chosen w coordinates counts groups kinds listed))
      to b =
          subst (λ (x : List Point). Begun m (points w chain) x (points_of (chosen w coordinates counts groups kinds listed))) (sym one_line)
          (subst (Begun m (points w chain) (line_points w coordinates firsts counts y)) (sym others) b)

      back : Begun m (points w chain) (line_of w coordinates firsts counts groups kinds g y).points (points_of (chosen w coordinates counts groups kinds listed))
          → Begun m (points w chain) (line_points w coordinates firsts counts y) (map (line_points w coordinates firsts counts) listed)
      back b =
          subst (λ (x : List Point). Begun m (points w chain) x (map (line_points w coordinates firsts counts) listed)) one_line
          (subst (Begun m (points w chain) (line_of w coordinates firsts counts groups kinds g y).points) others b)

  -- ---- the tests one after another

  module _ (m : Meeting) (listed chain : List ℕ) (c : ChainLent w counts listed chain) (some : 0 < length listed) where
    pub not_plain : (p : Bool) → p ≡ all_of (plain_at counts kinds) listed → p ≡ false → false ≡ joins m (chosen w coordinates counts groups kinds listed) (points w chain)
    unfolding joins
    not_plain p e n = and_no p _ _ (e ∙ sym (plains_are listed chain c)) n

    pub mixed : (p q : Bool) → p ≡ all_of (plain_at counts kinds) listed → p ≡ true → q ≡ all_of (group_is groups (get_or groups (get_or listed 0 0) 0)) (drop 1 listed) → q ≡ false
        → false ≡ joins m (chosen w coordinates counts groups kinds listed) (points w chain)
    unfolding joins
    mixed p q e y f n = and_yes p false _ _ (e ∙ sym (plains_are listed chain c)) y (and_no q _ _ (f ∙ sym (group_is_lem listed chain c some)) n)

    pub chosen_one : (p q r : Bool) → p ≡ all_of (plain_at counts kinds) listed → p ≡ true → q ≡ all_of (group_is groups (get_or groups (get_or listed 0 0) 0)) (drop 1 listed) → q ≡ true
        → ChainDecided m w coordinates firsts counts listed chain r → r ≡ joins m (chosen w coordinates counts groups kinds listed) (points w chain)
    unfolding joins
    chosen_one p q r e y f z d =
        and_yes p r _ _ (e ∙ sym (plains_are listed chain c)) y
        (and_yes q r _ _ (f ∙ sym (group_is_lem listed chain c some)) z (choice_is m listed chain c (sym e ∙ y) some r d))
