-- An accepted call is within both shares: no district has more than 2,048 lines or 32,768 coordinates in it. What 20 and 21 count by groups and counts is what
-- the district's lines have.
use Prim.Native.Nat.{ℕ, zero, suc, ◌+◌, ◌*◌, ◌≤◌, ◌<◌}
use mathlib.Core.Path.{◌≡◌, refl, sym, ap, ◌∙◌, subst}
use mathlib.Core.Bool.{Bool, true, false, ◌||◌}
use mathlib.Core.List.{List, [], ◌∷◌, map}
use native.Mathlib.Omega.{arith}
use lib.Dec.{ltb}
use lib.ListN.{length, get_or, take, drop, length-map, length-drop}
use lib.Seq.{length-take-le}
use borrow.Author.Tests.{ltb-false}
use Rattle.rules.specs.Answers.{Accepted}
use Rattle.rules.specs.declared.Settings.{Settings}
use Rattle.rules.specs.Lists.{one, keep, total}
use Rattle.rules.specs.Plane.{Point, points}
use Rattle.rules.specs.Types.{width_of}
use Rattle.rules.specs.Districts.{is_of, lines_brought, points_brought, over_lines, over_points, most_district_lines, most_district_points}
use Rattle.rules.specs.Chaining.{Line}
use Rattle.rules.specs.Layout.{Lines, lines, lines_in}
use Rattle.rules.specs.Refusals.{Rooms}
use Rattle.rules.specs.Calls.{Built}
use Rattle.chain_laws.proofs.Kept.{keep_yes, keep_no}
use Rattle.chain_districts.specs.Districts.{district_lines}
use Rattle.chain_districts.proofs.Places.{keep_map}
use Rattle.build_shares.proofs.Shares.{points_more}
use Rattle.build_refusals.specs.Admitted.{Admitted}
use Rattle.build_refusals.proofs.Laws.{admitted}
use Rattle.build_reading.proofs.Calls.{taken}
use Rattle.point_numbers.proofs.Points.{reads_length, points_exact}
use Rattle.build_districts.proofs.Calls.{lent_groups}

-- the coordinates of some lines
abbrev pub points_of : List Line → ℕ
points_of ls = total (map (λ l. length l.points) ls)

-- ---- what is counted is what the district's lines have

module _ (d : ℕ) where
  abbrev of_district : Line → Bool
  of_district l = is_of d l.group

  pub lines_counted : (ps : List Point) (cs gs ks : List ℕ) → length gs ≡ length cs → lines_brought d gs ≡ length (district_lines d (lines ps cs gs ks))
  unfolding lines_brought district_lines
  lines_counted ps cs gs ks h =
      ap (λ (l : List ℕ). length (keep (is_of d) l)) (sym (lent_groups ps cs gs ks h))
      ∙ ap length (keep_map (is_of d) (λ (l : Line). l.group) (lines ps cs gs ks))
      ∙ length-map (keep of_district (lines ps cs gs ks)) (λ l. l.group)

  one_more : (c : ℕ) (cs gs : List ℕ) (l : Line) (rest : List Line) → l.group ≡ get_or gs 0 0 → length l.points ≡ c
      → points_brought d cs (drop 1 gs) ≡ points_of (keep of_district rest) → points_brought d (c ∷ cs) gs ≡ points_of (keep of_district (l ∷ rest))
  unfolding total
  one_more c cs gs l rest e h ih = points_more d c cs gs ∙ go (of_district l) refl
    where
      go : (t : Bool) → of_district l ≡ t → one (is_of d (get_or gs 0 0)) * c + points_brought d cs (drop 1 gs) ≡ points_of (keep of_district (l ∷ rest))
      go true q =
          rw (← e, q) (omega (arith, ih))
          ∙ sym (ap points_of (keep_yes of_district l rest q))
      go false q = rw (← e, q) (omega (arith, ih)) ∙ sym (ap points_of (keep_no of_district l rest q))

  pub points_counted : (ps : List Point) (cs gs ks : List ℕ) → total cs ≤ length ps → points_brought d cs gs ≡ points_of (district_lines d (lines ps cs gs ks))
  unfolding lines total district_lines
  points_counted ps [] gs ks h = unfold points_brought keep in refl
  points_counted ps (c ∷ cs) gs ks h =
      one_more c cs gs (record { points = take c ps; group = get_or gs 0 0; kind = get_or ks 0 0 }) (lines (drop c ps) cs (drop 1 gs) (drop 1 ks)) refl
      (length-take-le c ps (omega arith)) (points_counted (drop c ps) cs (drop 1 gs) (drop 1 ks) (omega (arith, length-drop c ps)))

-- ---- an accepted call

neither : (a b : Bool) → (a || b) ≡ false → (a ≡ false) × (b ≡ false)
neither true b h = let z : ◌≡◌ {A = ℕ} 0 1 = cc in absurd (omega arith)
neither false b h = (refl, h)

-- of two numbers of which none is above m, each isn't
both_within : (f : ℕ → ℕ) (m d : ℕ) → (ltb m (f 0) || ltb m (f 1)) ≡ false → d ≤ 1 → f d ≤ m
both_within f m zero h i = ltb-false m (f 0) (neither (ltb m (f 0)) (ltb m (f 1)) h).0
both_within f m (suc zero) h i = ltb-false m (f 1) (neither (ltb m (f 0)) (ltb m (f 1)) h).1
both_within f m (suc (suc d)) h i = absurd (omega arith)

module _ (d : ℕ) (two : d ≤ 1) {t : ℕ} {l : Lines} {s : Settings} {o o' : Rooms} {n : ℕ} (built : Built t l s o (Accepted n) o') where
  abbrev let_in : Admitted t l s o
  let_in = admitted t l s o (taken built).0

  -- AT MOST 2,048 LINES OF A DISTRICT
  pub lines_within : length (district_lines d (lines_in (width_of t) l)) ≤ most_district_lines
  unfolding over_lines
  lines_within =
      subst (λ (k : ℕ). k ≤ most_district_lines)
      (lines_counted d (points (width_of t) l.coordinates) l.counts l.groups l.kinds let_in.groups_long)
      (both_within (λ d. lines_brought d l.groups) most_district_lines d let_in.lines_shared two)

  many : total l.counts ≡ length (points (width_of t) l.coordinates)
  many =
      let positive : 0 < width_of t = omega (arith, let_in.two) in
      sym (ap length (points_exact (width_of t) (total l.counts) l.coordinates positive (sym let_in.adds)) ∙ reads_length (width_of t) (total l.counts) l.coordinates)

  -- AND AT MOST 32,768 COORDINATES
  pub points_within : points_of (district_lines d (lines_in (width_of t) l)) ≤ most_district_points
  unfolding over_points
  points_within =
      subst (λ (k : ℕ). k ≤ most_district_points)
      (points_counted d (points (width_of t) l.coordinates) l.counts l.groups l.kinds (omega (arith, many)))
      (both_within (λ d. points_brought d l.counts l.groups) most_district_points d let_in.points_shared two)
