-- The first line stands at the beginning of the chain as drawn, turned, both or neither, and the first mark tells which.
use Prim.Native.Nat.{ℕ, ◌*◌, ◌≤◌, ◌<◌}
use mathlib.Core.Path.{◌≡◌, refl, sym, ap, ◌∙◌, subst}
use mathlib.Core.Bool.{Bool, true, false, not, cond}
use mathlib.Core.List.{List}
use native.Mathlib.Omega.{arith}
use native.Mathlib.Nat.{div-le_of_le-mul}
use lib.Dec.{eqb}
use lib.ListN.{length, get_or}
use borrow.Author.Tests.{eqb-true}
use Rattle.std.specs.Prelude.{Option, Some, None, is_some, is_none}
use Rattle.rules.specs.Plane.{Point, points}
use Rattle.rules.specs.Refusals.{most_points}
use Rattle.point_numbers.proofs.Points.{points_length, points_next}
use Rattle.chain_laws.proofs.Room.{lay_short}
use Rattle.check_laws.specs.Standing.{laid_run, size_of, fit_at}
use Rattle.check_laws.proofs.Points.{laid_size}
use Rattle.check_laws.proofs.Ways.{Sized, read}
use Rattle.check_marks.specs.Marks.{has, set_of}
use Rattle.check_marks.proofs.Sets.{has_set, set_small}
use Rattle.check_places.specs.declared.Extent.{Extent}
use Rattle.check_places.specs.Places.{Reached, whole}
use Rattle.check_chains.specs.Chains.{ChainGround, FirstLineLies}

-- ---- the ground

module _ (w : ℕ) (chain line : List ℕ) (g : ChainGround w chain line) where
  points_there : 0 < length (points w line)
  points_there = omega (arith, ap length (points_next w line (omega (arith, g.two)) g.filled))

  pub sized : Sized (points w line)
  sized = record { numbers = g.numbers; filled = points_there }

  pub size_some : 0 < size_of (points w line)
  size_some = omega (arith, (read false (points w line) sized).size_is)

  pub size_short : size_of (points w line) ≤ most_points
  unfolding size_of
  size_short = omega (arith, lay_short mathlib.Core.Option.none (points w line), points_length w line, div-le_of_le-mul w {m = length line} {n = most_points} (turned g.short))
    where
      turned : length line ≤ most_points * w → length line ≤ w * most_points
      turned h = omega arith

pub none_is : {A : Type 0} (o : Option A) (r : Bool) → is_some o ≡ not r → r ≡ is_none o
none_is None true e = refl
none_is None false e = absurd (cc)
none_is (Some a) true e = absurd (cc)
none_is (Some a) false e = refl

-- ---- the first line

module _ (w : ℕ) (chain line : List ℕ) (g : ChainGround w chain line) where
  abbrev t : List Point
  t = points w chain

  abbrev l : List Point
  l = points w line

  -- what is reached at the first place tells whether the line stands there
  reach_fit : (d : Bool) (r : Extent) → Reached w chain line d 0 r → fit_at t d l 0 ≡ whole r
  unfolding fit_at
  reach_fit d r h = ap (λ (n : ℕ). eqb n (length (laid_run d l))) (sym h.count) ∙ sym h.all

  reach_size : (d : Bool) (r : Extent) → Reached w chain line d 0 r → whole r ≡ true → r.points ≡ size_of l
  reach_size d r h e = eqb-true r.points (length (laid_run d l)) (sym h.all ∙ e) ∙ laid_size d l g.numbers

  module _ (a b : Extent) (ha : Reached w chain line false 0 a) (hb : Reached w chain line true 0 b) (marks' : List ℕ) (is : get_or marks' 0 0 ≡ set_of (whole a) (whole b)) where
    whole_of : (d : Bool) → fit_at t d l 0 ≡ cond d (whole b) (whole a)
    whole_of true = reach_fit true b hb
    whole_of false = reach_fit false a ha

    begin_some : (base : ℕ) → base ≡ size_of l → FirstLineLies t l marks' (record { base = base; low = 0; end = 1 })
    begin_some base e =
        record {
          steady =
              record {
                order = omega arith;
                few = omega arith;
                near = omega (arith, size_short w chain line g);
                behind = λ q. omega (arith, size_some w chain line g);
                small = λ j p q.
                    let z : j ≡ 0 = omega arith in
                    subst (λ (n : ℕ). n ≤ 3) (sym (ap (λ (i : ℕ). get_or marks' i 0) z ∙ is)) (set_small (whole a) (whole b));
              };
          on = λ d f.
              record {
                mark = 0;
                low = omega arith;
                high = omega arith;
                place = omega arith;
                way = ap (has d) is ∙ has_set d (whole a) (whole b) ∙ sym (whole_of d) ∙ f;
              };
          back = λ d k v.
              let z : v.mark ≡ 0 = omega (arith, v.high) in (
                omega (arith, v.place),
                whole_of d ∙ sym (has_set d (whole a) (whole b)) ∙ ap (has d) (sym is) ∙ ap (λ (i : ℕ). has d (get_or marks' i 0)) (sym z) ∙ v.way,
              );
        }

    pub begin_drawn : (whole a) ≡ true → FirstLineLies t l marks' (record { base = a.points; low = 0; end = 1 })
    begin_drawn e = begin_some a.points (reach_size false a ha e)

    pub begin_turned : (whole b) ≡ true → FirstLineLies t l marks' (record { base = b.points; low = 0; end = 1 })
    begin_turned e = begin_some b.points (reach_size true b hb e)

    pub begin_none : (whole a) ≡ false → (whole b) ≡ false → FirstLineLies t l marks' (record { base = 0; low = 0; end = 0 })
    begin_none p q =
        record {
          steady = record { order = omega arith; few = omega arith; near = omega arith; behind = λ z. omega arith; small = λ j x y. absurd (omega arith) };
          on = λ d f. absurd (never d (sym (whole_of d) ∙ f));
          back = λ d k v. absurd (omega (arith, v.high));
        }
      where
        never : (d : Bool) → cond d (whole b) (whole a) ≡ true → ⊥
        never true e = let z : ◌≡◌ {A = ℕ} 0 1 = cc in omega arith
        never false e = let z : ◌≡◌ {A = ℕ} 0 1 = cc in omega arith
