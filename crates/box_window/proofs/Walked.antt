-- The walk among the boxes: all chains before the first one below box j are listed, and the box above box j is seen. A box that is not shown is passed over
-- with all that lies below it, and so is one that is shown and listed; any other is followed by the first of the two below it.
use Prim.Native.Nat.{ℕ, zero, suc, ◌+◌, ◌-◌, ◌*◌, ◌/◌, ◌%◌, ◌≤◌, ◌<◌}
use mathlib.Core.Path.{◌≡◌, refl, sym, ap, ◌∙◌, subst}
use mathlib.Core.Bool.{Bool, true, false, ◌&&◌}
use mathlib.Core.List.{List}
use mathlib.Core.Logic.{◌⊎◌, inl, inr}
use native.Mathlib.Nat.{eq-or-lt_of_le}
use native.Mathlib.Omega.{arith}
use lib.Dec.{eqb}
use borrow.Author.Tests.{eqb-true, eqb-false}
use lib.ListN.{length, get_or, set, length-set}
use Rattle.rules.specs.declared.Window.{Window}
use Rattle.rules.specs.Lists.{from, keep, upto}
use Rattle.rules.specs.Windows.{shown, seen, in_window}
use Rattle.point_slices.specs.Holds.{Holds}
use Rattle.point_slices.proofs.Beginnings.{holds_set}
use Rattle.box_laws.proofs.Above.{seen_top, seen_more}
use Rattle.box_window.specs.declared.Place.{Place}
use Rattle.box_window.specs.Levels.{many, start, first, place, highest, Leveled}
use Rattle.box_window.proofs.Below.{first_zero, first_on, first_even, first_end, first_inside, within_room, seen_at, above, below_hidden}
use Rattle.box_window.proofs.Kept.{kept_past, kept_next}

and_true : (a b : Bool) → b ≡ true → a && b ≡ a
and_true true b e = e
and_true false b e = refl

module _ (w : Window) (boxes : List ℕ) (k top : ℕ) where
  -- box j of a level, under a box that is seen
  pub record Ready (level j : ℕ) : Type 0 where
    pub low : level ≤ top
    pub within : j ≤ many k level
    pub under : level < top → seen_at w boxes k (suc level) (j / 2) ≡ true

  -- box j of a level, after one that was under a box that is seen
  record Ahead (level j : ℕ) : Type 0 where
    low : level ≤ top
    some : 0 < j
    within : j ≤ many k level
    known : level < top → seen_at w boxes k (suc level) ((j - 1) / 2) ≡ true

  -- the chains below box j of a level are those from this one on
  abbrev reach : ℕ → ℕ → ℕ
  reach level j = k - (k - first level j)

  module _ (found₀ : List ℕ) where
    -- where the walk stands
    pub record Walked (found : List ℕ) (have level j : ℕ) : Type 0 where
      pub ready : Ready level j
      pub fewer : have ≤ first level j
      pub size : length found ≡ length found₀
      pub holds : Holds found found₀ have (keep (seen w boxes 0 k) (upto (reach level j)))

    -- box j has been looked at, and need not be looked below
    pub record Passed (found : List ℕ) (have level j : ℕ) : Type 0 where
      pub ready : Ready level j
      pub inside : j < many k level
      pub fewer : have ≤ first level (j + 1)
      pub size : length found ≡ length found₀
      pub holds : Holds found found₀ have (keep (seen w boxes 0 k) (upto (reach level (j + 1))))

pub passed_as : {w : Window} {boxes : List ℕ} {k top : ℕ} {found₀ found : List ℕ} {have level j : ℕ} (found' : List ℕ) (have' : ℕ) → found' ≡ found → have' ≡ have
    → Passed w boxes k top found₀ found have level j → Passed w boxes k top found₀ found' have' level j
passed_as {w} {boxes} {k} {top} {found₀} {found} {have} {level} {j} found' have' e f p =
    subst (λ (x : List ℕ). Passed w boxes k top found₀ x have' level j) (sym e) (subst (λ (x : ℕ). Passed w boxes k top found₀ found x level j) (sym f) p)

module _ (w : Window) (boxes : List ℕ) (k : ℕ) (starts : List ℕ) (top : ℕ) (s : Leveled k starts top) where
  -- ---- where a level begins and ends
  placed : (level : ℕ) → level ≤ top → get_or starts level 0 ≡ start k level
  placed level h = s.begun level (omega arith)

  ends : (level : ℕ) → level ≤ top → get_or starts (level + 1) 0 ≡ start k level + many k level
  unfolding start
  ends level h = let z : level + 1 ≡ suc level = omega arith in s.begun (level + 1) (omega arith) ∙ ap (start k) z

  below_more : (level : ℕ) → level ≤ top → (m : ℕ) → m < level → 1 < many k m
  below_more level h m l = s.more m (omega arith)

  -- no sum wraps
  pub small : (level j : ℕ) → Ready w boxes k top level j → (get_or starts level 0 + j ≤ k * 3) × (j ≤ k * 3) × (level ≤ 32)
  small level j r =
      let h : start k level + many k level * 3 ≤ k * 3 = within_room k level (below_more level r.low) in
      (omega (arith, placed level r.low, r.within), omega (arith, r.within), omega (arith, r.low, s.few))

  inside : (level j : ℕ) → level ≤ top → get_or starts level 0 + j < get_or starts (level + 1) 0 → j < many k level
  inside level j h l = omega (arith, placed level h, ends level h)

  pub before_end : (level j : ℕ) → Ready w boxes k top level j → get_or starts level 0 + j < get_or starts (level + 1) 0 → first level j < k
  before_end level j r l = first_inside k level j (inside level j r.low l)

  -- a chain, and how many are listed before it
  pub found_small : {found₀ found : List ℕ} {have : ℕ} (level j : ℕ) → level ≤ 0 → Walked w boxes k top found₀ found have level j → get_or starts level 0 + j < get_or starts (level + 1) 0
      → (j < k) × (have ≤ j)
  unfolding first
  found_small (suc level) j h r l = absurd (omega arith)
  found_small zero j h r l = (before_end 0 j r.ready l, r.fewer)

  -- ---- whether a box is seen
  seen_here : (level j : ℕ) → Ready w boxes k top level j → seen_at w boxes k level j ≡ shown w boxes (get_or starts level 0 + j)
  unfolding start many
  seen_here level j r = go (eq-or-lt_of_le r.low) ∙ ap (λ (x : ℕ). shown w boxes (x + j)) (sym (placed level r.low))
    where
      go : (level ≡ top) ⊎ (level < top) → seen_at w boxes k level j ≡ shown w boxes (start k level + j)
      go (inl e) = seen_top w boxes (start k level) (many k level) j (subst (λ (x : ℕ). many k x ≤ 1) (sym e) s.last)
      go (inr l) = seen_more w boxes (start k level) (many k level) j (s.more level l) ∙ and_true (shown w boxes (start k level + j)) (seen_at w boxes k (suc level) (j / 2)) (r.under l)

  -- ---- the highest of the boxes that begin at one chain
  record Raised (level j : ℕ) (p : Place) : Type 0 where
    ready : Ready w boxes k top p.level p.j
    same : first p.level p.j ≡ first level j

  raised : (f level j : ℕ) → level + f ≡ top → Ahead w boxes k top level j → Raised level j (highest f level j)
  unfolding highest many
  raised zero level j e a = record { ready = record { low = a.low; within = a.within; under = λ l. absurd (omega arith) }; same = refl }
  raised (suc f) level j e a = go (eqb (j % 2) 1) refl (raised f (suc level) (j / 2) (omega arith))
    where
      lower : level < top
      lower = omega arith

      go : (b : Bool) → eqb (j % 2) 1 ≡ b → (Ahead w boxes k top (suc level) (j / 2) → Raised (suc level) (j / 2) (highest f (suc level) (j / 2)))
          → Raised level j (elim b [ true ↦ place level j | false ↦ highest f (suc level) (j / 2) ])
      go true o r =
          let odd : j % 2 ≡ 1 = eqb-true (j % 2) 1 o in
          let z : (j - 1) / 2 ≡ j / 2 = omega arith in
          record { ready = record { low = a.low; within = a.within; under = λ l. subst (λ (x : ℕ). seen_at w boxes k (suc level) x ≡ true) z (a.known l) }; same = refl }
      go false o r =
          let even : j % 2 ≡ 0 = omega (arith, eqb-false (j % 2) 1 o) in
          let z : (j - 1) / 2 ≡ j / 2 - 1 = omega (arith, a.some) in
          let up : Ahead w boxes k top (suc level) (j / 2) = record {
            low = omega arith;
            some = omega (arith, a.some);
            within = omega (arith, a.within);
            known = λ l. above w boxes k (suc level) (j / 2 - 1) (s.more (suc level) l) (subst (λ (x : ℕ). seen_at w boxes k (suc level) x ≡ true) z (a.known lower));
          } in
          record { ready = (r up).ready; same = (r up).same ∙ first_even level j even }

  -- ---- the walk
  pub walked_start : (found : List ℕ) → Walked w boxes k top found found 0 top 0
  unfolding keep upto from
  walked_start found = record {
    ready = record { low = omega arith; within = omega arith; under = λ l. absurd (omega arith) };
    fewer = omega arith;
    size = refl;
    holds = subst (λ (x : ℕ). Holds found found 0 (keep (seen w boxes 0 k) (upto x))) z (record { count = refl; list = refl });
  }
    where
      z : 0 ≡ k - (k - first top 0)
      z = omega (arith, first_zero top)

  module _ (found₀ found : List ℕ) (have : ℕ) where
    down : (level j : ℕ) → Walked w boxes k top found₀ found have (suc level) j → j < many k (suc level) → shown w boxes (get_or starts (suc level) 0 + j) ≡ true
        → Walked w boxes k top found₀ found have level (j * 2)
    unfolding first many
    down level j r l e = record {
      ready = record {
        low = omega (arith, r.ready.low);
        within = omega arith;
        under = λ o. let z : j ≡ j * 2 / 2 = omega arith in subst (λ (x : ℕ). seen_at w boxes k (suc level) x ≡ true) z (seen_here (suc level) j r.ready ∙ e);
      };
      fewer = r.fewer;
      size = r.size;
      holds = r.holds;
    }

    -- a box that is shown, with two below it
    pub walked_down : (level j : ℕ) → 0 < level → Walked w boxes k top found₀ found have level j → get_or starts level 0 + j < get_or starts (level + 1) 0
        → shown w boxes (get_or starts level 0 + j) ≡ true → Walked w boxes k top found₀ found have (level - 1) (j * 2)
    walked_down zero j h r l e = absurd (omega arith)
    walked_down (suc level) j h r l e =
        let z : level ≡ suc level - 1 = omega arith in
        subst (λ (x : ℕ). Walked w boxes k top found₀ found have x (j * 2)) z (down level j r (inside (suc level) j r.ready.low l) e)

    -- a chain that is seen
    pub walked_found : (level j : ℕ) → level ≤ 0 → Walked w boxes k top found₀ found have level j → get_or starts level 0 + j < get_or starts (level + 1) 0 → k ≤ length found₀
        → shown w boxes (get_or starts level 0 + j) ≡ true → Passed w boxes k top found₀ (set found have j) (have + 1) level j
    unfolding first many start
    walked_found (suc level) j h r l room e = absurd (omega arith)
    walked_found zero j h r l room e =
        let i : j < k = inside 0 j r.ready.low l in
        let z : k - (k - j) ≡ j = omega arith in
        let y : j + 1 ≡ k - (k - (j + 1)) = omega arith in
        let o : Holds found found₀ have (keep (seen w boxes 0 k) (upto j)) = subst (λ (x : ℕ). Holds found found₀ have (keep (seen w boxes 0 k) (upto x))) z r.holds in
        record {
          ready = r.ready;
          inside = i;
          fewer = omega (arith, r.fewer);
          size = length-set found have j ∙ r.size;
          holds = subst (λ (x : ℕ). Holds (set found have j) found₀ (have + 1) (keep (seen w boxes 0 k) (upto x))) y
              (subst (λ (out : List ℕ). Holds (set found have j) found₀ (have + 1) out) (sym (kept_next (seen w boxes 0 k) j (seen_here 0 j r.ready ∙ e))) (holds_set o (omega (arith, r.fewer)) j));
        }

    -- a box that is not shown
    pub walked_hidden : (level j : ℕ) → Walked w boxes k top found₀ found have level j → get_or starts level 0 + j < get_or starts (level + 1) 0 → shown w boxes (get_or starts level 0 + j) ≡ false
        → Passed w boxes k top found₀ found have level j
    unfolding start many
    walked_hidden level j r l e = record {
      ready = r.ready;
      inside = i;
      fewer = omega (arith, r.fewer, first_on level j);
      size = r.size;
      holds = subst (λ (out : List ℕ). Holds found found₀ have out) (sym (kept_past (seen w boxes 0 k) (k - (k - first level j)) (k - (k - first level (j + 1))) (omega (arith, first_on level j)) none)) r.holds;
    }
      where
        i : j < many k level
        i = inside level j r.ready.low l

        none : (c : ℕ) → k - (k - first level j) ≤ c → c < k - (k - first level (j + 1)) → seen w boxes 0 k c ≡ false
        none c a b = below_hidden w boxes k level j (below_more level r.ready.low) (seen_here level j r.ready ∙ e) c (omega (arith, first_inside k level j i)) (omega arith)

    next : (level j : ℕ) → Passed w boxes k top found₀ found have level j → Raised level (j + 1) (highest (top - level) level (j + 1))
    next level j p = raised (top - level) level (j + 1) (omega (arith, p.ready.low)) (record {
      low = p.ready.low;
      some = omega arith;
      within = omega (arith, p.inside);
      known = λ l. let z : j / 2 ≡ (j + 1 - 1) / 2 = omega arith in subst (λ (x : ℕ). seen_at w boxes k (suc level) x ≡ true) z (p.ready.under l);
    })

    -- the next box, and that it begins further on
    pub passed_on : (level j : ℕ) → Passed w boxes k top found₀ found have level j → (p : Place) → p ≡ highest (top - level) level (j + 1)
        → Walked w boxes k top found₀ found have p.level p.j × (first level j < first p.level p.j)
    passed_on level j p q e = subst (λ (x : Place). Walked w boxes k top found₀ found have x.level x.j × (first level j < first x.level x.j)) (sym e) (
      record {
        ready = n.ready;
        fewer = omega (arith, p.fewer, n.same);
        size = p.size;
        holds = subst (λ (x : ℕ). Holds found found₀ have (keep (seen w boxes 0 k) (upto (k - (k - x))))) (sym n.same) p.holds;
      },
      omega (arith, first_on level j, n.same),
    )
      where
        n : Raised level (j + 1) (highest (top - level) level (j + 1))
        n = next level j p

    pub walked_done : (level j : ℕ) → Walked w boxes k top found₀ found have level j → get_or starts (level + 1) 0 ≤ get_or starts level 0 + j → Holds found found₀ have (in_window w boxes k)
    unfolding in_window
    walked_done level j r l =
        let o : many k level ≤ j = omega (arith, placed level r.ready.low, ends level r.ready.low) in
        let z : k - (k - first level j) ≡ k = omega (arith, first_end k level j o) in
        subst (λ (x : ℕ). Holds found found₀ have (keep (seen w boxes 0 k) (upto x))) z r.holds
