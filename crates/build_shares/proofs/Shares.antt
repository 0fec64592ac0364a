-- Shares: a group is of one of two districts, so that both bring together what is lent, and the first brings what the second doesn't.
-- Counting goes line by line: a line adds 1, or its coordinates, to its own district alone.
use Prim.Native.Nat.{ℕ, ◌+◌, ◌-◌, ◌*◌, ◌/◌, ◌≤◌, ◌<◌}
use mathlib.Core.Path.{◌≡◌, refl, sym, ap, ap₂, subst, ◌∙◌}
use mathlib.Core.Bool.{Bool, true, false, not, ◌||◌}
use mathlib.Core.List.{List, [], ◌∷◌}
use native.Mathlib.Omega.{arith}
use native.Mathlib.Nat.{add_assoc, zero-add, mul-le-mul_right}
use native.Mathlib.Numerals.{add-one}
use lib.Dec.{ltb}
use lib.ListN.{length, get_or, drop, drop_of_length-le}
use lib.Seq.{drop-cons}
use borrow.Author.Tests.{ltb-true, ltb-false}
use Rattle.rules.specs.Lists.{one, keep, total}
use Rattle.rules.specs.Districts.{border, district_of, is_of, lines_brought, points_brought, most_district_lines, most_district_points, over_lines, over_points}
use Rattle.rules.specs.Refusals.{first_of}

-- ---- two districts

pub one_of_two : (g : ℕ) → is_of 0 g ≡ not (is_of 1 g)
unfolding is_of district_of
one_of_two g = go (ltb g border) refl
  where
    go : (t : Bool) → ltb g border ≡ t → is_of 0 g ≡ not (is_of 1 g)
    go true e = rw (e, district_of)
    go false e = rw (e, district_of)

-- a group of 32 bits by the border is 1 for the second district's
pub by_border : (g : ℕ) → g < 4294967296 → one (is_of 1 g) ≡ g / 2147483648
unfolding is_of district_of
by_border g h = go (ltb g border) refl
  where
    go : (t : Bool) → ltb g border ≡ t → one (is_of 1 g) ≡ g / 2147483648
    go true e = rw (e, district_of) (omega (arith, ltb-true g border e))
    go false e = rw (e, district_of) (omega (arith, ltb-false g border e))

-- ---- one line more

pub lines_more : (d g : ℕ) (gs : List ℕ) → lines_brought d (g ∷ gs) ≡ one (is_of d g) + lines_brought d gs
unfolding lines_brought keep
lines_more d g gs = go (is_of d g) refl
  where
    go : (t : Bool) → is_of d g ≡ t → lines_brought d (g ∷ gs) ≡ one (is_of d g) + lines_brought d gs
    go true e = rw (e, keep) (omega arith)
    go false e = rw (e, keep) (omega arith)

pub points_more : (d c : ℕ) (cs gs : List ℕ)
    → points_brought d (c ∷ cs) gs ≡ one (is_of d (get_or gs 0 0)) * c + points_brought d cs (drop 1 gs)
unfolding points_brought
points_more d c cs gs = go (is_of d (get_or gs 0 0)) refl
  where
    go : (t : Bool) → is_of d (get_or gs 0 0) ≡ t → points_brought d (c ∷ cs) gs ≡ one (is_of d (get_or gs 0 0)) * c + points_brought d cs (drop 1 gs)
    go true e = rw (e, points_brought) (omega arith)
    go false e = rw (e, points_brought) (omega arith)

-- ---- both together are what is lent

pub lines_shared : (gs : List ℕ) → lines_brought 0 gs + lines_brought 1 gs ≡ length gs
lines_shared [] = unfold lines_brought keep in refl
lines_shared (g ∷ gs) = go (is_of 1 g) (one_of_two g) refl (lines_shared gs)
  where
    go : (t : Bool) → is_of 0 g ≡ not (is_of 1 g) → is_of 1 g ≡ t → lines_brought 0 gs + lines_brought 1 gs ≡ length gs
        → lines_brought 0 (g ∷ gs) + lines_brought 1 (g ∷ gs) ≡ length (g ∷ gs)
    go true f e ih = omega (arith, lines_more 0 g gs, lines_more 1 g gs, ap one e, ap one (f ∙ ap not e))
    go false f e ih = omega (arith, lines_more 0 g gs, lines_more 1 g gs, ap one e, ap one (f ∙ ap not e))

pub points_shared : (cs gs : List ℕ) → points_brought 0 cs gs + points_brought 1 cs gs ≡ total cs
unfolding total
points_shared [] gs = unfold points_brought in refl
points_shared (c ∷ cs) gs = go (is_of 1 (get_or gs 0 0)) (one_of_two (get_or gs 0 0)) refl (points_shared cs (drop 1 gs))
  where
    part : (d : ℕ) (t : Bool) → is_of d (get_or gs 0 0) ≡ t → points_brought d (c ∷ cs) gs ≡ one t * c + points_brought d cs (drop 1 gs)
    part d t e = points_more d c cs gs ∙ ap (λ (b : Bool). one b * c + points_brought d cs (drop 1 gs)) e

    go : (t : Bool) → is_of 0 (get_or gs 0 0) ≡ not (is_of 1 (get_or gs 0 0)) → is_of 1 (get_or gs 0 0) ≡ t
        → points_brought 0 cs (drop 1 gs) + points_brought 1 cs (drop 1 gs) ≡ total cs
        → points_brought 0 (c ∷ cs) gs + points_brought 1 (c ∷ cs) gs ≡ c + total cs
    go true f e ih = omega (arith, part 0 false (f ∙ ap not e), part 1 true e)
    go false f e ih = omega (arith, part 0 true (f ∙ ap not e), part 1 false e)

-- ---- the loop: what is brought so far beside what is left

-- in the first i lines, the second district brings so many lines and coordinates
pub record Brought (cs gs : List ℕ) (lines points i : ℕ) : Type 0 where
  pub by_lines : lines + lines_brought 1 (drop i gs) ≡ lines_brought 1 gs
  pub by_points : points + points_brought 1 (drop i cs) (drop i gs) ≡ points_brought 1 cs gs

lines_step : (gs : List ℕ) (i s : ℕ) → i < length gs
    → s + lines_brought 1 (drop i gs) ≡ s + one (is_of 1 (get_or gs i 0)) + lines_brought 1 (drop (i + 1) gs)
lines_step gs i s h = rw (drop-cons gs i 0 h, add-one, lines_more, add_assoc)

points_step : (cs gs : List ℕ) (i s : ℕ) → i < length cs → i < length gs
    → s + points_brought 1 (drop i cs) (drop i gs) ≡ s + one (is_of 1 (get_or gs i 0)) * get_or cs i 0 + points_brought 1 (drop (i + 1) cs) (drop (i + 1) gs)
points_step cs gs i s h k = rw (drop-cons cs i 0 h, drop-cons gs i 0 k, add-one, points_more, add_assoc)

pub one_brought : (cs gs : List ℕ) (lines points i : ℕ) → i < length cs → i < length gs → get_or gs i 0 < 4294967296 → Brought cs gs lines points i
    → Brought cs gs (lines + get_or gs i 0 / 2147483648) (points + get_or gs i 0 / 2147483648 * get_or cs i 0) (i + 1)
one_brought cs gs lines points i h k small b =
    subst (λ (m : ℕ). Brought cs gs (lines + m) (points + m * get_or cs i 0) (i + 1)) (by_border (get_or gs i 0) small)
    (record { by_lines = sym (lines_step gs i lines k) ∙ b.by_lines; by_points = sym (points_step cs gs i points h k) ∙ b.by_points })

lines_none : (gs : List ℕ) (i s : ℕ) → length gs ≤ i → s + lines_brought 1 (drop i gs) ≡ s
unfolding lines_brought keep
lines_none gs i s h = rw (drop_of_length-le gs {i = i} h) (omega arith)

points_none : (cs gs : List ℕ) (i s : ℕ) → length cs ≤ i → s + points_brought 1 (drop i cs) (drop i gs) ≡ s
unfolding points_brought
points_none cs gs i s h = rw (drop_of_length-le cs {i = i} h) (omega arith)

pub all_brought : (cs gs : List ℕ) (lines points i : ℕ) → length cs ≤ i → length gs ≤ i → Brought cs gs lines points i
    → (lines ≡ lines_brought 1 gs) × (points ≡ points_brought 1 cs gs)
all_brought cs gs lines points i h k b =
    (sym (lines_none gs i lines k) ∙ b.by_lines, sym (points_none cs gs i points h) ∙ b.by_points)

-- none or one time a number
pub once_at_most : (a b : ℕ) → a ≤ 1 → a * b ≤ b
once_at_most a b h = omega (arith, mul-le-mul_right b h)

-- ---- over a share

pub over_lines_lem : (gs : List ℕ) (n second : ℕ) → length gs ≡ n → second ≡ lines_brought 1 gs
    → over_lines gs ≡ (ltb most_district_lines (n - second) || ltb most_district_lines second)
unfolding over_lines
over_lines_lem gs n second h e =
    let first : lines_brought 0 gs ≡ n - second = omega (arith, lines_shared gs) in
    ap₂ (λ (a b : ℕ). ltb most_district_lines a || ltb most_district_lines b) first (sym e)

pub over_points_lem : (cs gs : List ℕ) (c second : ℕ) → c ≡ total cs → second ≡ points_brought 1 cs gs
    → over_points cs gs ≡ (ltb most_district_points (c - second) || ltb most_district_points second)
unfolding over_points
over_points_lem cs gs c second h e =
    let first : points_brought 0 cs gs ≡ c - second = omega (arith, points_shared cs gs) in
    ap₂ (λ (a b : ℕ). ltb most_district_points a || ltb most_district_points b) first (sym e)

-- ---- the first of 20 and 21

pub by_twenty : (a b : Bool) → a ≡ true → 20 ≡ first_of ((20, a) ∷ (21, b) ∷ [])
unfolding first_of
by_twenty a b e = rw (e, first_of)

pub by_twenty_one : (a b : Bool) → a ≡ false → b ≡ true → 21 ≡ first_of ((20, a) ∷ (21, b) ∷ [])
unfolding first_of
by_twenty_one a b e f = rw (e, f, first_of)

pub by_neither : (a b : Bool) → a ≡ false → b ≡ false → 0 ≡ first_of ((20, a) ∷ (21, b) ∷ [])
unfolding first_of
by_neither a b e f = rw (e, f, first_of)
