-- A line behind another: what the tables tell of where it fits, the marks that it makes, and which of those are there.
use Prim.Native.Nat.{ℕ, ◌+◌, ◌-◌, ◌≤◌, ◌<◌, max}
use mathlib.Core.Path.{◌≡◌, refl, sym, ap₂, ◌∙◌}
use mathlib.Core.Bool.{Bool, true, false}
use mathlib.Core.Logic.{◌⊎◌, inl, inr}
use mathlib.Core.List.{List}
use native.Mathlib.Decide.{dec_lt}
use native.Mathlib.Omega.{arith}
use lib.ListN.{get_or}
use Rattle.rules.specs.declared.Meeting.{Meeting}
use Rattle.rules.specs.Plane.{points}
use Rattle.rules.specs.Refusals.{most_lines, most_points}
use Rattle.check_laws.specs.Standing.{size_of}
use Rattle.check_laws.proofs.Points.{laid_size}
use Rattle.check_marks.specs.Marks.{open_to, moved, TrimmedLow, TrimmedHigh}
use Rattle.check_places.specs.Places.{far}
use Rattle.check_chains.specs.declared.Held.{Held}
use Rattle.check_chains.specs.Chains.{Steps, FilledOpen, Advancing}
use Rattle.check_chains.proofs.Steps.{Fits, steps}
use Rattle.check_chains.proofs.Beginning.{size_some, size_short}

module _ (w : ℕ) (chain p l marks : List ℕ) (h : Held) (m : Meeting) (y : Advancing w chain p l marks h) where
  abbrev from : ℕ
  from = h.base - h.end

  abbrev room : ℕ
  room = h.end - h.low + 1

  -- ---- sizes

  pub behind : h.end ≤ h.base
  behind = y.steady.behind y.live

  pub base_near : h.base ≤ far
  base_near = omega (arith, y.steady.near, y.few)

  pub inside : h.end < most_lines
  inside = omega (arith, y.steady.few, y.few)

  -- ---- where the line fits

  size_most : (opened : ℕ) (e : Bool) (fits : List Bool) (r : ℕ) → FilledOpen opened w chain l e from room fits r → r ≤ size_of (points w l)
  size_most opened e fits r f = omega (arith, f.most, laid_size e (points w l) y.after.numbers)

  pub greater_near : (drawn turned a b size : ℕ) (drawnFits turnedFits : List Bool) → FilledOpen drawn w chain l false from room drawnFits a
      → FilledOpen turned w chain l true from room turnedFits b → (a ≤ size) × (b ≤ size) × ((size ≡ a) ⊎ (size ≡ b)) → size ≤ most_points
  greater_near drawn turned a b size drawnFits turnedFits fd ft g = go g.2
    where
      go : (size ≡ a) ⊎ (size ≡ b) → size ≤ most_points
      go (inl q) = omega (arith, size_most drawn false drawnFits a fd, size_short w chain l y.after)
      go (inr q) = omega (arith, size_most turned true turnedFits b ft, size_short w chain l y.after)

  pub max_is : (a b size : ℕ) → size ≡ max a b → (a ≤ size) × (b ≤ size) × ((size ≡ a) ⊎ (size ≡ b))
  max_is a b size e = (omega arith, omega arith, elim (dec_lt a b) [ yes y ↦ inr (omega arith) | no n ↦ inl (omega arith) ])

  fits_told : (e : Bool) (opened : ℕ) (fits : List Bool) (r : ℕ) → opened ≡ open_to m (points w p) (points w l) e → FilledOpen opened w chain l e from room fits r
      → Fits m (points w chain) (points w p) (points w l) y.passed marks h y.steady y.live e fits r
  fits_told e opened fits r q f =
      record {
        told = λ o x b. (f.told (λ z. o (sym q ∙ z))).fits x b;
        sized = λ o x b s. (f.told (λ z. o (sym q ∙ z))).size x b s ∙ laid_size e (points w l) y.after.numbers;
        most = size_most opened e fits r f;
      }

  pub advance_steps : (drawnFits turnedFits : List Bool) (drawn turned a b size : ℕ) → drawn ≡ open_to m (points w p) (points w l) false
      → turned ≡ open_to m (points w p) (points w l) true → FilledOpen drawn w chain l false from room drawnFits a → FilledOpen turned w chain l true from room turnedFits b
      → (a ≤ size) × (b ≤ size) × ((size ≡ a) ⊎ (size ≡ b)) → (marks' : List ℕ)
      → ((j : ℕ) → h.low ≤ j → j ≤ h.end → get_or marks' j 0 ≡ moved (points w chain) h.base h.low h.end drawn turned drawnFits turnedFits marks j)
      → (low end : ℕ) → TrimmedLow marks' h.low (h.end + 1) low → TrimmedHigh marks' low (h.end + 1) end
      → Steps m (points w chain) (points w p) (points w l) y.passed marks h marks' (record { base = h.base + size; low = low; end = end })
  advance_steps drawnFits turnedFits drawn turned a b size od ot fd ft g marks' moves low end tl th =
      steps m (points w chain) (points w p) (points w l) y.passed marks h y.steady y.live drawnFits turnedFits a b size
      (fits_told false drawn drawnFits a od fd) (fits_told true turned turnedFits b ot ft) g marks'
      (record { base = h.base + size; low = low; end = end }) refl
      (λ j b c. moves j b c ∙ ap₂ (λ (x z : ℕ). moved (points w chain) h.base h.low h.end x z drawnFits turnedFits marks j) od ot)
      tl.above th.above th.within tl.none th.none tl.there (size_some w chain l y.after) (size_short w chain l y.after)
