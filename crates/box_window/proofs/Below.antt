-- What lies below a box: the chains from its first one on, up to the first one of the next box. Where one of them is seen, the box is, since each box above a box that is seen is seen.
use Prim.Native.Nat.{ℕ, zero, suc, ◌+◌, ◌-◌, ◌*◌, ◌/◌, ◌%◌, ◌≤◌, ◌<◌}
use mathlib.Core.Path.{◌≡◌, refl, sym, ap, ◌∙◌, subst}
use mathlib.Core.Bool.{Bool, true, false, true≢false}
use mathlib.Core.List.{List}
use mathlib.Core.Logic.{◌⊎◌, inl, inr}
use native.Mathlib.Omega.{arith}
use native.Mathlib.Decide.{dec_lt}
use Rattle.rules.specs.declared.Window.{Window}
use Rattle.rules.specs.Windows.{seen}
use Rattle.box_laws.proofs.Above.{seen_above}
use Rattle.box_window.specs.Levels.{many, start, first}

split : (m j : ℕ) → (m < j) ⊎ (j ≤ m)
split m j = elim (dec_lt m j) [ yes l ↦ inl l | no l ↦ inr (omega arith) ]

-- ---- first chains
pub first_zero : (l : ℕ) → first l 0 ≡ 0
unfolding first
first_zero zero = refl
first_zero (suc l) = first_zero l

twice_on : (l i : ℕ) → first l (i * 2 + 1 + 1) ≡ first (suc l) (i + 1)
unfolding first
twice_on l i = let z : i * 2 + 1 + 1 ≡ (i + 1) * 2 = omega arith in ap (first l) z

pub first_on : (l i : ℕ) → first l i < first l (i + 1)
unfolding first
first_on zero i = omega arith
first_on (suc l) i = omega (arith, first_on l (i * 2), first_on l (i * 2 + 1), twice_on l i)

-- the first of the two below a box
pub first_down : (l i : ℕ) → 0 < l → first (l - 1) (i * 2) ≡ first l i
unfolding first
first_down zero i h = absurd (omega arith)
first_down (suc l) i h = let z : suc l - 1 ≡ l = omega arith in ap (λ (x : ℕ). first x (i * 2)) z

-- the box above, of the first of two
pub first_even : (l i : ℕ) → i % 2 ≡ 0 → first (suc l) (i / 2) ≡ first l i
unfolding first
first_even l i e = let z : i / 2 * 2 ≡ i = omega arith in ap (first l) z

module _ (k : ℕ) where
  pub first_end : (l i : ℕ) → many k l ≤ i → k ≤ first l i
  unfolding first many
  first_end zero i h = h
  first_end (suc l) i h = first_end l (i * 2) (omega arith)

  pub first_inside : (l i : ℕ) → i < many k l → first l i < k
  unfolding first many
  first_inside zero i h = h
  first_inside (suc l) i h = first_inside l (i * 2) (omega arith)

  -- no level reaches beyond 3 k boxes
  pub within_room : (l : ℕ) → ((m : ℕ) → m < l → 1 < many k m) → start k l + many k l * 3 ≤ k * 3
  unfolding start many
  within_room zero h = omega arith
  within_room (suc l) h = omega (arith, within_room l (λ m a. h m (omega arith)), h l (omega arith))

-- ---- boxes that are seen
module _ (w : Window) (boxes : List ℕ) (k : ℕ) where
  abbrev pub seen_at : ℕ → ℕ → Bool
  seen_at l i = seen w boxes (start k l) (many k l) i

  pub above : (l i : ℕ) → 1 < many k l → seen_at l i ≡ true → seen_at (suc l) (i / 2) ≡ true
  unfolding start many
  above l i h e = seen_above w boxes (start k l) (many k l) i h e

  pub below_seen : (l i c : ℕ) → ((m : ℕ) → m < l → 1 < many k m) → first l i ≤ c → c < first l (i + 1) → seen_at 0 c ≡ true → seen_at l i ≡ true
  unfolding first
  below_seen zero i c h a b e = let z : i ≡ c = omega arith in ap (seen_at 0) z ∙ e
  below_seen (suc l) i c h a b e =
      go (split c (first l (i * 2 + 1)))
      (λ p q. below_seen l (i * 2) c (λ m o. h m (omega arith)) p q e)
      (λ p q. below_seen l (i * 2 + 1) c (λ m o. h m (omega arith)) p q e)
    where
      go : (c < first l (i * 2 + 1)) ⊎ (first l (i * 2 + 1) ≤ c)
          → (first l (i * 2) ≤ c → c < first l (i * 2 + 1) → seen_at l (i * 2) ≡ true)
          → (first l (i * 2 + 1) ≤ c → c < first l (i * 2 + 1 + 1) → seen_at l (i * 2 + 1) ≡ true)
          → seen_at (suc l) i ≡ true
      go (inl o) f g = let z : i * 2 / 2 ≡ i = omega arith in subst (λ (x : ℕ). seen_at (suc l) x ≡ true) z (above l (i * 2) (h l (omega arith)) (f a o))
      go (inr o) f g =
          let z : (i * 2 + 1) / 2 ≡ i = omega arith in
          subst (λ (x : ℕ). seen_at (suc l) x ≡ true) z (above l (i * 2 + 1) (h l (omega arith)) (g o (omega (arith, twice_on l i))))

  pub below_hidden : (l i : ℕ) → ((m : ℕ) → m < l → 1 < many k m) → seen_at l i ≡ false → (c : ℕ) → first l i ≤ c → c < first l (i + 1) → seen_at 0 c ≡ false
  below_hidden l i h e c a b = go (seen_at 0 c) refl
    where
      go : (s : Bool) → seen_at 0 c ≡ s → s ≡ false
      go false d = refl
      go true d = absurd (true≢false (sym (below_seen l i c h a b d) ∙ e))
