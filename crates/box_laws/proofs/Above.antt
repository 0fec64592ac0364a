-- A box is seen where it is shown and the one above it is seen. How far the definition counts the levels does not matter, once it is as many as there are.
use Prim.Native.Nat.{ℕ, zero, suc, ◌+◌, ◌/◌, ◌≤◌, ◌<◌}
use mathlib.Core.Path.{◌≡◌, refl, sym, ap, ◌∙◌}
use mathlib.Core.Bool.{Bool, true, false, ◌&&◌}
use mathlib.Core.List.{List}
use native.Mathlib.Omega.{arith}
use lib.Dec.{leb}
use borrow.Author.Tests.{le-leb, lt-leb, leb-true, leb-false}
use Rattle.rules.specs.declared.Window.{Window}
use Rattle.rules.specs.Windows.{shown, shown_up, seen}

module _ (w : Window) (boxes : List ℕ) where
  pub up_top : (f at n i : ℕ) → n ≤ 1 → shown_up f w boxes at n i ≡ shown w boxes (at + i)
  unfolding shown_up
  up_top zero at n i h = refl
  up_top (suc f) at n i h = rw (le-leb n 1 h) (and_true (shown w boxes (at + i)))
    where
      and_true : (b : Bool) → b && true ≡ b
      and_true true = refl
      and_true false = refl

  pub up_more : (f at n i : ℕ) → 1 < n → shown_up (suc f) w boxes at n i ≡ (shown w boxes (at + i) && shown_up f w boxes (at + n) ((n + 1) / 2) (i / 2))
  unfolding shown_up
  up_more f at n i h = rw (lt-leb n 1 h)

  -- any two counts of levels that are enough
  enough : (f g at n i : ℕ) → n ≤ f → n ≤ g → shown_up f w boxes at n i ≡ shown_up g w boxes at n i
  enough zero g at n i h k = up_top zero at n i (omega arith) ∙ sym (up_top g at n i (omega arith))
  enough (suc f) zero at n i h k = up_top (suc f) at n i (omega arith) ∙ sym (up_top zero at n i (omega arith))
  enough (suc f) (suc g) at n i h k = go (leb n 1) refl (enough f g (at + n) ((n + 1) / 2) (i / 2))
    where
      go : (b : Bool) → leb n 1 ≡ b → ((n + 1) / 2 ≤ f → (n + 1) / 2 ≤ g → shown_up f w boxes (at + n) ((n + 1) / 2) (i / 2) ≡ shown_up g w boxes (at + n) ((n + 1) / 2) (i / 2))
          → shown_up (suc f) w boxes at n i ≡ shown_up (suc g) w boxes at n i
      go true e r = let l = leb-true n 1 e in up_top (suc f) at n i l ∙ sym (up_top (suc g) at n i l)
      go false e r =
          let l = leb-false n 1 e in
          up_more f at n i l ∙ ap (λ (b : Bool). shown w boxes (at + i) && b) (r (omega arith) (omega arith)) ∙ sym (up_more g at n i l)

module _ (w : Window) (boxes : List ℕ) (at n i : ℕ) where
  pub seen_top : n ≤ 1 → seen w boxes at n i ≡ shown w boxes (at + i)
  seen_top h = up_top w boxes n at n i h

  pub seen_more : 1 < n → seen w boxes at n i ≡ (shown w boxes (at + i) && seen w boxes (at + n) ((n + 1) / 2) (i / 2))
  seen_more h =
      enough w boxes n (suc n) at n i (omega arith) (omega arith)
      ∙ up_more w boxes n at n i h
      ∙ ap (λ (b : Bool). shown w boxes (at + i) && b) (enough w boxes n ((n + 1) / 2) (at + n) ((n + 1) / 2) (i / 2) (omega arith) (omega arith))

  -- the box above one that is seen is seen
  pub seen_above : 1 < n → seen w boxes at n i ≡ true → seen w boxes (at + n) ((n + 1) / 2) (i / 2) ≡ true
  seen_above h e = and_second (shown w boxes (at + i)) (seen w boxes (at + n) ((n + 1) / 2) (i / 2)) (sym (seen_more h) ∙ e)
    where
      and_second : (a b : Bool) → a && b ≡ true → b ≡ true
      and_second true b e = e
      and_second false b e = let z : ◌≡◌ {A = ℕ} 0 1 = cc in absurd (omega arith)
