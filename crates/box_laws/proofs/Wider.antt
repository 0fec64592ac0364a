-- A box around another meets what that one meets, where no number is a NaN; so the box of a pair meets each window that one of the two meets.
use Prim.Native.Nat.{ℕ, zero, suc, ◌/◌, ◌<◌}
use mathlib.Core.Path.{◌≡◌, refl, sym, subst}
use mathlib.Core.Bool.{Bool, true, false, not, ◌&&◌, cond}
use mathlib.Core.List.{List, [], ◌∷◌}
use native.Mathlib.Omega.{arith}
use lib.Dec.{T}
use lib.ListN.{length}
use lib.Ieee.{Float, le, lt}
use lib.Ieee.Fits.{and_i, and_l, and_r}
use Rattle.rules.specs.declared.Box.{Box}
use Rattle.rules.specs.declared.Window.{Window}
use Rattle.rules.specs.Plane.{float}
use Rattle.rules.specs.Boxes.{lesser, greater, union, in_pairs}
use Rattle.rules.specs.Windows.{overlap, meets}
use Rattle.float_order.proofs.Order.{trans, lt_to_le, nlt_to_le, refl_le}
use Rattle.chain_laws.proofs.Counts.{cons}
use Rattle.box_laws.specs.Sound.{Number, BoxSound, Sounds}
use Rattle.box_laws.specs.Rows.{nth}
use Rattle.box_laws.proofs.Unions.{union_sound}

-- ---- the lesser and the greater
module _ (a b : ℕ) (p : Number a) (q : Number b) where
  pub lesser_left : T (le (float (lesser a b)) (float a))
  unfolding lesser
  lesser_left = go (lt (float b) (float a)) refl
    where
      go : (t : Bool) → lt (float b) (float a) ≡ t → T (le (float (cond t b a)) (float a))
      go true e = lt_to_le (float b) (float a) (subst T (sym e) tt)
      go false e = refl_le (float a) p

  pub lesser_right : T (le (float (lesser a b)) (float b))
  unfolding lesser
  lesser_right = go (lt (float b) (float a)) refl
    where
      go : (t : Bool) → lt (float b) (float a) ≡ t → T (le (float (cond t b a)) (float b))
      go true e = refl_le (float b) q
      go false e = nlt_to_le (float b) (float a) q p (subst (λ (t : Bool). T (not t)) (sym e) tt)

  pub greater_left : T (le (float a) (float (greater a b)))
  unfolding greater
  greater_left = go (lt (float a) (float b)) refl
    where
      go : (t : Bool) → lt (float a) (float b) ≡ t → T (le (float a) (float (cond t b a)))
      go true e = lt_to_le (float a) (float b) (subst T (sym e) tt)
      go false e = refl_le (float a) p

  pub greater_right : T (le (float b) (float (greater a b)))
  unfolding greater
  greater_right = go (lt (float a) (float b)) refl
    where
      go : (t : Bool) → lt (float a) (float b) ≡ t → T (le (float b) (float (cond t b a)))
      go true e = refl_le (float b) q
      go false e = nlt_to_le (float a) (float b) p q (subst (λ (t : Bool). T (not t)) (sym e) tt)

-- ---- a wider box
wider : (low high low' high' from to : Float) → T (le low' low) → T (le high high') → T (overlap low high from to) → T (overlap low' high' from to)
unfolding overlap
wider low high low' high' from to l h t =
    let a = and_l (le low high) (le low to && le from high) t in
    let r = and_r (le low high) (le low to && le from high) t in
    let b = and_l (le low to) (le from high) r in
    let c = and_r (le low to) (le from high) r in
    and_i (le low' high') (le low' to && le from high') (trans low' low high' l (trans low high high' a h))
    (and_i (le low' to) (le from high') (trans low' low to l b) (trans from high high' c h))

module _ (w : Window) (a b : Box) (p : BoxSound a) (q : BoxSound b) where
  module _ (c : Box) where
    abbrev along_x : Bool
    along_x = overlap (float c.least_x) (float c.greatest_x) w.least_x w.greatest_x

    abbrev along_y : Bool
    along_y = overlap (float c.least_y) (float c.greatest_y) w.least_y w.greatest_y

  pub meets_left : T (meets w a) → T (meets w (union a b))
  unfolding meets union
  meets_left t =
      and_i (along_x (union a b)) (along_y (union a b))
      (wider _ _ _ _ w.least_x w.greatest_x (lesser_left a.least_x b.least_x p.low_x q.low_x) (greater_left a.greatest_x b.greatest_x p.to_high_x q.to_high_x) (and_l (along_x a) (along_y a) t))
      (wider _ _ _ _ w.least_y w.greatest_y (lesser_left a.least_y b.least_y p.from_low_y q.from_low_y) (greater_left a.greatest_y b.greatest_y p.to_high_y q.to_high_y) (and_r (along_x a) (along_y a) t))

  pub meets_right : T (meets w b) → T (meets w (union a b))
  unfolding meets union
  meets_right t =
      and_i (along_x (union a b)) (along_y (union a b))
      (wider _ _ _ _ w.least_x w.greatest_x (lesser_right a.least_x b.least_x p.low_x q.low_x) (greater_right a.greatest_x b.greatest_x p.to_high_x q.to_high_x) (and_l (along_x b) (along_y b) t))
      (wider _ _ _ _ w.least_y w.greatest_y (lesser_right a.least_y b.least_y p.from_low_y q.from_low_y) (greater_right a.greatest_y b.greatest_y p.to_high_y q.to_high_y) (and_r (along_x b) (along_y b) t))

-- ---- a level and the one above it
pub pairs_sound : (l : List Box) → Sounds l → Sounds (in_pairs l)
unfolding in_pairs
pairs_sound [] s = s
pairs_sound (a ∷ []) s = s
pairs_sound (a ∷ b ∷ l) (cons p (cons q s)) = cons (union_sound p q) (pairs_sound l s)

pub meets_above : (w : Window) (l : List Box) (i : ℕ) → Sounds l → i < length l → T (meets w (nth l i)) → T (meets w (nth (in_pairs l) (i / 2)))
unfolding in_pairs
meets_above w [] i s h t = absurd (omega arith)
meets_above w (a ∷ []) zero s h t = t
meets_above w (a ∷ []) (suc i) s h t = absurd (omega arith)
meets_above w (a ∷ b ∷ l) zero (cons p (cons q s)) h t = meets_left w a b p q t
meets_above w (a ∷ b ∷ l) (suc zero) (cons p (cons q s)) h t = meets_right w a b p q t
meets_above w (a ∷ b ∷ l) (suc (suc i)) (cons p (cons q s)) h t =
    let e : suc (i / 2) ≡ suc (suc i) / 2 = omega arith in
    subst (λ (j : ℕ). T (meets w (nth (union a b ∷ in_pairs l) j))) e (meets_above w l i s (omega arith) t)
