-- Ends that are sorted by their keys stand together with those of their direction. Ends of one direction have one angle and the same words, so the three words that
-- they are sorted by are the same; and an end with these words is present, since the angle of an absent one is above every other, and so has the direction too.
use Prim.Native.Nat.{ℕ, ◌+◌, ◌-◌, ◌*◌, ◌/◌, ◌^◌, ◌≤◌, ◌<◌}
use mathlib.Core.Path.{◌≡◌, sym, ◌∙◌, ap, subst}
use mathlib.Core.Bool.{Bool, true, false, cond}
use mathlib.Core.List.{List, [], ◌∷◌}
use mathlib.Core.Logic.{⊎_elim}
use native.Mathlib.Omega.{arith}
use lib.Ieee.{Float, binary64, add, sub, lt}
use lib.Ieee.Fits.{add-fits, sub-fits}
use lib.ListN.{get_or}
use Rattle.rules.specs.Answers.{Direction}
use Rattle.rules.specs.Answers.{Toward}
use Rattle.rules.specs.Plane.{float, nought, unity}
use Rattle.float_order.specs.Key.{key_nan, key}
use Rattle.float_order.proofs.Keys.{key_most}
use Rattle.pair_ends.specs.Blocks.{sort_keys_from}
use Rattle.pair_ends.specs.Ends.{direction_at}
use Rattle.pair_ends.proofs.Reading.{direction_toward, direction_absent}
use Rattle.pair_tree.proofs.Flat.{same_or}
use Rattle.pair_owners.specs.Tables.{OneDirection, Together}
use Rattle.pair_owners.specs.Angles.{three, share_of, angle_toward, angle_along, angle_at, Keys}

-- ---- the angle tells whether an end is present

half_below : (k : ℕ) → k ≤ key_nan → k / 2 < 2 ^ 64 - 1
half_below k h = omega arith

toward_below : (x y : Float) → angle_toward x y < 2 ^ 64 - 1
unfolding angle_toward
toward_below x y = go (lt y nought)
  where
    go : (b : Bool) → cond b (key (add binary64 three (share_of x y)) / 2) (key (sub binary64 unity (share_of x y)) / 2) < 2 ^ 64 - 1
    go true = half_below (key (add binary64 three (share_of x y))) (key_most _ (add-fits binary64 three (share_of x y)))
    go false = half_below (key (sub binary64 unity (share_of x y))) (key_most _ (sub-fits binary64 unity (share_of x y)))

module _ (w : List ℕ) (d e : ℕ) where
  present_below : get_or w e 0 ≡ 1 → angle_at w d e < 2 ^ 64 - 1
  unfolding angle_along
  present_below h = subst (λ (a : Direction). angle_along a < 2 ^ 64 - 1) (direction_toward w d e h) (toward_below _ _)

  absent_above : (get_or w e 0 ≡ 1 → ⊥) → angle_at w d e ≡ 2 ^ 64 - 1
  unfolding angle_along
  absent_above h = ap angle_along (sym (direction_absent w d e h))

-- ---- the three words

-- the words that end e is sorted by
abbrev pub words_of : List ℕ → ℕ → ℕ → List ℕ
words_of w d e = get_or w (d * sort_keys_from + e * 3) 0 ∷ get_or w (d * sort_keys_from + e * 3 + 1) 0 ∷ get_or w (d * sort_keys_from + e * 3 + 2) 0 ∷ []

module _ {w₀ w : List ℕ} {d : ℕ} (k : Keys w₀ w d) (a e : ℕ) (a_in : a < d) (e-in : e < d) where
  same_keyed : OneDirection w₀ d a e → words_of w d a ≡ words_of w d e
  same_keyed s =
      let i = k.each a a_in in
      let j = k.each e e-in in
      let way : direction_at w₀ d a ≡ direction_at w₀ d e =
      sym (direction_toward w₀ d a s.first) ∙ (λ t. Toward (float (s.x t)) (float (s.y t))) ∙ direction_toward w₀ d e s.second in
      λ t. (i.angle ∙ ap angle_along way ∙ sym j.angle) t ∷ (i.first ∙ s.x ∙ sym j.first) t ∷ (i.second ∙ s.y ∙ sym j.second) t ∷ []

  keyed_same : get_or w₀ a 0 ≡ 1 → words_of w d a ≡ words_of w d e → OneDirection w₀ d a e
  keyed_same h s =
      let i = k.each a a_in in
      let j = k.each e e-in in
      let angle : angle_at w₀ d a ≡ angle_at w₀ d e = sym i.angle ∙ ap (λ (l : List ℕ). get_or l 0 0) s ∙ j.angle in
      record {
        first = h;
        second = ⊎_elim
            (λ (x : get_or w₀ e 0 ≡ 1). x)
            (λ (x : get_or w₀ e 0 ≡ 1 → ⊥). absurd (omega (arith, angle, present_below w₀ d a h, absent_above w₀ d e x)))
            (same_or (get_or w₀ e 0) 1);
        x = sym i.first ∙ ap (λ (l : List ℕ). get_or l 1 0) s ∙ j.first;
        y = sym i.second ∙ ap (λ (l : List ℕ). get_or l 2 0) s ∙ j.second;
      }

-- ---- an order by these words

pub keyed_together : {w₀ w : List ℕ} {d : ℕ} {order : ℕ → ℕ} → Keys w₀ w d → ((p : ℕ) → p < d → order p < d)
    → ((p r q : ℕ) → p ≤ r → r ≤ q → q < d → words_of w d (order p) ≡ words_of w d (order q) → words_of w d (order p) ≡ words_of w d (order r))
    → ((p q : ℕ) → p < q → q < d → words_of w d (order p) ≡ words_of w d (order q) → order p < order q) → Together w₀ d order
keyed_together {w₀} {w} {d} {order} k inside between ascending p q h l s =
    let a = same_keyed k (order p) (order q) (inside p (omega arith)) (inside q l) s in
    let b = between p (q - 1) q (omega arith) (omega arith) l a in
    let t = keyed_same k (order p) (order (q - 1)) (inside p (omega arith)) (inside (q - 1) (omega arith)) s.first b in
    (record { first = t.second; second = s.second; x = sym t.x ∙ s.x; y = sym t.y ∙ s.y }, ascending (q - 1) q (omega arith) l (sym b ∙ a))
