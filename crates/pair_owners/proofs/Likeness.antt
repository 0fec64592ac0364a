-- Two ends are alike where all tests of `alike_at` pass, and then they are `Like`.
use Prim.Native.Nat.{ℕ, ◌+◌, ◌-◌, ◌*◌, ◌<◌}
use mathlib.Core.Path.{◌≡◌, sym, ap, ◌∙◌}
use mathlib.Core.Bool.{Bool, true, false, cond, ◌&&◌}
use mathlib.Core.List.{List}
use native.Mathlib.Nat.{pos_of_ne-zero}
use native.Mathlib.Omega.{arith}
use lib.Dec.{eqb, ltb}
use lib.ListN.{get_or}
use borrow.Author.Tests.{eqb-true, ltb-true, lt-ltb, le-ltb}
use Rattle.pair_laws.proofs.Order.{and_left, and_right}
use Rattle.pair_ends.specs.Ends.{EndsRoom, ends_in}
use Rattle.pair_owners.specs.Tables.{order_at, group_at, Like, alike_at, group_of}
use Rattle.pair_owners.proofs.Turns.{like}

module _ (w : List ℕ) (d a e : ℕ) where
  pub alike_like : EndsRoom w d → a < d → e < d → alike_at w d a e ≡ true → Like (ends_in w d) a e
  unfolding alike_at
  alike_like room i j t =
      let first = eqb (get_or w a 0) 1 in
      let second = eqb (get_or w e 0) 1 in
      let x = eqb (get_or w (d + a * 2) 0) (get_or w (d + e * 2) 0) in
      let y = eqb (get_or w (d + a * 2 + 1) 0) (get_or w (d + e * 2 + 1) 0) in
      let past_first = and_right first (second && (x && (y && ltb a e))) t in
      let past-second = and_right second (x && (y && ltb a e)) past_first in
      let past_x = and_right x (y && ltb a e) past-second in
      like w d room a e i j (eqb-true (get_or w a 0) 1 (and_left first (second && (x && (y && ltb a e))) t))
      (eqb-true (get_or w e 0) 1 (and_left second (x && (y && ltb a e)) past_first))
      (eqb-true (get_or w (d + a * 2) 0) (get_or w (d + e * 2) 0) (and_left x (y && ltb a e) past-second))
      (eqb-true (get_or w (d + a * 2 + 1) 0) (get_or w (d + e * 2 + 1) 0) (and_left y (ltb a e) past_x))
      (ltb-true a e (and_right y (ltb a e) past_x))

-- ---- the group at a position

module _ (w : List ℕ) (d p : ℕ) where
  chosen : {b : Bool} → (ltb 0 p && alike_at w d (order_at w d (p - 1)) (order_at w d p)) ≡ b → cond b (group_at w d (order_at w d (p - 1))) p ≡ group_of w d p
  unfolding group_of
  chosen e = ap (λ (t : Bool). cond t (group_at w d (order_at w d (p - 1))) p) (sym e)

  pub group_first : p ≡ 0 → 0 ≡ group_of w d p
  group_first e = sym e ∙ chosen {b = false} (ap (λ (t : Bool). t && alike_at w d (order_at w d (p - 1)) (order_at w d p)) (le-ltb 0 p (omega arith)))

  module _ (some : p ≡ 0 → ⊥) where
    positive : {b : Bool} → alike_at w d (order_at w d (p - 1)) (order_at w d p) ≡ b → (ltb 0 p && alike_at w d (order_at w d (p - 1)) (order_at w d p)) ≡ b
    positive e = ap (λ (t : Bool). t && alike_at w d (order_at w d (p - 1)) (order_at w d p)) (lt-ltb 0 p (pos_of_ne-zero some)) ∙ e

    pub group_alike : {t : Bool} → t ≡ alike_at w d (order_at w d (p - 1)) (order_at w d p) → t ≡ true → group_at w d (order_at w d (p - 1)) ≡ group_of w d p
    group_alike q e = chosen {b = true} (positive (sym q ∙ e))

    pub group_own : {t : Bool} → t ≡ alike_at w d (order_at w d (p - 1)) (order_at w d p) → t ≡ false → p ≡ group_of w d p
    group_own q e = chosen {b = false} (positive (sym q ∙ e))
