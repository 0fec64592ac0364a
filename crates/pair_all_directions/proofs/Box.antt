-- The box around tame directions has finite ends and holds each of them; so a direction beyond it has a key above the limit's with each.
use Prim.Native.Nat.{ℕ, zero, suc, ◌+◌, ◌≤◌, ◌<◌}
use mathlib.Core.Path.{◌≡◌, refl, sym, ◌∙◌, ap, subst}
use mathlib.Core.Bool.{true}
use mathlib.Core.Logic.{⊎_elim}
use native.Mathlib.Omega.{arith}
use lib.Dec.{T}
use lib.Ieee.{Float}
use lib.Ieee.Scale.{finite}
use borrow.Author.Tests.{ltb-true}
use Rattle.rules.specs.Answers.{Direction}
use Rattle.rules.specs.Answers.{Absent, Toward}
use Rattle.float_order.specs.Key.{low_key}
use Rattle.pair_bounds.specs.declared.Bounds.{Bounds}
use Rattle.pair_bounds.specs.Box.{empty_of, point_of, corner_of, Sound, BoxHolds}
use Rattle.pair_bounds.proofs.Union.{empty_sound, point_sound, point_holds, union_sound, union_left, union_right}
use Rattle.pair_bounds.proofs.Bound.{corner_key}
use Rattle.pair_laws.specs.Ends.{key_of}
use Rattle.pair_tree.proofs.Flat.{same_or}
use Rattle.pair_all_directions.specs.Around.{tame, joined_of, around_of, beyond_of}
use Rattle.pair_all_directions.proofs.Scan.{tame_parts}

-- ---- a box and one direction more

joined_sound : (b : Bounds) (a : Direction) → tame a ≡ true → Sound b → Sound (joined_of b a)
unfolding joined_of
joined_sound b Absent t s = s
joined_sound b (Toward x y) t s = let f = tame_parts x y t in union_sound b (point_of x y 0) s (point_sound x y 0 f.0 f.1)

joined_holds : (b : Bounds) (a : Direction) → tame a ≡ true → Sound b → (x y : Float) → BoxHolds b x y → BoxHolds (joined_of b a) x y
unfolding joined_of
joined_holds b Absent t s x y h = h
joined_holds b (Toward u v) t s x y h = let f = tame_parts u v t in union_left b (point_of u v 0) s (point_sound u v 0 f.0 f.1) x y h

joined_own : (b : Bounds) (x y : Float) → tame (Toward x y) ≡ true → Sound b → BoxHolds (joined_of b (Toward x y)) x y
unfolding joined_of
joined_own b x y t s =
    let f = tame_parts x y t in
    union_right b (point_of x y 0) s (point_sound x y 0 f.0 f.1) x y (point_holds x y 0 f.0 f.1)

-- ---- the box around the first n

pub around_none : (way : ℕ → Direction) → empty_of ≡ around_of way 0
unfolding around_of
around_none way = refl

pub around_next : (way : ℕ → Direction) (n : ℕ) {b : Bounds} {a : Direction} {r : Bounds} → b ≡ around_of way n → a ≡ way n → r ≡ joined_of b a → r ≡ around_of way (n + 1)
around_next way n {b} {a} p q e =
    e ∙ ap (λ (z : Bounds). joined_of z a) p ∙ ap (joined_of (around_of way n)) q ∙ sym (ap (around_of way) next ∙ (unfold around_of in refl))
  where
    next : n + 1 ≡ suc n
    next = omega arith

module _ (way : ℕ → Direction) where
  around_sound : (n : ℕ) → ((e : ℕ) → e < n → tame (way e) ≡ true) → Sound (around_of way n)
  unfolding around_of
  around_sound zero t = empty_sound
  around_sound (suc n) t = joined_sound (around_of way n) (way n) (t n (omega arith)) (around_sound n (λ e h. t e (omega arith)))

  around_holds : (n : ℕ) → ((e : ℕ) → e < n → tame (way e) ≡ true) → (e : ℕ) (x y : Float) → e < n → way e ≡ Toward x y → BoxHolds (around_of way n) x y
  unfolding around_of
  around_holds zero t e x y h q = absurd (omega arith)
  around_holds (suc n) t e x y h q =
      let s = around_sound n (λ k l. t k (omega arith)) in
      let last = t n (omega arith) in
      ⊎_elim
      (λ (z : e ≡ n).
      let w : way n ≡ Toward x y = ap way (sym z) ∙ q in
      subst (λ (a : Direction). BoxHolds (joined_of (around_of way n) a) x y) (sym w) (joined_own (around_of way n) x y (ap tame (sym w) ∙ last) s))
      (λ (z : e ≡ n → ⊥).
      joined_holds (around_of way n) (way n) last s x y (around_holds n (λ k l. t k (omega arith)) e x y (omega arith) q))
      (same_or e n)

-- ---- beyond the box

beyond_key : (b : Bounds) (limit : ℕ) (x y : Float) → beyond_of b limit (Toward x y) ≡ true → limit < low_key (corner_of b x y)
unfolding beyond_of
beyond_key b limit x y h = ltb-true limit (low_key (corner_of b x y)) h

above_corner : (b : Bounds) → Sound b → (ax ay bx by : Float) → T (finite ax) × T (finite ay) → T (finite bx) × T (finite by) → BoxHolds b bx by
    → low_key (corner_of b ax ay) ≤ key_of (Toward ax ay) (Toward bx by)
unfolding key_of
above_corner b s ax ay bx by m n h = corner_key b s ax ay bx by m.0 m.1 n.0 n.1 h

pub beyond_above : (way : ℕ → Direction) (d limit : ℕ) → ((e : ℕ) → e < d → tame (way e) ≡ true)
    → ((e : ℕ) → e < d → beyond_of (around_of way d) limit (way e) ≡ true)
    → (i j : ℕ) (ax ay bx by : Float) → i < d → j < d → way i ≡ Toward ax ay → way j ≡ Toward bx by → limit < key_of (way i) (way j)
beyond_above way d limit t f i j ax ay bx by hi hj p q =
    let b = around_of way d in
    let m = tame_parts ax ay (ap tame (sym p) ∙ t i hi) in
    let n = tame_parts bx by (ap tame (sym q) ∙ t j hj) in
    let low = beyond_key b limit ax ay (ap (beyond_of b limit) (sym p) ∙ f i hi) in
    let up = above_corner b (around_sound way d t) ax ay bx by m n (around_holds way d t j bx by hj q) in
    let same : key_of (way i) (way j) ≡ key_of (Toward ax ay) (Toward bx by) = ap (λ (a : Direction). key_of a (way j)) p ∙ ap (key_of (Toward ax ay)) q in
    omega (arith, low, up, same)
