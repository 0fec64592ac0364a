-- Whether a chain's point is another than the one before it, by their numbers.
use Prim.Native.Nat.{ℕ, zero, suc, ◌+◌, ◌-◌, ◌*◌, ◌≤◌, ◌<◌}
use mathlib.Core.Path.{◌≡◌, refl, sym, ap, ap₂, ◌∙◌}
use mathlib.Core.Bool.{Bool, false, not, ◌&&◌}
use mathlib.Core.List.{List}
use native.Mathlib.Omega.{arith}
use native.Mathlib.Nat.{div-le_of_le-mul}
use lib.ListN.{length, get_or, length-drop}
use borrow.Author.Tests.{lt-ltb, le-ltb}
use Rattle.rules.specs.Plane.{Point, point, points, equal}
use Rattle.point_numbers.specs.Width.{point_at, Whole}
use Rattle.point_numbers.proofs.Points.{at_x, at_y, equal_at, points_length, points_at}
use Rattle.check_laws.specs.Standing.{fresh_at}
use Rattle.check_places.proofs.Reading.{point_there}

pub fresh_first : (chain : List Point) (i : ℕ) → i ≡ 0 → false ≡ fresh_at chain i
unfolding fresh_at
fresh_first chain zero e = refl
fresh_first chain (suc k) e = absurd (omega arith)

module _ (w : ℕ) (chain : List ℕ) (two : 2 ≤ w) (h : Whole w chain) where
  abbrev t : List Point
  t = points w chain

  pub fresh_beyond : (i : ℕ) → (i ≡ 0 → ⊥) → length chain ≤ i * w → false ≡ fresh_at t i
  unfolding fresh_at
  fresh_beyond zero d b = absurd (d refl)
  fresh_beyond (suc k) d b =
      let n : length t ≤ suc k = omega (arith, points_length w chain, div-le_of_le-mul w {m = length chain} {n = suc k} (turned (suc k) b)) in
      sym (ap (λ (x : Bool). x && not (equal (get_or t k (point 0 0)) (get_or t (suc k) (point 0 0)))) (le-ltb (suc k) (length t) n))
    where
      turned : (a : ℕ) → length chain ≤ a * w → length chain ≤ w * a
      turned a h = omega arith

  there : (k : ℕ) → k * w < length chain → k < length t
  there k b = omega (arith, ap length (point_there w chain two h k b), length-drop k t)

  number : (k : ℕ) → k * w < length chain → get_or t k (point 0 0) ≡ point_at w chain (k * w)
  number k b = points_at w chain k (point 0 0) (omega (arith, there k b, points_length w chain))

  equal_both : (a b : ℕ) → equal (point_at w chain a) (point_at w chain b) ≡ equal (point (get_or chain a 0) (get_or chain (a + 1) 0)) (point (get_or chain b 0) (get_or chain (b + 1) 0))
  unfolding equal
  equal_both a b =
      equal_at w two (point_at w chain a) chain b
      ∙ ap₂ (λ (x y : ℕ). equal (point x y) (point (get_or chain b 0) (get_or chain (b + 1) 0))) (at_x w two chain a) (at_y w two chain a)

  pub fresh_there : (i : ℕ) → (i ≡ 0 → ⊥) → i * w < length chain
      → not (equal (point (get_or chain (i * w - w) 0) (get_or chain (i * w - w + 1) 0)) (point (get_or chain (i * w) 0) (get_or chain (i * w + 1) 0))) ≡ fresh_at t i
  unfolding fresh_at
  fresh_there zero d b = absurd (d refl)
  fresh_there (suc k) d b =
      let e : suc k * w - w ≡ k * w = before k w in
      let c : k * w < length chain = omega (arith, less k w) in
      ap (λ (j : ℕ). not (equal (point (get_or chain j 0) (get_or chain (j + 1) 0)) (point (get_or chain (suc k * w) 0) (get_or chain (suc k * w + 1) 0)))) e
      ∙ ap not (sym (ap₂ equal (number k c) (number (suc k) b) ∙ equal_both (k * w) (suc k * w)))
      ∙ ap (λ (x : Bool). x && not (equal (get_or t k (point 0 0)) (get_or t (suc k) (point 0 0)))) (sym (lt-ltb (suc k) (length t) (there (suc k) b)))
    where
      before : (k w : ℕ) → suc k * w - w ≡ k * w
      before k w = let f : suc k * w ≡ k * w + w = omega arith in omega arith

      less : (k w : ℕ) → k * w ≤ suc k * w
      less k w = omega arith
