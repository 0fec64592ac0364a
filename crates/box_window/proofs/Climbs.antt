-- The highest box that begins where a box does, level by level: as many levels up as its number has zeros behind its last one.
use Prim.Native.Nat.{ℕ, zero, suc, ◌+◌, ◌*◌, ◌/◌, ◌%◌, ◌^◌, ◌≤◌, ◌<◌}
use mathlib.Core.Path.{◌≡◌, sym, ap, ap₂, ◌∙◌}
use native.Mathlib.Omega.{arith}
use native.Mathlib.Nat.{div-div-eq-div-mul, pow-suc}
use borrow.Author.Tests.{eq-eqb, ne_eqb}
use mir.Syntax.{w64}
use Rattle.std.specs.Int.{bit_at, trailing_zeros}
use Rattle.std.proofs.lemmas.Nat.Bits.{bit_at_lowest, bit_at-suc, bit_at-trailing_zeros}
use Rattle.box_window.specs.Levels.{place, highest}

doubled : (m : ℕ) → 2 * 2 ^ m ≡ 2 ^ suc m
doubled m = rw pow-suc (omega arith)

-- m zeros, and behind them a one unless f levels are climbed
climb : (f l i m : ℕ) → m ≤ f → ((t : ℕ) → t < m → bit_at i t ≡ 0) → (m < f → bit_at i m ≡ 1) → highest f l i ≡ place (l + m) (i / 2 ^ m)
unfolding highest
climb zero l i zero h z o = let e : l ≡ l + 0 = omega arith in let d : i ≡ i / 1 = omega arith in ap₂ place e d
climb zero l i (suc m) h z o = absurd (omega arith)
climb (suc f) l i zero h z o =
    let odd : i % 2 ≡ 1 = sym (bit_at_lowest i) ∙ o (omega arith) in
    let e : l ≡ l + 0 = omega arith in
    let d : i ≡ i / 1 = omega arith in
    rw (eq-eqb (i % 2) 1 odd, highest) (ap₂ place e d)
climb (suc f) l i (suc m) h z o =
    let even : i % 2 ≡ 0 = sym (bit_at_lowest i) ∙ z 0 (omega arith) in
    let e : suc l + m ≡ l + suc m = omega arith in
    let two : 2 * 2 ^ m ≡ 2 ^ suc m = doubled m in
    let d : i / 2 / 2 ^ m ≡ i / 2 ^ suc m = div-div-eq-div-mul i 2 (2 ^ m) ∙ ap (λ (k : ℕ). i / k) two in
    rw (ne_eqb (i % 2) 1 (λ q. omega arith), highest)
    (climb f (suc l) (i / 2) m (omega arith) (λ t u. sym (bit_at-suc i t) ∙ z (suc t) (omega arith)) (λ u. sym (bit_at-suc i m) ∙ o (omega arith)) ∙ ap₂ place e d)

pub climbed : (f l i m : ℕ) → 0 < i → i < 2 ^ 64 → m ≤ f → m ≤ trailing_zeros w64 i → (m < f → m ≡ trailing_zeros w64 i) → place (l + m) (i / 2 ^ m) ≡ highest f l i
climbed f l i m p q h k e =
    let b = bit_at-trailing_zeros w64 i p q in
    sym (climb f l i m h (λ t u. b.2 t (omega arith)) (λ u. ap (bit_at i) (e u) ∙ b.1))
