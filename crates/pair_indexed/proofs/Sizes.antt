-- The trees' sizes: the least power of two that is no less than the number of things, so that it is below twice that number, or 1.
use Prim.Native.Nat.{ℕ, ◌*◌, ◌/◌, ◌^◌, ◌≤◌, ◌<◌, max}
use mathlib.Core.Path.{◌≡◌, ◌∙◌, ap}
use mathlib.Core.Logic.{inl, inr, ⊎_elim}
use native.Mathlib.Omega.{arith}
use native.Mathlib.Nat.{one-le-pow}
use Rattle.std.specs.Int.{IsPowerOfTwo}
use Rattle.std.proofs.lemmas.Nat.{pow_below}
use Rattle.std.proofs.Math.Pow.{pow_mono}
use lib.Pow.{pow_pos}
use Rattle.pair_tree.proofs.Flat.{below_or, twice}
use Rattle.pair_indexed.specs.declared.Size.{Size}
use Rattle.pair_indexed.specs.Route.{Sized}
use Rattle.pair_indexed.specs.Start.{Fits}

-- a power of two between a power and twice that power is that power
same_power : (k h : ℕ) → 2 ^ h ≤ 2 ^ k → 2 ^ k < 2 * 2 ^ h → k ≡ h
same_power k h p q =
    ⊎_elim
    (λ (l : k < h). absurd (omega (arith, pow_below k h l)))
    (λ (l : h ≤ k). ⊎_elim (λ (m : h < k). absurd (omega (arith, pow_mono m, twice h))) (λ (m : k ≤ h). omega arith) (below_or h k))
    (below_or k h)

pub fits : {n base height : ℕ} → IsPowerOfTwo base → n ≤ base → base / 2 < max 1 n → 2 ^ height ≤ base → base < 2 * 2 ^ height
    → Fits n (record { base = base; height = height })
fits {n} {base} {height} power low high p q =
    record {
      power = power.1 ∙ ap (λ (k : ℕ). 2 ^ k) (same_power power.0 height (omega (arith, p, power.1)) (omega (arith, q, power.1)));
      few = low;
      most =
          ⊎_elim
          (λ (l : 1 < base). inr (omega (arith, high)))
          (λ (l : base ≤ 1). inl (omega (arith, power.1, pow_pos power.0)))
          (below_or 1 base);
    }

-- ---- the sizes for d ends and m owners

pub sized : {d m : ℕ} {a b : Size} → 0 < d → m ≤ d → Fits d a → Fits m b → Sized d a.height b.base
sized {d} {m} {a} {b} z h f g =
    record {
      few = omega (arith, f.few, f.power);
      most = ⊎_elim (λ (e : a.base ≡ 1). omega (arith, f.power)) (λ (e : a.base ≤ 2 * d). omega (arith, f.power)) f.most;
      some = ⊎_elim (λ (e : b.base ≡ 1). omega arith) (λ (e : b.base ≤ 2 * m). positive b.height g.power) g.most;
      narrow = ⊎_elim (λ (e : b.base ≡ 1). omega arith) (λ (e : b.base ≤ 2 * m). omega arith) g.most;
    }
  where
    positive : (k : ℕ) → b.base ≡ 2 ^ k → 0 < b.base
    positive k e = omega (arith, one-le-pow k 2 (omega arith))
