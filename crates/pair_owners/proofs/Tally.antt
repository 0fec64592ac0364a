-- How many of the numbers below n pass a test.
use Prim.Native.Nat.{ℕ, zero, suc, ◌+◌, ◌-◌, ◌≤◌, ◌<◌}
use mathlib.Core.Path.{◌≡◌, refl, ◌∙◌, ap}
use lib.Dec.{eqb}
use borrow.Author.Tests.{eq-eqb, ne_eqb}
use mathlib.Core.Bool.{Bool, true, false, not, ◌&&◌}
use mathlib.Core.Logic.{⊎_elim}
use native.Mathlib.Omega.{arith}
use Rattle.rules.specs.Lists.{one}
use Rattle.pair_laws.proofs.Order.{and_right}
use Rattle.pair_tree.proofs.Flat.{same_or}
use Rattle.pair_owners.specs.Owners.{tally}

one_true : {b : Bool} → b ≡ true → one b ≡ 1
one_true e = ap one e

one_le : (b c : Bool) → (b ≡ true → c ≡ true) → one b ≤ one c
one_le true c f = omega (arith, one_true (f refl))
one_le false c f = omega arith

one_most : (b : Bool) → one b ≤ 1
one_most true = omega arith
one_most false = omega arith

module _ (f g : ℕ → Bool) where
  -- what passes f passes g
  pub tally_le : (n : ℕ) → ((p : ℕ) → p < n → f p ≡ true → g p ≡ true) → tally f n ≤ tally g n
  unfolding tally
  tally_le zero h = omega arith
  tally_le (suc n) h = omega (arith, one_le (f n) (g n) (h n (omega arith)), tally_le n (λ p l. h p (omega arith)))

  -- but x
  pub tally_but : (n x : ℕ) → ((p : ℕ) → p < n → (p ≡ x → ⊥) → f p ≡ true → g p ≡ true) → tally f n ≤ tally g n + 1
  unfolding tally
  tally_but zero x h = omega arith
  tally_but (suc n) x h =
      ⊎_elim
      (λ (e : n ≡ x). omega (arith, one_most (f n), tally_le n (λ p l. h p (omega arith) (λ w. omega arith))))
      (λ (e : n ≡ x → ⊥). omega (arith, one_le (f n) (g n) (h n (omega arith) e), tally_but n x (λ p l. h p (omega arith))))
      (same_or n x)

  -- what passes f passes g, and x passes g alone
  pub tally_less : (n x : ℕ) → x < n → f x ≡ false → g x ≡ true → ((p : ℕ) → p < n → f p ≡ true → g p ≡ true) → tally f n + 1 ≤ tally g n
  unfolding tally
  tally_less zero x h a b k = absurd (omega arith)
  tally_less (suc n) x h a b k =
      ⊎_elim
      (λ (e : n ≡ x).
      let u : one (f n) ≡ 0 = ap (λ (y : ℕ). one (f y)) e ∙ ap one a in
      let v : one (g n) ≡ 1 = ap (λ (y : ℕ). one (g y)) e ∙ one_true b in
      omega (arith, tally_le n (λ p l. k p (omega arith))))
      (λ (e : n ≡ x → ⊥).
      omega (arith, one_le (f n) (g n) (k n (omega arith)), tally_less n x (omega arith) a b (λ p l. k p (omega arith))))
      (same_or n x)

module _ (f : ℕ → Bool) where
  -- k at most pass, since they are among k numbers
  pub tally_within : (a k n : ℕ) → ((p : ℕ) → p < n → f p ≡ true → (a ≤ p) × (p < a + k)) → tally f n ≤ k
  unfolding tally
  tally_within a k zero h = omega arith
  tally_within a k (suc n) h = go (f n) refl (tally_within a k n) (tally_within a (n - a) n)
    where
      go : (c : Bool) → f n ≡ c → (((p : ℕ) → p < n → f p ≡ true → (a ≤ p) × (p < a + k)) → tally f n ≤ k)
          → (((p : ℕ) → p < n → f p ≡ true → (a ≤ p) × (p < a + (n - a))) → tally f n ≤ n - a) → one (f n) + tally f n ≤ k
      go false e ih ih' = let z : one (f n) ≡ 0 = ap one e in omega (arith, ih (λ p l. h p (omega arith)))
      go true e ih ih' =
          let t = h n (omega arith) e in
          let i = ih' (λ p l y. ((h p (omega arith) y).0, omega (arith, (h p (omega arith) y).0))) in
          omega (arith, one_most (f n), t.0, t.1, i)

  pub tally_more : (n m : ℕ) → n ≤ m → tally f n ≤ tally f m
  unfolding tally
  tally_more n zero h = let e : n ≡ 0 = omega arith in rw e (omega arith)
  tally_more n (suc m) h =
      ⊎_elim (λ (e : n ≡ suc m). rw e (omega arith)) (λ (e : n ≡ suc m → ⊥). omega (arith, tally_more n m (omega arith))) (same_or n (suc m))

  pub tally_next : (n : ℕ) → f n ≡ true → tally f (n + 1) ≡ tally f n + 1
  unfolding tally
  tally_next n e = ap (tally f) again ∙ omega (arith, one_true e)
    where
      again : n + 1 ≡ suc n
      again = omega arith

  -- the last that passes
  last : (n : ℕ) → 0 < tally f n → (b : ℕ) × (b < n) × (f b ≡ true) × (tally f n ≡ tally f b + 1)
  unfolding tally
  last zero h = absurd (omega arith)
  last (suc n) h = go (f n) refl (last n)
    where
      go : (c : Bool) → f n ≡ c → (0 < tally f n → (b : ℕ) × (b < n) × (f b ≡ true) × (tally f n ≡ tally f b + 1))
          → (b : ℕ) × (b < suc n) × (f b ≡ true) × (one (f n) + tally f n ≡ tally f b + 1)
      go true e ih = (n, omega arith, e, omega (arith, one_true e))
      go false e ih =
          let z : one (f n) ≡ 0 = ap one e in
          let t = ih (omega (arith, h)) in
          (t.0, omega (arith, t.1), t.2, omega (arith, t.3))

  pub tally_two : (n : ℕ) → 2 ≤ tally f n → (a b : ℕ) × (a < b) × (b < n) × (f a ≡ true) × (f b ≡ true)
  tally_two n h =
      let t = last n (omega arith) in
      let s = last t.0 (omega (arith, t.3)) in
      (s.0, t.0, s.1, t.1, s.2, t.2)

  -- a run of k that pass
  pub tally_run : (a k : ℕ) → ((p : ℕ) → a ≤ p → p < a + k → f p ≡ true) → k ≤ tally f (a + k)
  tally_run a zero h = omega arith
  tally_run a (suc k) h =
      let e : a + suc k ≡ a + k + 1 = omega arith in
      let i = tally_run a k (λ p x y. h p x (omega arith)) in
      rw (e, tally_next (a + k) (h (a + k) (omega arith) (omega arith))) (omega arith)

  -- three that pass
  pub tally_three : (n a b c : ℕ) → a < n → b < n → c < n → (b ≡ a → ⊥) → (c ≡ a → ⊥) → (c ≡ b → ⊥) → f a ≡ true → f b ≡ true → f c ≡ true → 3 ≤ tally f n
  tally_three n a b c i j k x y z p q r =
      let f₁ = but a f in
      let f₂ = but b f₁ in
      let f₃ = but c f₂ in
      let u = tally_less f₁ f n a i (but_here a f) p (but_is a f n) in
      let v = tally_less f₂ f₁ n b j (but_here b f₁) (but_past a f b x q) (but_is b f₁ n) in
      let w = tally_less f₃ f₂ n c k (but_here c f₂) (but_past b f₁ c z (but_past a f c y r)) (but_is c f₂ n) in
      omega arith
    where
      but : ℕ → (ℕ → Bool) → ℕ → Bool
      but x g e = not (eqb e x) && g e

      but_here : (x : ℕ) (g : ℕ → Bool) → but x g x ≡ false
      but_here x g = rw (eq-eqb x x refl)

      but_past : (x : ℕ) (g : ℕ → Bool) (e : ℕ) → (e ≡ x → ⊥) → g e ≡ true → but x g e ≡ true
      but_past x g e h k = rw (ne_eqb e x h, k)

      but_is : (x : ℕ) (g : ℕ → Bool) (n e : ℕ) → e < n → but x g e ≡ true → g e ≡ true
      but_is x g n e l h = and_right (not (eqb e x)) (g e) h
