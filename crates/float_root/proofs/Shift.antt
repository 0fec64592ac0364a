-- A number brought to 53 binary digits, and an even power of two taken out of a radicand.
use mathlib.Core.Path.{◌≡◌, refl, sym, ap, ◌∙◌}
use Prim.Native.Nat.{ℕ, zero, suc, ◌+◌, ◌-◌, ◌*◌, ◌/◌, ◌%◌, ◌^◌, ◌≤◌, ◌<◌}
use native.Mathlib.Nat.{mul_assoc, lt_of_not-le, le_of_suc-le-suc, mul-le-mul_right, mul-le-mul_left, mul-zero, mul-one, lt_of_le_of_lt, mul-lt-mul_of_pos_right}
use native.Mathlib.Omega.{arith}
use lib.Count.{count_leading_zeros}
use lib.Pow.{pow-add, pow_pos}
use Rattle.std.proofs.lemmas.Nat.{leading_top}
use Rattle.float_whole_root.specs.Near.{Near}
use Rattle.float_whole_root.proofs.Squares.{sq_mono}
use Rattle.float_root.proofs.Size.{pow_back, four}

-- a number of at most 53 binary digits is brought to 53 by its leading zeros among 64
pub record Leads (m c : ℕ) : Type 0 where
  pub some : 11 ≤ c
  pub few : c - 11 ≤ 52
  pub least : 2 ^ 52 ≤ m * 2 ^ (c - 11)
  pub short : m * 2 ^ (c - 11) < 2 ^ 53

pub leads : (m : ℕ) → 0 < m → m < 2 ^ 53 → Leads m (count_leading_zeros 64 m)
leads m o h =
    let t = leading_top 64 m o (omega arith) in
    go (count_leading_zeros 64 m) t.0 (omega (arith, pow_back t.0 53 (lt_of_le_of_lt t.2 h))) t.1 t.2 t.3
  where
    go : (c j : ℕ) → j ≤ 52 → c + suc j ≡ 64 → 2 ^ j ≤ m → m < 2 ^ suc j → Leads m c
    go c j l e a b =
        let s = c - 11 in
        let f : j + s ≡ 52 = omega arith in
        let g : suc j + s ≡ 53 = omega arith in
        let p : 2 ^ j * 2 ^ s ≡ 2 ^ 52 = sym (pow-add 2 j s) ∙ ap (λ (x : ℕ). 2 ^ x) f in
        let q : 2 ^ suc j * 2 ^ s ≡ 2 ^ 53 = sym (pow-add 2 (suc j) s) ∙ ap (λ (x : ℕ). 2 ^ x) g in
        record {
          some = omega arith;
          few = omega arith;
          least = omega (arith, p, mul-le-mul_right (2 ^ s) a);
          short = omega (arith, q, mul-lt-mul_of_pos_right b (pow_pos s));
        }

-- m * 2 ^ j with 2 ^ (2 * k) taken out, and 2 ^ p left in
pub taken_out : (p k s j m b : ℕ) → b ≡ m * 2 ^ s → j ≡ s + (p + (k + k)) → m * 2 ^ j ≡ b * 2 ^ p * 4 ^ k
taken_out p k s j m b e f =
    ap (λ (x : ℕ). m * 2 ^ x) f
    ∙ ap (λ (x : ℕ). m * x) (pow-add 2 s (p + (k + k)) ∙ ap (λ (x : ℕ). 2 ^ s * x) (pow-add 2 p (k + k)))
    ∙ sym (mul_assoc m (2 ^ s) (2 ^ p * 2 ^ (k + k)))
    ∙ ap (λ (x : ℕ). x * (2 ^ p * 2 ^ (k + k))) (sym e)
    ∙ sym (mul_assoc b (2 ^ p) (2 ^ (k + k)))
    ∙ ap (λ (x : ℕ). b * 2 ^ p * x) (sym (four k))

-- the root of 105 or 106 digits has 53, or it is 2 ^ 53
pub at_least : (c r : ℕ) → Near c r → 2 ^ 104 ≤ c → 2 ^ 52 ≤ r
at_least c r p h = le_of_suc-le-suc (lt_of_not-le (λ (g : suc r ≤ 2 ^ 52). no g))
  where
    no : suc r ≤ 2 ^ 52 → ⊥
    no g = let l : r ≤ (2 ^ 52 - 1) = omega arith in omega (arith, sq_mono l)

pub at_most : (c r : ℕ) → Near c r → c < 2 ^ 106 → r ≤ 2 ^ 53
at_most c r p h = le_of_suc-le-suc (lt_of_not-le (λ (g : suc (2 ^ 53) ≤ r). no g))
  where
    no : suc (2 ^ 53) ≤ r → ⊥
    no g = omega (arith, mul-le-mul_right r g)

pub taken_out_odd : (k s j m b : ℕ) → b ≡ m * 2 ^ s → j ≡ s + (53 + (k + k)) → m * 2 ^ j ≡ b * 2 * 2 ^ 52 * 4 ^ k
taken_out_odd k s j m b e f = taken_out 53 k s j m b e f ∙ ap (λ (x : ℕ). x * 4 ^ k) (sym (mul_assoc b 2 (2 ^ 52)))

-- either way in one expression
pub taken_either : (s j m b : ℕ) → b ≡ m * 2 ^ s → s + 52 ≤ j → m * 2 ^ j ≡ (b + b * ((j - s) % 2)) * 2 ^ 52 * 4 ^ ((j - s - 52) / 2)
taken_either s j m b e f = go ((j - s) % 2) refl
  where
    go : (p : ℕ) → (j - s) % 2 ≡ p → m * 2 ^ j ≡ (b + b * ((j - s) % 2)) * 2 ^ 52 * 4 ^ ((j - s - 52) / 2)
    go zero h =
        let w : b ≡ b + b * ((j - s) % 2) = omega (arith, ap (λ (x : ℕ). b * x) h, mul-zero b) in
        taken_out 52 ((j - s - 52) / 2) s j m b e (omega arith) ∙ ap (λ (x : ℕ). x * 2 ^ 52 * 4 ^ ((j - s - 52) / 2)) w
    go (suc zero) h =
        let w : b * 2 ≡ b + b * ((j - s) % 2) = omega (arith, ap (λ (x : ℕ). b * x) h, mul-one b) in
        taken_out_odd ((j - s - 52) / 2) s j m b e (omega arith) ∙ ap (λ (x : ℕ). x * 2 ^ 52 * 4 ^ ((j - s - 52) / 2)) w
    go (suc (suc p)) h = absurd (omega arith)

pub at_most_twice : (b h : ℕ) → b * (h % 2) ≤ b
at_most_twice b h = let l : h % 2 ≤ 1 = omega arith in omega (arith, mul-le-mul_left b l)
