-- The words of keys told apart, and the bucket of a key.
use Prim.Native.Nat.{ℕ, ◌*◌, ◌/◌, ◌<◌}
use mathlib.Core.Path.{◌≡◌, refl, sym, ap, ◌∙◌}
use mathlib.Core.Bool.{Bool, true, false, ◌&&◌, and-eq-true_iff}
use native.Mathlib.Omega.{arith}
use native.Mathlib.Nat.{div-lt_iff_lt-mul, mul-lt-mul_of_pos_right}
use lib.Dec.{eqb}
use borrow.Author.Tests.{eqb-true, eq-eqb}
use Rattle.chain_grouping.specs.Group.{Words, words, same_words}

pub same_true : (a b : Words) → same_words a b ≡ true → a ≡ b
unfolding same_words
same_true (words g x y) (words h u v) t =
    let s = (and-eq-true_iff (eqb g h) (eqb x u && eqb y v)).0 t in
    let r = (and-eq-true_iff (eqb x u) (eqb y v)).0 s.1 in
    cc (eqb-true g h s.0, eqb-true x u r.0, eqb-true y v r.1)

pub same_refl : (a : Words) → same_words a a ≡ true
unfolding same_words
same_refl (words g x y) = rw (eq-eqb g g refl, eq-eqb x x refl, eq-eqb y y refl)

pub same_of : (a b : Words) → a ≡ b → same_words a b ≡ true
same_of a b q = ap (same_words a) (sym q) ∙ same_refl a

pub same_false : (a b : Words) → same_words a b ≡ false → a ≡ b → ⊥
same_false a b h q = let z : ◌≡◌ {A = Bool} true false = sym (same_of a b q) ∙ h in let y : ◌≡◌ {A = ℕ} 0 1 = cc in omega arith

pub other_false : (a b : Words) → (a ≡ b → ⊥) → same_words a b ≡ false
other_false a b h = go (same_words a b) refl
  where
    go : (t : Bool) → same_words a b ≡ t → t ≡ false
    go true q = absurd (h (same_true a b q))
    go false q = refl

-- a part of k
pub part_below : (t k : ℕ) → t < 4294967296 → 0 < k → t * k / 4294967296 < k
part_below t k h p = (div-lt_iff_lt-mul {k = 4294967296} (omega arith)).1 (omega (arith, mul-lt-mul_of_pos_right h p))
