-- One number more of a copy: of floats as bits, and of words taken out.
use Prim.Native.Nat.{ℕ, zero, suc, ◌+◌, ◌≤◌, ◌<◌}
use mathlib.Core.Path.{◌≡◌, refl, sym, ◌∙◌, ap, subst}
use mathlib.Core.List.{List, [], ◌∷◌, map}
use native.Mathlib.Omega.{arith}
use lib.Dec.{T}
use lib.Ieee.{Float, nan, binary64, fits}
use lib.ListN.{length, get_or, set, take, length-map}
use lib.Seq.{slice}
use Rattle.rules.specs.Plane.{float}
use Rattle.float_bits.specs.Bits.{bits_of}
use Rattle.float_bits.proofs.Kept.{of_bits_of}
use Rattle.point_slices.specs.Holds.{HoldsFrom}
use Rattle.point_slices.proofs.Laws.{copy_more, part_length}
use Rattle.pair_ends.proofs.Reading.{get_d_slice}

-- ---- words

word_at : {A : Type 0} (f : A → ℕ) (l : List A) (i : ℕ) (x : A) → i < length l → x ≡ get_or l i x → get_or (map f l) i 0 ≡ f x
word_at f [] i x h e = absurd (omega arith)
word_at f (y ∷ l) zero x h e = ap f (sym e)
word_at f (y ∷ l) (suc i) x h e = word_at f l i x (omega arith) e

pub word_more : {A : Type 0} (f : A → ℕ) (w w₀ : List ℕ) (l : List A) (at i : ℕ) (x : A) (v : ℕ) → HoldsFrom w w₀ at i (take i (map f l)) → at + length l ≤ length w₀
    → i < length l → x ≡ get_or l i x → v ≡ f x → HoldsFrom (set w (at + i) v) w₀ at (i + 1) (take (i + 1) (map f l))
word_more f w w₀ l at i x v h room k e s =
    subst (λ (u : ℕ). HoldsFrom (set w (at + i) u) w₀ at (i + 1) (take (i + 1) (map f l))) (word_at f l i x k e ∙ sym s)
    (copy_more w w₀ (map f l) at i h (omega (arith, length-map l f)) (omega (arith, length-map l f)))

pub words_same : (l : List ℕ) → map (λ n. n) l ≡ l
words_same [] = refl
words_same (x ∷ l) = ap {B = List ℕ} (λ r. x ∷ r) (words_same l)

-- ---- floats as bits

-- floats of 64 bits, read back from their bits
pub floats_kept : (l : List Float) → ((i : ℕ) → T (fits binary64 (get_or l i nan))) → map float (map bits_of l) ≡ l
floats_kept [] h = refl
floats_kept (x ∷ l) h =
    ap {B = List Float} (λ r. float (bits_of x) ∷ r) (floats_kept l (λ i. h (suc i)))
    ∙ ap {B = List Float} (λ y. y ∷ l) (of_bits_of x (h 0))

-- ---- words taken out

module _ (p p₀ w : List ℕ) (at n i : ℕ) (h : HoldsFrom p p₀ 0 i (take i (slice at (at + n) w))) (within : at + n ≤ length w) (room : n ≤ length p₀) where
  pub words_more : i < n → HoldsFrom (set p i (get_or w (at + i) 0)) p₀ 0 (i + 1) (take (i + 1) (slice at (at + n) w))
  words_more k =
      let z : 0 + i ≡ i = omega arith in
      let long : length (slice at (at + n) w) ≡ n = part_length at n w within in
      subst (λ (j : ℕ). HoldsFrom (set p j (get_or w (at + i) 0)) p₀ 0 (i + 1) (take (i + 1) (slice at (at + n) w))) z
      (subst (λ (v : ℕ). HoldsFrom (set p (0 + i) v) p₀ 0 (i + 1) (take (i + 1) (slice at (at + n) w))) (get_d_slice at (at + n) w i (omega arith))
      (copy_more p p₀ (slice at (at + n) w) 0 i h (omega arith) (omega arith)))
