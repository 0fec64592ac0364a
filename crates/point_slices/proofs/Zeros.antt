-- Zeros, 32 at a time: where the numbers are zero already, nothing has to be written.
use Prim.Native.Nat.{ℕ, zero, suc, ◌+◌, ◌-◌, ◌≤◌, ◌<◌}
use mathlib.Core.Path.{◌≡◌, refl, sym, ap, ap₂, ◌∙◌, subst}
use mathlib.Core.List.{List, [], ◌∷◌, ◌++◌}
use native.Mathlib.Omega.{arith}
use native.Mathlib.Nat.{le_of_suc-le-suc, not-suc-le-zero}
use native.Mathlib.Decide.{dec_lt}
use lib.Bits.{bit_or, or_add_and, and_le_l, and_le_r}
use lib.ListN.{length, take, drop, get_or, replicate, take-append-drop, length-drop, replicate-append-replicate}
use lib.Seq.{drop-drop, get_or-drop, get_or-take, length-take-le}
use lib.Dec.{eqb}
use borrow.Author.Tests.{eqb-true, eqb-false}
use Rattle.std.specs.Prelude.{fold}
use Rattle.rules.specs.Calls.{cleared}
use Rattle.point_slices.specs.Holds.{HoldsFrom, Blanks}
use Rattle.point_slices.proofs.Laws.{from_then}

-- ---- numbers that are zero

or_none : (a b : ℕ) → bit_or a b ≡ 0 → (a ≡ 0) × (b ≡ 0)
or_none a b e = (omega (arith, or_add_and a b, and_le_l a b, and_le_r a b), omega (arith, or_add_and a b, and_le_l a b, and_le_r a b))

or_left_none : (a b : ℕ) → a ≡ 0 → bit_or a b ≡ b
or_left_none a b e = omega (arith, or_add_and a b, and_le_l a b, and_le_r a b)

-- numbers are zero where what they make together is, and one of them is not where it is not
together : ℕ → List ℕ → ℕ
together a l = fold bit_or a l

all_none : (l : List ℕ) (a : ℕ) → together a l ≡ 0 → (a ≡ 0) × ((j : ℕ) → j < length l → get_or l j 0 ≡ 0)
unfolding together
all_none [] a e = (e, λ j h. absurd (not-suc-le-zero h))
all_none (x ∷ l) a e =
    let t = all_none l (bit_or a x) e in
    let n = or_none a x t.0 in
    (n.0, λ j h. at j h n.1 t.1)
  where
    at : (j : ℕ) → j < suc (length l) → x ≡ 0 → ((j : ℕ) → j < length l → get_or l j 0 ≡ 0) → get_or (x ∷ l) j 0 ≡ 0
    at zero h z t = z
    at (suc j) h z t = t j (le_of_suc-le-suc h)

some_other : (l : List ℕ) (a : ℕ) → (together a l ≡ 0 → ⊥) → a ≡ 0 → (j : ℕ) × (j < length l) × (get_or l j 0 ≡ 0 → ⊥)
unfolding together
some_other [] a n z = absurd (n z)
some_other (x ∷ l) a n z =
    elim (dec_lt 0 x) [
      | yes h ↦ (0, omega arith, λ e. absurd (omega arith))
      | no h ↦
          let o : x ≡ 0 = omega arith in
          let t = some_other l (bit_or a x) n (or_left_none a x z ∙ o) in
          (suc t.0, omega (arith, t.1), t.2)
    ]

-- k numbers from i on
abbrev pub Blank : List ℕ → ℕ → ℕ → Type 0
Blank w i k = (j : ℕ) → j < k → get_or w (i + j) 0 ≡ 0

module _ (w : List ℕ) (i : ℕ) (room : i + 32 ≤ length w) where
  long : length (take 32 (drop i w)) ≡ 32
  long = length-take-le 32 (drop i w) (simp length-drop (omega arith))

  there : (j : ℕ) → j < 32 → get_or (take 32 (drop i w)) j 0 ≡ get_or w (i + j) 0
  there j h = get_or-take 32 (drop i w) j 0 h ∙ get_or-drop i w j 0

  pub blanks : (n r : ℕ) → n ≡ 32 → r ≡ fold bit_or 0 (take n (drop i w)) → Blanks w i 32 (eqb r 0)
  unfolding together
  blanks n r s f = let e : r ≡ fold bit_or 0 (take 32 (drop i w)) = f ∙ ap (λ (m : ℕ). fold bit_or 0 (take m (drop i w))) s in record {
    zeros = λ z j h. sym (there j h) ∙ (all_none (take 32 (drop i w)) 0 (sym e ∙ eqb-true r 0 z)).1 j (omega (arith, long));
    other = λ n. let t = some_other (take 32 (drop i w)) 0 (λ z. eqb-false r 0 n (e ∙ z)) refl in
        let h : t.0 < 32 = omega (arith, t.1, long) in
        (t.0, h, λ z. t.2 (there t.0 h ∙ z));
  }

zero_run : (l : List ℕ) (k : ℕ) → k ≤ length l → ((j : ℕ) → j < k → get_or l j 0 ≡ 0) → l ≡ replicate k 0 ++ drop k l
zero_run l zero h z = refl
zero_run [] (suc k) h z = absurd (not-suc-le-zero h)
zero_run (x ∷ l) (suc k) h z = ap₂ {C = List ℕ} (λ (a : ℕ) (b : List ℕ). a ∷ b) (z 0 (omega arith)) (zero_run l k (le_of_suc-le-suc h) (λ j b. z (suc j) (omega arith)))

pub blank_holds : (w : List ℕ) (i : ℕ) → i + 32 ≤ length w → Blank w i 32 → HoldsFrom w w i 32 (replicate 32 0)
blank_holds w i h b =
    record {
      count = refl;
      list = sym (take-append-drop i w)
          ∙ ap (λ (t : List ℕ). take i w ++ t)
          (zero_run (drop i w) 32 (simp length-drop (omega arith)) (λ j l. get_or-drop i w j 0 ∙ b j l) ∙ ap (λ (t : List ℕ). replicate 32 0 ++ t) (drop-drop 32 i w));
    }

-- ---- one part behind another

pub wiped_more : {w'' w' w : List ℕ} {r n : ℕ} → HoldsFrom w' w 0 r (replicate r 0) → r ≤ length w → HoldsFrom w'' w' r n (replicate n 0) → HoldsFrom w'' w 0 (r + n) (replicate (r + n) 0)
wiped_more {w''} {w'} {w} {r} {n} h k s =
    let e : 0 + r ≡ r = omega arith in
    subst (λ (l : List ℕ). HoldsFrom w'' w 0 (r + n) l) (replicate-append-replicate r n 0)
    (from_then h (omega arith) (subst (λ (a : ℕ). HoldsFrom w'' w' a n (replicate n 0)) (sym e) s))

pub wiped_whole : {w' w : List ℕ} {n : ℕ} → HoldsFrom w' w 0 n (replicate n 0) → w' ≡ cleared n w
unfolding cleared
wiped_whole {w'} {w} {n} h = let e : 0 + n ≡ n = omega arith in h.list ∙ ap (λ (k : ℕ). replicate n 0 ++ drop k w) e

pub wiped_done : {w'' w' w : List ℕ} {r n : ℕ} → HoldsFrom w' w 0 r (replicate r 0) → r ≤ n → n ≤ length w → HoldsFrom w'' w' r (n - r) (replicate (n - r) 0) → w'' ≡ cleared n w
wiped_done {w''} {w'} {w} {r} {n} h k l s =
    let e : r + (n - r) ≡ n = omega arith in
    wiped_whole (subst (λ (m : ℕ). HoldsFrom w'' w 0 m (replicate m 0)) e (wiped_more h (omega arith) s))
