-- Laws of refusal 15: numbers and points are looked at one by one, and what they make together tells whether one of them is no place.
use mathlib.Core.Path.{◌≡◌, refl, sym, ap, ap₂, ◌∙◌}
use mathlib.Core.Bool.{Bool, true, false, not, ◌&&◌}
use mathlib.Core.List.{List, [], ◌∷◌, ◌++◌}
use Prim.Native.Nat.{ℕ, zero, suc, ◌+◌, ◌*◌, ◌/◌, ◌^◌, ◌≤◌, ◌<◌}
use native.Mathlib.Nat.{add_assoc, zero-add}
use native.Mathlib.Numerals.{add-one}
use native.Mathlib.Omega.{arith}
use lib.ListN.{length, drop, get_or, drop_of_length-le, length-append, get_or-append}
use lib.Seq.{drop-cons, drop-append_seam}
use lib.Bits.{bit_or, or_zero_l, or_add_and, and_le_l, and_le_r, or_shr, or_lt}
use lib.Dec.{leb, ltb}
use borrow.Author.Tests.{lt-ltb, le-ltb, leb-true, leb-false}
use lib.Ieee.Scale.{finite}
use Rattle.rules.specs.Lists.{one}
use Rattle.rules.specs.Plane.{Point, point, float, reads, points}
use Rattle.point_numbers.specs.Width.{point_at, Whole}
use Rattle.point_numbers.proofs.Points.{at_x, at_y, points_exact, points_from, points_past}
use Rattle.rules.specs.Refusals.{nowhere, any_nowhere}
use Rattle.build_refusals.specs.Tests.{wild_of}

-- one number more is looked at
wild_step : (l : List ℕ) (i s : ℕ) → i < length l → s + wild_of (drop i l) ≡ s + one (not (finite (float (get_or l i 0)))) + wild_of (drop (i + 1) l)
unfolding wild_of
wild_step l i s h = rw (drop-cons l i 0 h, add-one, add_assoc)

pub wild_none : (l : List ℕ) (i s : ℕ) → length l ≤ i → s + wild_of (drop i l) ≡ s
unfolding wild_of
wild_none l i s h = rw (drop_of_length-le l {i = i} h) (omega arith)

one_most : (b : Bool) → one b ≤ 1
one_most true = omega arith
one_most false = omega arith

-- what two numbers, each 0 or 1, make together, beside others
pub or_some : (a b r : ℕ) → a ≤ 1 → b ≤ 1 → ltb 0 (bit_or a b + r) ≡ ltb 0 (a + (b + r))
or_some zero b r h k = let e : b + r ≡ 0 + (b + r) = omega arith in ap (λ (n : ℕ). ltb 0 (n + r)) (or_zero_l b) ∙ ap (ltb 0) e
or_some (suc a) b r h k =
    let more : 0 < bit_or (suc a) b + r = omega (arith, or_add_and (suc a) b, and_le_l (suc a) b, and_le_r (suc a) b) in
    lt-ltb 0 (bit_or (suc a) b + r) more ∙ sym (lt-ltb 0 (suc a + (b + r)) (omega arith))

-- one number more is looked at: m is what was made so far, n the number raised
pub wild_more : (l : List ℕ) (i m n : ℕ) → i < length l → m < 2 ^ 64 → n / 2 ^ 63 ≡ one (not (finite (float (get_or l i 0))))
    → ltb 0 (bit_or m n / 2 ^ 63 + wild_of (drop (i + 1) l)) ≡ ltb 0 (m / 2 ^ 63 + wild_of (drop i l))
wild_more l i m n h k e =
    ap (λ (q : ℕ). ltb 0 (q + wild_of (drop (i + 1) l))) (or_shr m n 63 ∙ ap (bit_or (m / 2 ^ 63)) e)
    ∙ or_some (m / 2 ^ 63) (one (not (finite (float (get_or l i 0))))) (wild_of (drop (i + 1) l)) (omega arith) (one_most (not (finite (float (get_or l i 0)))))
    ∙ ap (ltb 0) (sym (add_assoc (m / 2 ^ 63) _ _) ∙ sym (wild_step l i (m / 2 ^ 63) h))

-- the sign's place is taken
sign_taken : (m : ℕ) → m < 2 ^ 64 → leb (2 ^ 63) m ≡ ltb 0 (m / 2 ^ 63)
sign_taken m k = go (leb (2 ^ 63) m) refl
  where
    go : (b : Bool) → leb (2 ^ 63) m ≡ b → leb (2 ^ 63) m ≡ ltb 0 (m / 2 ^ 63)
    go true q = q ∙ sym (lt-ltb 0 (m / 2 ^ 63) (omega (arith, leb-true (2 ^ 63) m q)))
    go false q = q ∙ sym (le-ltb 0 (m / 2 ^ 63) (omega (arith, leb-false (2 ^ 63) m q)))

-- all are looked at
pub wild_told : (l : List ℕ) (i m : ℕ) → length l ≤ i → m < 2 ^ 64 → ltb 0 (m / 2 ^ 63 + wild_of (drop i l)) ≡ ltb 0 (wild_of l) → leb (2 ^ 63) m ≡ ltb 0 (wild_of l)
wild_told l i m h k e = sign_taken m k ∙ ap (ltb 0) (sym (wild_none l i (m / 2 ^ 63) h)) ∙ e

here_nowhere : (p : Point) (l : List Point) → nowhere p ≡ true → any_nowhere (p ∷ l) ≡ true
unfolding any_nowhere
here_nowhere p l e = rw (e, any_nowhere)

here_somewhere : (p : Point) (l : List Point) → nowhere p ≡ false → any_nowhere (p ∷ l) ≡ any_nowhere l
unfolding any_nowhere
here_somewhere p l e = rw (e, any_nowhere)

-- a point is no place where one of its two numbers is none
reads_wild : (n : ℕ) (l : List ℕ) → length l ≡ n * 2 → any_nowhere (reads 2 n l) ≡ ltb 0 (wild_of l)
unfolding reads any_nowhere wild_of
reads_wild zero [] h = refl
reads_wild zero (a ∷ l) h = absurd (omega arith)
reads_wild (suc n) [] h = absurd (omega arith)
reads_wild (suc n) (a ∷ []) h = absurd (omega arith)
reads_wild (suc n) (a ∷ b ∷ l) h = go (finite (float a)) (finite (float b)) refl refl (reads_wild n l (omega arith))
  where
    two : nowhere (point a b) ≡ not (finite (float a) && finite (float b))
    two = unfold nowhere in refl

    go : (p q : Bool) → finite (float a) ≡ p → finite (float b) ≡ q → any_nowhere (reads 2 n l) ≡ ltb 0 (wild_of l)
        → any_nowhere (point a b ∷ reads 2 n l) ≡ ltb 0 (one (not (finite (float a))) + (one (not (finite (float b))) + wild_of l))
    go true true e f ih = rw (e, f) (here_somewhere (point a b) (reads 2 n l) (two ∙ rw (e, f)) ∙ ih ∙ (let z : wild_of l ≡ 0 + (0 + wild_of l) = omega arith in ap (ltb 0) z))
    go true false e f ih = rw (e, f) (here_nowhere (point a b) (reads 2 n l) (two ∙ rw (e, f)) ∙ sym (lt-ltb 0 (0 + (1 + wild_of l)) (omega arith)))
    go false q e f ih = rw e (here_nowhere (point a b) (reads 2 n l) (two ∙ rw e) ∙ sym (lt-ltb 0 (1 + (one (not (finite (float b))) + wild_of l)) (omega arith)))

pub nowhere_wild : (w : ℕ) (l : List ℕ) → Whole w l → w ≡ 2 → any_nowhere (points w l) ≡ ltb 0 (wild_of l)
nowhere_wild w l h e =
    let long : length l ≡ h.number * 2 = h.long ∙ ap (λ (v : ℕ). h.number * v) e in
    ap (λ (v : ℕ). any_nowhere (points v l)) e ∙ ap any_nowhere (points_exact 2 h.number l (omega arith) long) ∙ reads_wild h.number l long

-- with extras, point by point: the xs that are passed have made a and the ys b, and beside their signs' places stand the points that are left
abbrev pub told : ℕ → ℕ → List Point → Bool
told a b left = ltb 0 (a / 2 ^ 63 + (b / 2 ^ 63 + one (any_nowhere left)))

module _ (w : ℕ) (l : List ℕ) (i : ℕ) (two : 2 ≤ w) (h : i + w ≤ length l) where
  opened_from : any_nowhere (points w (drop i l)) ≡ any_nowhere (point_at w l i ∷ points w (drop (i + w) l))
  opened_from = ap any_nowhere (points_from w l i (omega arith) h)

  by_parts : nowhere (point_at w l i) ≡ not (finite (float (get_or l i 0)) && finite (float (get_or l (i + 1) 0)))
  unfolding nowhere
  by_parts = rw (at_x w two l i, at_y w two l i)

  x_nowhere : finite (float (get_or l i 0)) ≡ false → any_nowhere (points w (drop i l)) ≡ true
  x_nowhere e = opened_from ∙ here_nowhere (point_at w l i) (points w (drop (i + w) l)) (by_parts ∙ rw e)

  y_nowhere : finite (float (get_or l i 0)) ≡ true → finite (float (get_or l (i + 1) 0)) ≡ false → any_nowhere (points w (drop i l)) ≡ true
  y_nowhere e f = opened_from ∙ here_nowhere (point_at w l i) (points w (drop (i + w) l)) (by_parts ∙ rw (e, f))

  place_passed : finite (float (get_or l i 0)) ≡ true → finite (float (get_or l (i + 1) 0)) ≡ true
      → any_nowhere (points w (drop i l)) ≡ any_nowhere (points w (drop (i + w) l))
  place_passed e f = opened_from ∙ here_somewhere (point_at w l i) (points w (drop (i + w) l)) (by_parts ∙ rw (e, f))

  -- one point more is looked at: its x is raised to m and its y to n
  pub told_more : (a b m n : ℕ) → a < 2 ^ 64 → b < 2 ^ 64 → m / 2 ^ 63 ≡ one (not (finite (float (get_or l i 0)))) → n / 2 ^ 63 ≡ one (not (finite (float (get_or l (i + 1) 0))))
      → told (bit_or a m) (bit_or b n) (points w (drop (i + w) l)) ≡ told a b (points w (drop i l))
  told_more a b m n k r e f =
      ap₂ (λ (s t : ℕ). ltb 0 (s + (t + one rest))) (or_shr a m 63 ∙ ap (bit_or A) e) (or_shr b n 63 ∙ ap (bit_or B) f)
      ∙ or_some A X (bit_or B Y + one rest) (omega arith) (one_most (not (finite (float (get_or l i 0)))))
      ∙ ap (ltb 0) swapped
      ∙ or_some B Y (A + (X + one rest)) (omega arith) (one_most (not (finite (float (get_or l (i + 1) 0)))))
      ∙ go (finite (float (get_or l i 0))) (finite (float (get_or l (i + 1) 0))) refl refl
    where
      A : ℕ
      A = a / 2 ^ 63

      B : ℕ
      B = b / 2 ^ 63

      X : ℕ
      X = one (not (finite (float (get_or l i 0))))

      Y : ℕ
      Y = one (not (finite (float (get_or l (i + 1) 0))))

      rest : Bool
      rest = any_nowhere (points w (drop (i + w) l))

      swapped : A + (X + (bit_or B Y + one rest)) ≡ bit_or B Y + (A + (X + one rest))
      swapped = omega arith

      go : (p q : Bool) → finite (float (get_or l i 0)) ≡ p → finite (float (get_or l (i + 1) 0)) ≡ q → ltb 0 (B + (Y + (A + (X + one rest)))) ≡ told a b (points w (drop i l))
      go true true p q =
          let s : B + (0 + (A + (0 + one rest))) ≡ A + (B + one rest) = omega arith in
          rw (p, q) (ap (ltb 0) s) ∙ ap (λ (t : Bool). ltb 0 (A + (B + one t))) (sym (place_passed p q))
      go true false p q =
          rw (p, q) (lt-ltb 0 (B + (1 + (A + (0 + one rest)))) (omega arith))
          ∙ sym (ap (λ (t : Bool). ltb 0 (A + (B + one t))) (y_nowhere p q) ∙ lt-ltb 0 (A + (B + 1)) (omega arith))
      go false y p q =
          rw p (lt-ltb 0 (B + (Y + (A + (1 + one rest)))) (omega arith))
          ∙ sym (ap (λ (t : Bool). ltb 0 (A + (B + one t))) (x_nowhere p) ∙ lt-ltb 0 (A + (B + 1)) (omega arith))

-- the first point of what is left, with all its numbers
pub told_next : (w : ℕ) (l x left : List ℕ) (a b m n : ℕ) → 2 ≤ w → l ≡ x ++ left → length x ≡ w → a < 2 ^ 64 → b < 2 ^ 64
    → m / 2 ^ 63 ≡ one (not (finite (float (get_or x 0 0)))) → n / 2 ^ 63 ≡ one (not (finite (float (get_or x 1 0))))
    → told (bit_or a m) (bit_or b n) (points w left) ≡ told a b (points w l)
told_next w l x left a b m n two e long k r p q =
    let room : 0 + w ≤ length l = omega (arith, ap length e, length-append x left) in
    let at : (i : ℕ) → i < w → get_or x i 0 ≡ get_or l i 0 = λ i h. sym (rw e (get_or-append x left 0 i (omega arith))) in
    let rest : drop (0 + w) l ≡ left = rw (e, zero-add, ← long, drop-append_seam) in
    rw (← rest) (told_more w l 0 two room a b m n k r (p ∙ ap (λ (y : ℕ). one (not (finite (float y)))) (at 0 (omega arith))) (q ∙ ap (λ (y : ℕ). one (not (finite (float y)))) (at 1 (omega arith))))

places_end : (w : ℕ) (l : List ℕ) → length l < w → any_nowhere (points w l) ≡ false
unfolding any_nowhere
places_end w l h = ap any_nowhere (points_past w l 0 (omega arith) (omega arith))

-- no whole point is left
pub told_all : (w : ℕ) (l : List ℕ) (a b : ℕ) → 2 ≤ w → length l < w → a < 2 ^ 64 → b < 2 ^ 64 → leb (2 ^ 63) (bit_or a b) ≡ told a b (points w l)
told_all w l a b two h k r =
    let z : bit_or (a / 2 ^ 63) (b / 2 ^ 63) ≡ bit_or (a / 2 ^ 63) (b / 2 ^ 63) + 0 = omega arith in
    sign_taken (bit_or a b) (or_lt 64 a b k r) ∙ ap (ltb 0) (or_shr a b 63 ∙ z)
    ∙ or_some (a / 2 ^ 63) (b / 2 ^ 63) 0 (omega arith) (omega arith)
    ∙ ap (λ (t : Bool). ltb 0 (a / 2 ^ 63 + (b / 2 ^ 63 + one t))) (sym (places_end w l h))
