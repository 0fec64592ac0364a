-- The sum with 3 * 2 ^ 51 finds the floor of x or one more, and the comparison with x says which: what `floor` does for an x between -(2 ^ 51) and 2 ^ 51.
use Rattle.std.proofs.Common.{◌≡◌, ℕ, zero, suc, ◌+◌, ◌-◌, ◌*◌, ◌/◌, ◌%◌, ◌^◌, ◌<◌, ◌≤◌, min, Bool, true, false, cond, ◌&&◌, T, ltb, ◌⊎◌, ℤ, pos, ◌-ℤ◌, neg_ℤ, sym, refl, ap, ◌∙◌, subst, inl, inr, true≢false, lt_of_lt_of_le, mod-lt, div-lt_iff_lt-mul, add-mul, lt_of_mul-lt-mul_right, eq-or-lt_of_le, div-add-mod', le-div_iff_mul-le, mul-one, arith, lit<, le→leb, lt→ltb, w64, SFits, to_z, ltb-false, ltb-true, lt-ltb}
use Prim.Native.Nat.{compare}
use native.Mathlib.Nat.{div-eq_of_lt-le}
use lib.IntN.{ -ℤ_one, +ℤ_idr}
use lib.Signed.{mag}
use lib.Ieee.{Float, nan, inf, fin, binary64, up, down, round, add, sub, sum, lt, of_int, in_float, in_signed, to_signed}
use lib.Ieee.Back.{round_whole, positive_back, negative_back}
use lib.Ieee.Casts.{to_signed_in}
use lib.Ieee.Exact.{HasValue}
use lib.Ieee.Fits.{down_pos, nearest-le}
use lib.Ieee.Nearest.{closest, closest_mono, nearest-ge}
use mir.Val.{bool_byte}
use Rattle.rules.specs.Cell.{ceiling, floor64}
use Rattle.float_cell.proofs.Held.{held, held_is, floor_in}
use Rattle.float_cell.proofs.Ceiling.{one_more, ceiling_is}
use Rattle.float_cell.proofs.Cases.{less_one}
use Rattle.float_cell.proofs.Whole.{lt_above, lt_neg}
use Rattle.float_cell.proofs.Swift.{whole, M, off_up, off_down}

pub record Close (x y : Float) : Type 0 where
  pub z : ℤ
  pub is : y ≡ of_int binary64 z
  pub back : T (in_signed binary64 63 (of_int binary64 z)) × (to_signed 63 (of_int binary64 z) ≡ z)
  pub above : lt x (of_int binary64 z) ≡ true → z -ℤ pos 1 ≡ floor64 x
  pub level : lt x (of_int binary64 z) ≡ false → z ≡ floor64 x

-- ---- numbers
part_sum : (x e : ℕ) → 0 < e → (x * 1 + (3 * 2 ^ 51) * e) / (e * 1) ≡ x / e + (3 * 2 ^ 51)
part_sum x e o =
    ap (λ (z : ℕ). (z + (3 * 2 ^ 51) * e) / (e * 1)) (mul-one x)
    ∙ ap (λ (z : ℕ). (x + (3 * 2 ^ 51) * e) / z) (mul-one e)
    ∙ div-eq_of_lt-le {k = x / e + (3 * 2 ^ 51)} e (omega (arith, div-add-mod' x e, add-mul (x / e) (3 * 2 ^ 51) e)) (omega (arith, div-add-mod' x e, mod-lt x o, add-mul (x / e) (3 * 2 ^ 51) e, one_more (x / e + (3 * 2 ^ 51)) e))

ceiling_small : (x e : ℕ) → 0 < e → x * 1 < 2 ^ 51 * e → ceiling x e ≤ 2 ^ 51
ceiling_small x e o h =
    let c = ceiling x e in
    let b : c * e < (2 ^ 51 + 1) * e = omega (arith, (ceiling_is x e o).1) in
    omega (arith, lt_of_mul-lt-mul_right e b)

part_difference : (x e : ℕ) → 0 < e → x * 1 < 2 ^ 51 * e → ((3 * 2 ^ 51) * e - x * 1) / (e * 1) ≡ (3 * 2 ^ 51) - ceiling x e
part_difference x e o h =
    let c = ceiling x e in
    let d = (3 * 2 ^ 51) - c in
    let s : c ≤ (2 ^ 51) = ceiling_small x e o h in
    let j : d + c ≡ (3 * 2 ^ 51) = omega arith in
    let m : (3 * 2 ^ 51) * e ≡ d * e + c * e = ap (λ (z : ℕ). z * e) (sym j) ∙ add-mul d c e in
    let l = ceiling_is x e o in
    ap (λ (z : ℕ). ((3 * 2 ^ 51) * e - x * 1) / z) (mul-one e)
    ∙ div-eq_of_lt-le {k = d} e (omega (arith, l.0, l.1)) (omega (arith, l.0, l.1, one_more d e))

-- ---- not below zero
module _ (m : ℕ) (e : ℤ) (k : m * up e * 1 < 2 ^ 51 * down e) where
  sum_at : ℕ
  sum_at = closest (m * up e * 1 + (3 * 2 ^ 51) * down e) (down e * 1)

  up_bounds : (m * up e / down e + (3 * 2 ^ 51) ≤ sum_at) × (sum_at ≤ m * up e / down e + (3 * 2 ^ 51 + 1)) × (m * up e / down e < 2 ^ 51)
  unfolding sum_at
  up_bounds =
      let a = m * up e * 1 + (3 * 2 ^ 51) * down e in
      let w = part_sum (m * up e) (down e) (down_pos e) in
      let o = compare (a % (down e * 1) * 2) (down e * 1) in
      let g : m * up e / down e < (2 ^ 51) = (div-lt_iff_lt-mul (down_pos e)).1 (plain (m * up e) (2 ^ 51 * down e) k) in
      (subst (λ (z : ℕ). z ≤ closest a (down e * 1)) w (nearest-ge (a / (down e * 1)) o), fix (closest a (down e * 1)) (m * up e / down e) (subst (λ (z : ℕ). closest a (down e * 1) ≤ suc z) w (nearest-le (a / (down e * 1)) o)), g)
    where
      plain : (x c : ℕ) → x * 1 < c → x < c
      plain x c h = omega arith

      fix : (q f : ℕ) → q ≤ suc (f + (3 * 2 ^ 51)) → q ≤ f + (3 * 2 ^ 51 + 1)
      fix q f h = omega arith

  close_up : Close (fin false m e) (sub binary64 (add binary64 (fin false m e) M) M)
  unfolding add sum of_int in_float floor64 sum_at
  close_up =
      let X = m * up e in
      let E = down e in
      let q = sum_at in
      let b = up_bounds in
      let p = q - (3 * 2 ^ 51) in
      let least : (3 * 2 ^ 51) ≤ q = omega arith in
      let f≤ : X / E ≤ p = omega arith in
      let ≤f : p ≤ X / E + 1 = omega arith in
      let small : p ≤ (2 ^ 53) = omega arith in
      let test : lt (fin false m e) (of_int binary64 (pos p)) ≡ ltb X (p * E) = lt_above m e (round binary64 false p 1) p (round_whole binary64 false p small) in
      let v : HasValue (add binary64 (fin false m e) M) false q 1 = whole (X * 1 + (3 * 2 ^ 51) * E) (E * 1) (subst (λ (z : ℕ). 0 < z) (sym (mul-one E)) (down_pos e)) (omega arith) (omega arith) in
      record {
        z = pos p;
        is = off_up (add binary64 (fin false m e) M) q v least;
        back = positive_back binary64 63 p (le→leb p (2 ^ 53) small) (omega arith);
        above =
            λ l. let i : p ≡ suc (X / E) = higher (X / E) p f≤ ≤f ((div-lt_iff_lt-mul (down_pos e)).1 (ltb-true X (p * E) (sym test ∙ l))) in ap (λ (n : ℕ). pos n -ℤ pos 1) i
            ∙ -ℤ_one (pos (suc (X / E))) ∙ ap pos (sym (capped (X / E) b.2));
        level =
            λ l. ap pos (equal (X / E) p f≤ ((le-div_iff_mul-le (down_pos e)).1 (ltb-false X (p * E) (sym test ∙ l))) ∙ sym (capped (X / E) b.2));
      }
    where
      higher : (f p : ℕ) → f ≤ p → p ≤ f + 1 → f < p → p ≡ suc f
      higher f p a b c = omega arith

      equal : (f p : ℕ) → f ≤ p → p ≤ f → p ≡ f
      equal f p a b = omega arith

      capped : (f : ℕ) → f < 2 ^ 51 → min f (2 ^ 63 - 1) ≡ f
      capped f h = omega arith

-- ---- below zero
of_int_neg : (p : ℕ) → 0 < p → round binary64 true p 1 ≡ of_int binary64 (neg_ℤ (pos p))
unfolding of_int
of_int_neg zero h = absurd (omega arith)
of_int_neg (suc k) h = refl

neg_back : (p : ℕ) → p ≤ 2 ^ 53
    → T (in_signed binary64 63 (of_int binary64 (neg_ℤ (pos p)))) × (to_signed 63 (of_int binary64 (neg_ℤ (pos p))) ≡ neg_ℤ (pos p))
unfolding in_float
neg_back zero h = positive_back binary64 63 0 tt (omega arith)
neg_back (suc k) h = negative_back binary64 63 k (lt→ltb k (2 ^ 53) (omega arith)) (omega arith)

off : (r : Float) (q : ℕ) → HasValue r false q 1 → q ≤ (3 * 2 ^ 51) → sub binary64 r M ≡ of_int binary64 (neg_ℤ (pos ((3 * 2 ^ 51) - q)))
off r q v h = go (eq-or-lt_of_le h)
  where
    go : (q ≡ (3 * 2 ^ 51)) ⊎ (q < (3 * 2 ^ 51)) → sub binary64 r M ≡ of_int binary64 (neg_ℤ (pos ((3 * 2 ^ 51) - q)))
    go (inl e) =
        let least : (3 * 2 ^ 51) ≤ q = omega arith in
        let n : q - (3 * 2 ^ 51) ≡ 0 = omega arith in
        let n' : (3 * 2 ^ 51) - q ≡ 0 = omega arith in
        off_up r q v least ∙ ap (λ (k : ℕ). of_int binary64 (pos k)) n ∙ ap (λ (k : ℕ). of_int binary64 (neg_ℤ (pos k))) (sym n')
    go (inr l) =
        let some : 0 < (3 * 2 ^ 51) - q = omega arith in
        off_down r q v l ∙ of_int_neg ((3 * 2 ^ 51) - q) some

module _ (m : ℕ) (e : ℤ) (k : m * up e * 1 < 2 ^ 51 * down e) where
  difference_at : ℕ
  difference_at = closest ((3 * 2 ^ 51) * down e - m * up e * 1) (down e * 1)

  down_bounds : ((3 * 2 ^ 51) ≤ difference_at + ceiling (m * up e) (down e)) × (difference_at + ceiling (m * up e) (down e) ≤ (3 * 2 ^ 51 + 1)) × (difference_at ≤ (3 * 2 ^ 51)) × (ceiling (m * up e) (down e) ≤ 2 ^ 51)
  unfolding difference_at
  down_bounds =
      let a = (3 * 2 ^ 51) * down e - m * up e * 1 in
      let c = ceiling (m * up e) (down e) in
      let s = ceiling_small (m * up e) (down e) (down_pos e) k in
      let w = part_difference (m * up e) (down e) (down_pos e) k in
      let o = compare (a % (down e * 1) * 2) (down e * 1) in
      let u : closest a (down e * 1) ≤ closest (3 * 2 ^ 51) 1 = closest_mono a (down e * 1) (3 * 2 ^ 51) 1 (subst (λ (z : ℕ). 0 < z) (sym (mul-one (down e))) (down_pos e)) (lit< tt) (room (down e) (m * up e * 1)) in
      (low (closest a (down e * 1)) c (subst (λ (z : ℕ). z ≤ closest a (down e * 1)) w (nearest-ge (a / (down e * 1)) o)), high (closest a (down e * 1)) c s (subst (λ (z : ℕ). closest a (down e * 1) ≤ suc z) w (nearest-le (a / (down e * 1)) o)), u, s)
    where
      room : (d x : ℕ) → ((3 * 2 ^ 51) * d - x) * 1 ≤ (3 * 2 ^ 51) * (d * 1)
      room d x = omega arith

      low : (q c : ℕ) → (3 * 2 ^ 51) - c ≤ q → (3 * 2 ^ 51) ≤ q + c
      low q c h = omega arith

      high : (q c : ℕ) → c ≤ 2 ^ 51 → q ≤ suc ((3 * 2 ^ 51) - c) → q + c ≤ (3 * 2 ^ 51 + 1)
      high q c s h = omega arith

  added : add binary64 (fin true m e) M ≡ round binary64 false ((3 * 2 ^ 51) * down e - m * up e * 1) (down e * 1)
  unfolding add sum
  added =
      ap (λ (b : Bool). cond b (round binary64 false ((3 * 2 ^ 51) * down e - m * up e * 1) (down e * 1)) (round binary64 (true && ltb ((3 * 2 ^ 51) * down e) (m * up e * 1)) (m * up e * 1 - (3 * 2 ^ 51) * down e) (down e * 1)))
      (lt-ltb (m * up e * 1) ((3 * 2 ^ 51) * down e) (omega arith))

  close_down : Close (fin true m e) (sub binary64 (add binary64 (fin true m e) M) M)
  unfolding floor64 difference_at
  close_down =
      let X = m * up e in
      let E = down e in
      let q = difference_at in
      let b = down_bounds in
      let c = ceiling X E in
      let p = (3 * 2 ^ 51) - q in
      let l = ceiling_is X E (down_pos e) in
      let ≤c : p ≤ c = omega arith in
      let c≤ : c ≤ p + 1 = omega arith in
      let small : p ≤ (2 ^ 53) = omega arith in
      let cap : min c (2 ^ 63) ≡ c = capped c b.3 in
      let test : lt (fin true m e) (of_int binary64 (neg_ℤ (pos p))) ≡ ltb (p * E) X = lt_neg m e p (λ (s : Bool). round_whole binary64 s p small) in
      let v : HasValue (add binary64 (fin true m e) M) false q 1 =
      subst (λ (r : Float). HasValue r false q 1) (sym added) (whole ((3 * 2 ^ 51) * E - X * 1) (E * 1) (subst (λ (z : ℕ). 0 < z) (sym (mul-one E)) (down_pos e)) (omega arith) (omega (arith, down_pos e))) in
      record {
        z = neg_ℤ (pos p);
        is = off (add binary64 (fin true m e) M) q v b.2;
        back = neg_back p small;
        above =
            λ t. let i : c ≡ suc p = higher c p c≤ (lt_of_mul-lt-mul_right E (lt_of_lt_of_le (ltb-true (p * E) X (sym test ∙ t)) l.0)) in less_one p
            ∙ ap (λ (n : ℕ). neg_ℤ (pos n)) (sym (cap ∙ i));
        level =
            λ t. let i : c ≡ p = equal c p ≤c (lt_of_mul-lt-mul_right E (lt_of_lt_of_le l.1 (most p X E (ltb-false (p * E) X (sym test ∙ t))))) in ap (λ (n : ℕ). neg_ℤ (pos n)) (sym (cap ∙ i));
      }
    where
      higher : (c p : ℕ) → c ≤ p + 1 → p < c → c ≡ suc p
      higher c p a b = omega arith

      equal : (c p : ℕ) → p ≤ c → c < p + 1 → c ≡ p
      equal c p a b = omega arith

      most : (p x d : ℕ) → x ≤ p * d → x + d ≤ (p + 1) * d
      most p x d h = omega (arith, one_more p d)

      capped : (f : ℕ) → f ≤ 2 ^ 51 → min f (2 ^ 63) ≡ f
      capped f h = omega arith

-- ---- every x between -(2 ^ 51) and 2 ^ 51
pub close : (x : Float) → lt (fin true 1 (pos 51)) x ≡ true → lt x (fin false 1 (pos 51)) ≡ true → Close x (sub binary64 (add binary64 x M) M)
unfolding lt
close nan h k = absurd (true≢false (sym h))
close (inf true) h k = absurd (true≢false (sym h))
close (inf false) h k = absurd (true≢false (sym k))
close (fin false m e) h k = close_up m e (ltb-true (m * up e * 1) (2 ^ 51 * down e) k)
close (fin true m e) h k = close_down m e (ltb-true (m * up e * 1) (2 ^ 51 * down e) h)

-- ---- as the code holds it
module _ (x y : Float) (c : Close x y) where
  pub castable : T (in_signed binary64 63 y)
  castable = subst (λ (v : Float). T (in_signed binary64 63 v)) (sym c.is) c.back.0

  back_is : held (to_signed 63 y) ≡ c.z
  back_is = held_is (to_signed 63 y) (to_signed_in 63 y) ∙ ap (to_signed 63) c.is ∙ c.back.1

  tested : (b : Bool) → lt x y ≡ b → lt x (of_int binary64 c.z) ≡ b
  tested b l = ap (lt x) (sym c.is) ∙ l

  less_at : lt x y ≡ true → held (to_signed 63 y) -ℤ pos 1 ≡ floor64 x
  less_at l = ap (λ (t : ℤ). t -ℤ pos 1) back_is ∙ c.above (tested true l)

  less_fits : lt x y ≡ true → SFits w64 (held (to_signed 63 y) -ℤ pos 1)
  less_fits l = record { sfits = subst (λ (t : ℤ). mag t < 2 ^ 63) (sym (less_at l)) (floor_in x) }

  less_is : lt x y ≡ true → held (held (to_signed 63 y) -ℤ pos 1) ≡ floor64 x
  less_is l = held_is (held (to_signed 63 y) -ℤ pos 1) (less_fits l).sfits ∙ less_at l

  same_is : lt x y ≡ false → held (to_signed 63 y) ≡ floor64 x
  same_is l = back_is ∙ c.level (tested false l)

  -- one less or not, by the test's value
  pub moved : (b : Bool) → lt x y ≡ b
      → SFits w64 (held (to_signed 63 y) -ℤ to_z w64 (bool_byte b)) × (held (held (to_signed 63 y) -ℤ to_z w64 (bool_byte b)) ≡ floor64 x)
  moved true l = (less_fits l, less_is l)
  moved false l =
      let e : held (to_signed 63 y) -ℤ pos 0 ≡ floor64 x = +ℤ_idr (held (to_signed 63 y)) ∙ same_is l in
      let f : SFits w64 (held (to_signed 63 y) -ℤ pos 0) = record { sfits = subst (λ (t : ℤ). mag t < 2 ^ 63) (sym e) (floor_in x) } in
      (f, held_is (held (to_signed 63 y) -ℤ pos 0) f.sfits ∙ e)
