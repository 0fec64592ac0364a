-- Places: the pieces that a mask picks out of a list, where each of them stands, and the same for their ends.
-- The place of the j-th rises with j, so that what is named by places is in the order of what is named by ranks.
use Prim.Native.Nat.{ℕ, zero, suc, ◌+◌, ◌-◌, ◌*◌, ◌≤◌, ◌<◌, zero-le}
use mathlib.Core.Path.{◌≡◌, refl, sym, ap, ap₂, ◌∙◌, fun_ext}
use mathlib.Core.Bool.{Bool, true, false}
use mathlib.Core.List.{List, [], ◌∷◌, map}
use native.Mathlib.Omega.{arith}
use native.Mathlib.Decide.{ℕ_discrete}
use lib.ListN.{length, get_or}
use Rattle.rules.specs.Lists.{keep, from, upto}
use Rattle.rules.specs.Walking.{piece_of, side_of, other}
use Rattle.chain_laws.proofs.Ends.{other_piece, end_zero}
use Rattle.chain_laws.proofs.Kept.{keep_yes, keep_no}
use Rattle.chain_laws.proofs.Lines.{map_from}
use Rattle.pair_laws.proofs.Renaming.{Rising}

-- ---- the places that a mask picks

unfoldable pub pick : {A : Type 0} → List Bool → List A → List A
pick [] l = []
pick (b ∷ bs) [] = []
pick (true ∷ bs) (a ∷ l) = a ∷ pick bs l
pick (false ∷ bs) (a ∷ l) = pick bs l

unfoldable pub ones : List Bool → ℕ
ones [] = 0
ones (true ∷ bs) = suc (ones bs)
ones (false ∷ bs) = ones bs

-- the place of the j-th that is picked; past them, the places past the mask
unfoldable pub place : List Bool → ℕ → ℕ
place [] j = j
place (true ∷ bs) zero = zero
place (true ∷ bs) (suc j) = suc (place bs j)
place (false ∷ bs) j = suc (place bs j)

place_up : (b : List Bool) (i j : ℕ) → i < j → place b i < place b j
unfolding place
place_up [] i j h = h
place_up (true ∷ bs) i zero h = absurd (omega arith)
place_up (true ∷ bs) zero (suc j) h = omega arith
place_up (true ∷ bs) (suc i) (suc j) h = omega (arith, place_up bs i j (omega arith))
place_up (false ∷ bs) i j h = omega (arith, place_up bs i j h)

pub place_rising : (b : List Bool) → Rising (place b)
place_rising b = record { up = place_up b }

pub place_past : (b : List Bool) (j : ℕ) → ones b ≤ j → length b ≤ place b j
unfolding place ones
place_past [] j h = zero-le
place_past (true ∷ bs) zero h = absurd (omega arith)
place_past (true ∷ bs) (suc j) h = omega (arith, place_past bs j (omega arith))
place_past (false ∷ bs) j h = omega (arith, place_past bs j h)

pub place_get_d : {A : Type 0} (b : List Bool) (l : List A) (j : ℕ) (d : A) → length b ≡ length l → get_or l (place b j) d ≡ get_or (pick b l) j d
unfolding place pick
place_get_d [] [] j d h = refl
place_get_d [] (a ∷ l) j d h = absurd (omega arith)
place_get_d (b ∷ bs) [] j d h = absurd (omega arith)
place_get_d (true ∷ bs) (a ∷ l) zero d h = refl
place_get_d (true ∷ bs) (a ∷ l) (suc j) d h = place_get_d bs l j d (omega arith)
place_get_d (false ∷ bs) (a ∷ l) j d h = place_get_d bs l j d (omega arith)

pub length_pick : {A : Type 0} (b : List Bool) (l : List A) → length b ≡ length l → length (pick b l) ≡ ones b
unfolding pick ones
length_pick [] l h = refl
length_pick (b ∷ bs) [] h = absurd (omega arith)
length_pick (true ∷ bs) (a ∷ l) h = ap suc (length_pick bs l (omega arith))
length_pick (false ∷ bs) (a ∷ l) h = length_pick bs l (omega arith)

pub ones_le : (b : List Bool) → ones b ≤ length b
unfolding ones
ones_le [] = zero-le
ones_le (true ∷ bs) = omega (arith, ones_le bs)
ones_le (false ∷ bs) = omega (arith, ones_le bs)

-- ---- the same for ends

unfoldable pub lift : List Bool → ℕ → ℕ
lift b e = 2 * place b (piece_of e) + side_of e

pub lift_piece : (b : List Bool) (e : ℕ) → piece_of (lift b e) ≡ place b (piece_of e)
unfolding lift
lift_piece b e = omega arith

pub lift_side : (b : List Bool) (e : ℕ) → side_of (lift b e) ≡ side_of e
unfolding lift
lift_side b e = omega arith

end_of : (a c : ℕ) → piece_of a ≡ piece_of c → side_of a ≡ side_of c → a ≡ c
end_of a c h k = omega arith

other_side : (e : ℕ) → side_of (other e) ≡ 1 - side_of e
other_side e = omega arith

pub lift_other : (b : List Bool) (e : ℕ) → other (lift b e) ≡ lift b (other e)
lift_other b e =
    end_of (other (lift b e)) (lift b (other e))
    (other_piece (lift b e) ∙ lift_piece b e ∙ sym (ap (place b) (other_piece e)) ∙ sym (lift_piece b (other e)))
    (other_side (lift b e) ∙ ap (λ (m : ℕ). 1 - m) (lift_side b e) ∙ sym (other_side e) ∙ sym (lift_side b (other e)))

pub lift_double : (b : List Bool) (s : ℕ) → lift b (2 * s) ≡ 2 * place b s
unfolding lift
lift_double b s = omega (arith, ap (place b) (end_zero s))

lift_up : (b : List Bool) (i j : ℕ) → i < j → lift b i < lift b j
unfolding lift
lift_up b i j h =
    elim (ℕ_discrete (piece_of i) (piece_of j)) [
      | yes q ↦ omega (arith, ap (place b) q)
      | no q ↦ omega (arith, place_up b (piece_of i) (piece_of j) (omega arith))
    ]

pub lift_rising : (b : List Bool) → Rising (lift b)
lift_rising b = record { up = lift_up b }

-- ---- what passes a test among all ends, where only ends of the district do

module _ {A : Type 0} where
  keep_next : (t : A → Bool) (a : A) (l m : List A) → keep t l ≡ keep t m → keep t (a ∷ l) ≡ keep t (a ∷ m)
  keep_next t a l m h = go (t a) refl
    where
      go : (b : Bool) → t a ≡ b → keep t (a ∷ l) ≡ keep t (a ∷ m)
      go true e = keep_yes t a l e ∙ ap {B = List A} (λ r. a ∷ r) h ∙ sym (keep_yes t a m e)
      go false e = keep_no t a l e ∙ h ∙ sym (keep_no t a m e)

  pub keep_map : {B : Type 0} (t : A → Bool) (f : B → A) (l : List B) → keep t (map f l) ≡ map f (keep (λ b. t (f b)) l)
  unfolding keep
  keep_map t f [] = refl
  keep_map t f (a ∷ l) = go (t (f a)) refl (keep_map t f l)
    where
      go : (b : Bool) → t (f a) ≡ b → keep t (map f l) ≡ map f (keep (λ b. t (f b)) l) → keep t (map f (a ∷ l)) ≡ map f (keep (λ b. t (f b)) (a ∷ l))
      go true e h = rw (e, keep) (ap {B = List A} (λ r. f a ∷ r) h)
      go false e h = rw (e, keep) h

two_more : (n : ℕ) → 2 * suc n ≡ suc (suc (2 * n))
two_more n = omega arith

upto_two : (f : ℕ → ℕ) (n : ℕ) → map f (upto (suc (suc n))) ≡ f 0 ∷ f 1 ∷ map (λ x. f (suc (suc x))) (upto n)
unfolding upto from
upto_two f n = ap {B = List ℕ} (λ r. f 0 ∷ f 1 ∷ r) (map_from f 1 n ∙ map_from (λ i. f (suc i)) 0 n)

next_piece : (e : ℕ) → piece_of (suc (suc e)) ≡ suc (piece_of e)
next_piece e = omega arith

lift_true : (bs : List Bool) (e : ℕ) → lift (true ∷ bs) (suc (suc e)) ≡ suc (suc (lift bs e))
unfolding lift place
lift_true bs e = omega (arith, ap (place (true ∷ bs)) (next_piece e))

lift_0 : (bs : List Bool) → lift (true ∷ bs) 0 ≡ 0
unfolding lift place
lift_0 bs = refl

lift_1 : (bs : List Bool) → lift (true ∷ bs) 1 ≡ 1
unfolding lift place
lift_1 bs = refl

lift_false : (bs : List Bool) (e : ℕ) → lift (false ∷ bs) e ≡ suc (suc (lift bs e))
unfolding lift place
lift_false bs e = omega arith

pub keep_place : (b : List Bool) (t : ℕ → Bool) (f : ℕ → ℕ)
    → ((x : ℕ) → x < 2 * length b → get_or b (piece_of x) true ≡ false → t (f x) ≡ false)
    → keep t (map f (upto (2 * length b))) ≡ keep t (map (λ e. f (lift b e)) (upto (2 * ones b)))
unfolding ones upto from
keep_place [] t f h = refl
keep_place (true ∷ bs) t f h =
    ap (λ (n : ℕ). keep t (map f (upto n))) (two_more (length bs))
    ∙ ap (keep t) (upto_two f (2 * length bs))
    ∙ keep_next t (f 0) _ _ (keep_next t (f 1) _ _
    (keep_place bs t (λ x. f (suc (suc x)))
    (λ x i q. h (suc (suc x)) (omega arith) (ap (λ (m : ℕ). get_or (true ∷ bs) m true) (next_piece x) ∙ q))))
    ∙ sym
    (ap (λ (n : ℕ). keep t (map (λ e. f (lift (true ∷ bs) e)) (upto n))) (two_more (ones bs))
    ∙ ap (keep t) (upto_two (λ e. f (lift (true ∷ bs) e)) (2 * ones bs))
    ∙ ap₂ (λ (a c : ℕ). keep t (f a ∷ f c ∷ map (λ x. f (lift (true ∷ bs) (suc (suc x)))) (upto (2 * ones bs)))) (lift_0 bs) (lift_1 bs)
    ∙ ap (λ (g : ℕ → ℕ). keep t (f 0 ∷ f 1 ∷ map g (upto (2 * ones bs)))) (fun_ext λ e. ap f (lift_true bs e)))
keep_place (false ∷ bs) t f h =
    ap (λ (n : ℕ). keep t (map f (upto n))) (two_more (length bs))
    ∙ ap (keep t) (upto_two f (2 * length bs))
    ∙ keep_no t (f 0) _ (h 0 (omega arith) refl)
    ∙ keep_no t (f 1) _ (h 1 (omega arith) refl)
    ∙ keep_place bs t (λ x. f (suc (suc x)))
    (λ x i q. h (suc (suc x)) (omega arith) (ap (λ (m : ℕ). get_or (false ∷ bs) m true) (next_piece x) ∙ q))
    ∙ sym (ap (λ (g : ℕ → ℕ). keep t (map g (upto (2 * ones bs)))) (fun_ext λ e. ap f (lift_false bs e)))
