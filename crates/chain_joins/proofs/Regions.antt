-- A region of fixed length as a list of its own: what it holds, and one number of it changed.
use Prim.Native.Nat.{ℕ, zero, suc, ◌+◌, ◌-◌, ◌≤◌, ◌<◌}
use mathlib.Core.Path.{◌≡◌, sym, ap, ap₂, ◌∙◌}
use mathlib.Core.List.{List, [], ◌∷◌, ◌++◌}
use native.Mathlib.Omega.{arith}
use lib.ListN.{length, get_or, set, take, drop, length-set, length-drop, take-append-drop}
use lib.Seq.{slice, length-take-le, set-append_left, drop-drop, get_or-take, get_or-drop, ext_get_or}
use Rattle.point_slices.specs.Holds.{HoldsFrom}
use Rattle.point_slices.proofs.Laws.{slice_part, part_length, from_front, from_back}

set_right : (xs ys : List ℕ) (n i v : ℕ) → length xs ≡ n → set (xs ++ ys) (n + i) v ≡ xs ++ set ys i v
set_right [] ys n i v e = let p : n + i ≡ i = omega arith in ap (λ (j : ℕ). set ys j v) p
set_right (x ∷ xs) ys zero i v e = absurd (omega arith)
set_right (x ∷ xs) ys (suc n) i v e =
    let p : suc n + i ≡ suc (n + i) = omega arith in
    ap (λ (j : ℕ). set (x ∷ (xs ++ ys)) j v) p ∙ ap {B = List ℕ} (λ l. x ∷ l) (set_right xs ys n i v (omega arith))

-- a region holds what it holds
pub from_own : (l : List ℕ) (at r : ℕ) → at + r ≤ length l → HoldsFrom l l at r (slice at (at + r) l)
from_own l at r h =
    record {
      count = sym (part_length at r l h);
      list =
          sym
          (ap (λ (t : List ℕ). take at l ++ (t ++ drop (at + r) l)) (slice_part at r l)
          ∙ ap (λ (t : List ℕ). take at l ++ (take r (drop at l) ++ t)) (sym (drop-drop r at l))
          ∙ ap (λ (t : List ℕ). take at l ++ t) (take-append-drop r (drop at l))
          ∙ take-append-drop at l);
    }

-- one of its numbers changes
pub from_in : {l' l : List ℕ} {at r : ℕ} {out : List ℕ} → HoldsFrom l' l at r out → at + r ≤ length l → (i v : ℕ) → i < r → HoldsFrom (set l' (at + i) v) l at r (set out i v)
from_in {l'} {l} {at} {r} {out} H h i v b =
    let c = H.count in
    record {
      count = omega (arith, length-set out i v);
      list =
          ap (λ (t : List ℕ). set t (at + i) v) H.list
          ∙ set_right (take at l) (out ++ drop (at + r) l) at i v (length-take-le at l (omega arith))
          ∙ ap (λ (t : List ℕ). take at l ++ t) (set-append_left out (drop (at + r) l) i v (omega arith));
    }

-- ---- two workspaces that agree at places

pub slice_same : (w' w : List ℕ) (a k : ℕ) → length w' ≡ length w → a + k ≤ length w → ((j : ℕ) → a ≤ j → j < a + k → get_or w' j 0 ≡ get_or w j 0)
    → slice a (a + k) w' ≡ slice a (a + k) w
slice_same w' w a k n h s =
    ext_get_or 0 (slice a (a + k) w') (slice a (a + k) w)
    (part_length a k w' (omega arith) ∙ sym (part_length a k w h))
    (λ i b. let c : i < k = omega (arith, part_length a k w' (omega arith)) in at i c w' ∙ s (a + i) (omega arith) (omega arith) ∙ sym (at i c w))
  where
    at : (i : ℕ) → i < k → (l : List ℕ) → get_or (slice a (a + k) l) i 0 ≡ get_or l (a + i) 0
    at i c l = get_or-drop a (take (a + k) l) i 0 ∙ get_or-take (a + k) l (a + i) 0 (omega arith)

pub drop_same : (w' w : List ℕ) (a : ℕ) → length w' ≡ length w → ((j : ℕ) → a ≤ j → get_or w' j 0 ≡ get_or w j 0) → drop a w' ≡ drop a w
drop_same w' w a n s =
    ext_get_or 0 (drop a w') (drop a w) (length-drop a w' ∙ ap (λ (k : ℕ). k - a) n ∙ sym (length-drop a w))
    (λ i b. get_or-drop a w' i 0 ∙ s (a + i) (omega arith) ∙ sym (get_or-drop a w i 0))

-- a region written over
pub from_over : {l'' l' l : List ℕ} {at r : ℕ} {out more : List ℕ} → HoldsFrom l' l at r out → at + r ≤ length l → HoldsFrom l'' l' at r more → HoldsFrom l'' l at r more
from_over {l''} {l'} {l} {at} {r} {out} {more} A h B =
    record {
      count = B.count;
      list = B.list ∙ ap₂ (λ (x y : List ℕ). x ++ (more ++ y)) (from_front A h) (from_back A h);
    }
