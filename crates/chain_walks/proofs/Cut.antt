-- Parts of a list that stand one behind another: reading, storing and dropping in the second of two.
use Prim.Native.Nat.{ℕ, zero, suc, ◌+◌, ◌≤◌}
use mathlib.Core.Path.{◌≡◌, refl, sym, ap, ◌∙◌}
use mathlib.Core.List.{List, [], ◌∷◌, ◌++◌, append_assoc}
use native.Mathlib.Omega.{arith}
use lib.ListN.{length, get_or, take, drop, set, length-append, take-append-drop}
use lib.Seq.{slice, take_at, drop_at, get_or-append-add, drop-append-add}

pub cut : (a b : ℕ) (w : List ℕ) → a ≤ b → slice a b w ++ drop b w ≡ drop a w
cut zero b w h = take-append-drop b w
cut (suc a) zero w h = absurd (omega arith)
cut (suc a) (suc b) [] h = refl
cut (suc a) (suc b) (x ∷ w) h = cut a b w (omega arith)

pub cut_take : (a b : ℕ) (w : List ℕ) → a ≤ b → take a w ++ slice a b w ≡ take b w
cut_take zero b w h = refl
cut_take (suc a) zero w h = absurd (omega arith)
cut_take (suc a) (suc b) [] h = refl
cut_take (suc a) (suc b) (x ∷ w) h = ap (λ (r : List ℕ). x ∷ r) (cut_take a b w (omega arith))

pub set_right : (xs ys : List ℕ) (n i v : ℕ) → length xs ≡ n → set (xs ++ ys) (n + i) v ≡ xs ++ set ys i v
set_right [] ys n i v e = let q : n + i ≡ i = omega arith in rw q
set_right (x ∷ xs) ys zero i v e = absurd (omega arith)
set_right (x ∷ xs) ys (suc n) i v e =
    let q : suc n + i ≡ suc (n + i) = omega arith in
    rw q (ap (λ (r : List ℕ). x ∷ r) (set_right xs ys n i v (omega arith)))

pub get_d_right : (xs ys : List ℕ) (n i : ℕ) → length xs ≡ n → get_or (xs ++ ys) (n + i) 0 ≡ get_or ys i 0
get_d_right xs ys n i e = ap (λ (k : ℕ). get_or (xs ++ ys) (k + i) 0) (sym e) ∙ get_or-append-add xs ys i 0

pub drop_right : (xs ys : List ℕ) (n i : ℕ) → length xs ≡ n → drop (n + i) (xs ++ ys) ≡ drop i ys
drop_right xs ys n i e = ap (λ (k : ℕ). drop (k + i) (xs ++ ys)) (sym e) ∙ drop-append-add xs ys i

-- the second of three parts
pub slice_at : (a x b : List ℕ) (f t : ℕ) → length a ≡ f → f + length x ≡ t → slice f t (a ++ (x ++ b)) ≡ x
slice_at a x b f t p q =
    ap (λ (l : List ℕ). slice f t l) (sym (append_assoc a x b))
    ∙ ap (drop f) (take_at (a ++ x) b t (length-append a x ∙ omega arith))
    ∙ drop_at a x f p
