-- Boxes in lent numbers: four numbers are a box, and a row of boxes is a part of the numbers.
use Prim.Native.Nat.{ℕ, zero, suc, ◌+◌, ◌-◌, ◌*◌, ◌/◌, ◌≤◌, ◌<◌}
use mathlib.Core.Path.{◌≡◌, refl, sym, ap, ◌∙◌}
use mathlib.Core.List.{List, [], ◌∷◌, ◌++◌, append_assoc}
use native.Mathlib.Nat.{add-zero}
use native.Mathlib.Omega.{arith}
use lib.ListN.{length, drop, get_or}
use lib.Seq.{drop-cons, drop-drop, get_or-drop}
use Rattle.rules.specs.declared.Box.{Box}
use Rattle.rules.specs.Boxes.{in_pairs, levels, stacked, four, box_numbers, box_at}
use Rattle.box_laws.specs.Rows.{row, nth}
use Rattle.box_laws.proofs.Levels.{higher, levels_first}

-- ---- the numbers of boxes
pub boxes_append : (a b : List Box) → box_numbers (a ++ b) ≡ box_numbers a ++ box_numbers b
unfolding box_numbers
boxes_append [] b = refl
boxes_append (x ∷ a) b = ap {B = List ℕ} (λ (l : List ℕ). four x ++ l) (boxes_append a b)

pub boxes_length : (l : List Box) → length (box_numbers l) ≡ length l * 4
unfolding box_numbers
boxes_length [] = refl
boxes_length (x ∷ l) = omega (arith, boxes_length l)

pub pairs_length : (l : List Box) → length (in_pairs l) ≡ (length l + 1) / 2
unfolding in_pairs
pairs_length [] = refl
pairs_length (a ∷ []) = refl
pairs_length (a ∷ b ∷ l) = omega (arith, pairs_length l)

pub row_length : (b : List ℕ) (at n : ℕ) → length (row b at n) ≡ n
unfolding row
row_length b at zero = refl
row_length b at (suc n) = ap suc (row_length b (suc at) n)

-- ---- a box where it stands
drop_one : (l : List ℕ) (i : ℕ) → i < length l → drop i l ≡ get_or l i 0 ∷ drop (i + 1) l
drop_one l i h = let e : suc i ≡ i + 1 = omega arith in drop-cons l i 0 h ∙ ap {B = List ℕ} (λ (x : ℕ). get_or l i 0 ∷ drop x l) e

pub four_at : (b : List ℕ) (j : ℕ) → j * 4 + 4 ≤ length b → drop (j * 4) b ≡ four (box_at b j) ++ drop (suc j * 4) b
unfolding box_at
four_at b j h =
    let e1 : j * 4 + 1 + 1 ≡ j * 4 + 2 = omega arith in
    let e2 : j * 4 + 2 + 1 ≡ j * 4 + 3 = omega arith in
    let e3 : j * 4 + 3 + 1 ≡ suc j * 4 = omega arith in
    drop_one b (j * 4) (omega arith)
    ∙ ap {B = List ℕ} (λ (l : List ℕ). get_or b (j * 4) 0 ∷ l) (drop_one b (j * 4 + 1) (omega arith)
    ∙ ap {B = List ℕ} (λ (l : List ℕ). get_or b (j * 4 + 1) 0 ∷ l) (ap (λ (x : ℕ). drop x b) e1 ∙ drop_one b (j * 4 + 2) (omega arith)
    ∙ ap {B = List ℕ} (λ (l : List ℕ). get_or b (j * 4 + 2) 0 ∷ l) (ap (λ (x : ℕ). drop x b) e2 ∙ drop_one b (j * 4 + 3) (omega arith)
    ∙ ap {B = List ℕ} (λ (x : ℕ). get_or b (j * 4 + 3) 0 ∷ drop x b) e3)))

pub row_numbers : (b : List ℕ) (at n : ℕ) → (at + n) * 4 ≤ length b → drop (at * 4) b ≡ box_numbers (row b at n) ++ drop ((at + n) * 4) b
unfolding row box_numbers
row_numbers b at zero h = ap (λ (x : ℕ). drop (x * 4) b) (sym (add-zero at))
row_numbers b at (suc n) h =
    let e : suc at + n ≡ at + suc n = omega arith in
    four_at b at (omega arith)
    ∙ ap {B = List ℕ} (λ (l : List ℕ). four (box_at b at) ++ l) (row_numbers b (suc at) n (omega arith) ∙ ap (λ (x : ℕ). box_numbers (row b (suc at) n) ++ drop (x * 4) b) e)

-- a row of boxes that stand there
pub row_back : (b : List ℕ) (at : ℕ) (l : List Box) (rest : List ℕ) → drop (at * 4) b ≡ box_numbers l ++ rest → row b at (length l) ≡ l
unfolding row box_numbers box_at
row_back b at [] rest e = refl
row_back b at (a ∷ l) rest e =
    ap {B = List Box} (λ (x : Box). x ∷ row b (suc at) (length l)) first
    ∙ ap {B = List Box} (λ (x : List Box). a ∷ x) (row_back b (suc at) l rest later)
  where
    number : (k : ℕ) → get_or b (at * 4 + k) 0 ≡ get_or (four a ++ (box_numbers l ++ rest)) k 0
    number k = sym (get_or-drop (at * 4) b k 0) ∙ ap (λ (x : List ℕ). get_or x k 0) e

    first : box_at b at ≡ a
    first =
        let p : get_or b (at * 4) 0 ≡ a.least_x = ap (λ (x : ℕ). get_or b x 0) (sym (add-zero (at * 4))) ∙ number 0 in
        λ i. record { least_x = p i; least_y = number 1 i; greatest_x = number 2 i; greatest_y = number 3 i }

    later : drop (suc at * 4) b ≡ box_numbers l ++ rest
    later =
        let z : suc at * 4 ≡ at * 4 + 4 = omega arith in
        ap (λ (x : ℕ). drop x b) z ∙ sym (drop-drop 4 (at * 4) b) ∙ ap (drop 4) e

-- box i of a row
pub row_at : (b : List ℕ) (at n i : ℕ) → i < n → nth (row b at n) i ≡ box_at b (at + i)
unfolding row
row_at b at zero i h = absurd (omega arith)
row_at b at (suc n) zero h = ap (box_at b) (sym (add-zero at))
row_at b at (suc n) (suc i) h = let e : suc at + i ≡ at + suc i = omega arith in row_at b (suc at) n i (omega arith) ∙ ap (box_at b) e

-- the boxes of a level that stands first
pub first_boxes : (l : List Box) (rest : List ℕ) (j : ℕ) → j < length l → box_at (box_numbers (stacked l) ++ rest) j ≡ nth l j
unfolding stacked
first_boxes l rest j h =
    let b = box_numbers (levels (length l) l) ++ rest in
    let more = box_numbers (higher (length l) l) ++ rest in
    let e : b ≡ box_numbers l ++ more =
    ap {B = List ℕ} (λ (x : List Box). box_numbers x ++ rest) (levels_first (length l) l)
    ∙ ap {B = List ℕ} (λ (x : List ℕ). x ++ rest) (boxes_append l (higher (length l) l))
    ∙ append_assoc (box_numbers l) (box_numbers (higher (length l) l)) rest in
    let z : 0 + j ≡ j = omega arith in
    ap (box_at b) (sym z) ∙ sym (row_at b 0 (length l) j h) ∙ ap (λ (x : List Box). nth x j) (row_back b 0 l more e)
