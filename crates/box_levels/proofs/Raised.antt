-- One level above another: after i turns the boxes of the first i pairs stand behind the level, which is as it was, and those of the pairs to come make up the rest.
use Prim.Native.Nat.{ℕ, suc, ◌+◌, ◌-◌, ◌*◌, ◌/◌, ◌≤◌, ◌<◌}
use mathlib.Core.Path.{◌≡◌, refl, sym, ap, ap₂, subst, ◌∙◌}
use mathlib.Core.List.{List, [], ◌∷◌, ◌++◌, append_assoc, append-nil}
use native.Mathlib.Nat.{add-zero, sub-zero}
use native.Mathlib.Omega.{arith}
use lib.ListN.{length, set}
use Rattle.rules.specs.declared.Box.{Box}
use Rattle.rules.specs.Boxes.{union, in_pairs, four, box_numbers, box_at}
use Rattle.point_slices.specs.Holds.{HoldsFrom}
use Rattle.point_slices.proofs.Laws.{from_start, from_set, from_then, from_length, from_below}
use Rattle.box_laws.specs.Sound.{BoxSound}
use Rattle.box_laws.specs.Rows.{row}

-- four numbers stored one behind another
pub four_stores : (l : List ℕ) (at a b c d : ℕ) → at + 4 ≤ length l
    → HoldsFrom (set (set (set (set l at a) (at + 1) b) (at + 2) c) (at + 3) d) l at 4 (a ∷ b ∷ c ∷ d ∷ [])
four_stores l at a b c d h =
    subst (λ (x : ℕ). HoldsFrom (set (set (set (set l x a) (at + 1) b) (at + 2) c) (at + 3) d) l at 4 (a ∷ b ∷ c ∷ d ∷ [])) (add-zero at)
    (from_set (from_set (from_set (from_set (from_start l at) (omega arith) a) (omega arith) b) (omega arith) c) (omega arith) d)

-- what is written behind a box leaves it
box_kept : {b' b : List ℕ} {a r : ℕ} {out : List ℕ} → HoldsFrom b' b a r out → a + r ≤ length b → (j : ℕ) → j * 4 + 4 ≤ a → box_at b' j ≡ box_at b j
unfolding box_at
box_kept {b'} {b} h k j l = λ i. record {
  least_x = from_below h k (j * 4) (omega arith) i;
  least_y = from_below h k (j * 4 + 1) (omega arith) i;
  greatest_x = from_below h k (j * 4 + 2) (omega arith) i;
  greatest_y = from_below h k (j * 4 + 3) (omega arith) i;
}

-- ---- the pairs of a row, one after another
row_two : (b : List ℕ) (at n : ℕ) → 1 < n → row b at n ≡ box_at b at ∷ box_at b (at + 1) ∷ row b (at + 2) (n - 2)
unfolding row
row_two b at n h =
    let e : n ≡ suc (suc (n - 2)) = omega arith in
    let f : suc at ≡ at + 1 = omega arith in
    let g : suc (suc at) ≡ at + 2 = omega arith in
    ap (row b at) e ∙ ap₂ (λ (x y : ℕ). box_at b at ∷ box_at b x ∷ row b y (n - 2)) f g

pair_numbers : (b : List ℕ) (at n : ℕ) → 1 < n → box_numbers (in_pairs (row b at n)) ≡ four (union (box_at b at) (box_at b (at + 1))) ++ box_numbers (in_pairs (row b (at + 2) (n - 2)))
unfolding box_numbers in_pairs
pair_numbers b at n h = ap (λ (l : List Box). box_numbers (in_pairs l)) (row_two b at n h)

last_numbers : (b : List ℕ) (at n : ℕ) → n ≡ 1 → box_numbers (in_pairs (row b at n)) ≡ four (box_at b at)
unfolding box_numbers in_pairs row
last_numbers b at n e = ap (λ (x : ℕ). box_numbers (in_pairs (row b at x))) e

no_numbers : (b : List ℕ) (at n : ℕ) → n ≡ 0 → box_numbers (in_pairs (row b at n)) ≡ []
unfolding box_numbers in_pairs row
no_numbers b at n e = ap (λ (x : ℕ). box_numbers (in_pairs (row b at x))) e

-- ---- what is written
module _ (b₀ : List ℕ) (at n : ℕ) where
  abbrev goal : List ℕ
  goal = box_numbers (in_pairs (row b₀ at n))

  pub record Raised (b : List ℕ) (i : ℕ) : Type 0 where
    pub pairs : i * 2 ≤ n
    pub size : length b ≡ length b₀
    pub out : List ℕ
    pub holds : HoldsFrom b b₀ ((at + n) * 4) (i * 4) out
    pub goes : out ++ box_numbers (in_pairs (row b₀ (at + i * 2) (n - i * 2))) ≡ goal

  pub raised_start : Raised b₀ 0
  raised_start = record {
    pairs = omega arith;
    size = refl;
    out = [];
    holds = from_start b₀ ((at + n) * 4);
    goes = ap₂ (λ (x y : ℕ). box_numbers (in_pairs (row b₀ x y))) (add-zero at) (sub-zero n);
  }

  module _ (room : (at + n + (n + 1) / 2) * 4 ≤ length b₀) where
    -- one box more behind those that stand
    more : {b b' : List ℕ} {i : ℕ} (x : Box) (r : Raised b i) → i < (n + 1) / 2 → HoldsFrom b' b ((at + n + i) * 4) 4 (four x)
        → HoldsFrom b' b₀ ((at + n) * 4) (i * 4 + 4) (r.out ++ four x)
    more {b} {b'} {i} x r l h =
        let e : (at + n + i) * 4 ≡ (at + n) * 4 + i * 4 = omega arith in
        from_then r.holds (omega arith) (subst (λ (p : ℕ). HoldsFrom b' b p 4 (four x)) e h)

    kept : {b : List ℕ} {i : ℕ} (r : Raised b i) (j : ℕ) → j < at + n → box_at b j ≡ box_at b₀ j
    kept {b} {i} r j l = box_kept r.holds (omega (arith, r.pairs)) j (omega arith)

    -- no NaN has come into the level
    pub raised_last : {b : List ℕ} {i : ℕ} → Raised b i → ((j : ℕ) → j < n → BoxSound (box_at b₀ (at + j))) → i * 2 < n → BoxSound (box_at b (at + i * 2))
    raised_last {i = i} r s l = subst BoxSound (sym (kept r (at + i * 2) (omega arith))) (s (i * 2) l)

    pub raised_pair : {b : List ℕ} {i : ℕ} → Raised b i → ((j : ℕ) → j < n → BoxSound (box_at b₀ (at + j))) → i * 2 + 1 < n
        → BoxSound (box_at b (at + i * 2)) × BoxSound (box_at b (at + i * 2 + 1))
    raised_pair {i = i} r s l =
        let e : at + (i * 2 + 1) ≡ at + i * 2 + 1 = omega arith in
        (raised_last r s (omega arith), subst BoxSound (ap (box_at b₀) e ∙ sym (kept r (at + i * 2 + 1) (omega arith))) (s (i * 2 + 1) l))

    pub raised_more : {b b' : List ℕ} {i : ℕ} (x : Box) → Raised b i → i * 2 + 1 < n → x ≡ union (box_at b (at + i * 2)) (box_at b (at + i * 2 + 1))
        → HoldsFrom b' b ((at + n + i) * 4) 4 (four x) → Raised b' (i + 1)
    raised_more {b} {b'} {i} x r l e h =
        let z : i * 4 + 4 ≡ (i + 1) * 4 = omega arith in
        let u : x ≡ union (box_at b₀ (at + i * 2)) (box_at b₀ (at + i * 2 + 1)) =
        e ∙ ap₂ union (kept r (at + i * 2) (omega arith)) (kept r (at + i * 2 + 1) (omega arith)) in
        let f : at + i * 2 + 2 ≡ at + (i + 1) * 2 = omega arith in
        let g : n - i * 2 - 2 ≡ n - (i + 1) * 2 = omega arith in
        let one : four x ++ box_numbers (in_pairs (row b₀ (at + (i + 1) * 2) (n - (i + 1) * 2))) ≡ box_numbers (in_pairs (row b₀ (at + i * 2) (n - i * 2))) =
        ap (λ (y : Box). four y ++ box_numbers (in_pairs (row b₀ (at + (i + 1) * 2) (n - (i + 1) * 2)))) u
        ∙ sym (pair_numbers b₀ (at + i * 2) (n - i * 2) (omega arith) ∙ ap₂ (λ (p q : ℕ). four (union (box_at b₀ (at + i * 2)) (box_at b₀ (at + i * 2 + 1))) ++ box_numbers (in_pairs (row b₀ p q))) f g) in
        record {
          pairs = omega arith;
          size = from_length h (omega (arith, r.size)) ∙ r.size;
          out = r.out ++ four x;
          holds = subst (λ (p : ℕ). HoldsFrom b' b₀ ((at + n) * 4) p (r.out ++ four x)) z (more x r (omega arith) h);
          goes = append_assoc r.out (four x) (box_numbers (in_pairs (row b₀ (at + (i + 1) * 2) (n - (i + 1) * 2)))) ∙ ap {B = List ℕ} (λ (l : List ℕ). r.out ++ l) one ∙ r.goes;
        }

    -- at the end nothing is left, or one box alone
    pub raised_even : {b : List ℕ} {i : ℕ} → Raised b i → n ≤ i * 2 → HoldsFrom b b₀ ((at + n) * 4) ((n + 1) / 2 * 4) goal
    raised_even {b} {i} r l =
        let z : i * 4 ≡ (n + 1) / 2 * 4 = omega (arith, r.pairs) in
        let all : r.out ≡ goal = sym (append-nil r.out) ∙ ap {B = List ℕ} (λ (x : List ℕ). r.out ++ x) (sym (no_numbers b₀ (at + i * 2) (n - i * 2) (omega arith))) ∙ r.goes in
        subst (λ (p : ℕ). HoldsFrom b b₀ ((at + n) * 4) p goal) z (subst (λ (x : List ℕ). HoldsFrom b b₀ ((at + n) * 4) (i * 4) x) all r.holds)

    pub raised_odd : {b b' : List ℕ} {i : ℕ} (x : Box) → Raised b i → n ≤ i * 2 + 1 → i * 2 < n → x ≡ box_at b (at + i * 2)
        → HoldsFrom b' b ((at + n + i) * 4) 4 (four x) → HoldsFrom b' b₀ ((at + n) * 4) ((n + 1) / 2 * 4) goal
    raised_odd {b} {b'} {i} x r l s e h =
        let z : i * 4 + 4 ≡ (n + 1) / 2 * 4 = omega arith in
        let u : x ≡ box_at b₀ (at + i * 2) = e ∙ kept r (at + i * 2) (omega arith) in
        let all : r.out ++ four x ≡ goal =
        ap {B = List ℕ} (λ (y : Box). r.out ++ four y) u ∙ ap {B = List ℕ} (λ (t : List ℕ). r.out ++ t) (sym (last_numbers b₀ (at + i * 2) (n - i * 2) (omega arith))) ∙ r.goes in
        subst (λ (p : ℕ). HoldsFrom b' b₀ ((at + n) * 4) p goal) z (subst (λ (t : List ℕ). HoldsFrom b' b₀ ((at + n) * 4) (i * 4 + 4) t) all (more x r (omega arith) h))
