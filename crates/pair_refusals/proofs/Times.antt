-- How often a number stands among the first of a list. None stands more than twice in all where each was met at most once before its place.
use Prim.Native.Nat.{ℕ, zero, suc, ◌+◌, ◌≤◌, ◌<◌}
use mathlib.Core.Path.{◌≡◌, refl, sym, ◌∙◌, ap}
use mathlib.Core.Bool.{Bool, true, false, cond}
use Rattle.std.specs.Prelude.{count_by}
use Rattle.std.proofs.lemmas.List.Recursion.{is_count_by}
use mathlib.Core.List.{List, [], ◌∷◌}
use native.Mathlib.Decide.{ℕ_discrete}
use native.Mathlib.Omega.{arith}
use native.Mathlib.Numerals.{add-one}
use lib.Dec.{eqb, ltb}
use mir.Val.{bool_byte}
use lib.ListN.{length, get_or, take}
use lib.Seq.{take_all}
use borrow.Author.Tests.{ltb-true, ltb-false, lt-ltb, le-ltb, eq-eqb, ne_eqb}
use Rattle.rules.specs.Lists.{one, count}
use Rattle.rules.specs.Refusals.{more_than_twice}

one_more : (b : Bool) (n : ℕ) → one b + n ≡ cond b (1 + n) n
one_more true n = refl
one_more false n = omega arith

-- the book's count is the library's
pub counted : (p : ℕ) (l : List ℕ) → count p l ≡ count_by (eqb p) l
unfolding count
counted p = is_count_by (count p) (eqb p) refl (λ x xs. one_more (eqb p x) (count p xs))

pub none_first : (p : ℕ) (l : List ℕ) → count p (take 0 l) ≡ 0
unfolding count
none_first p l = refl

-- one place more
count_suc : (p : ℕ) (l : List ℕ) (i : ℕ) → i < length l → count p (take (suc i) l) ≡ count p (take i l) + one (eqb p (get_or l i 0))
unfolding count
count_suc p [] i h = absurd (omega arith)
count_suc p (a ∷ l) zero h = omega arith
count_suc p (a ∷ l) (suc i) h = omega (arith, count_suc p l i (omega arith))

module _ (p : ℕ) (l : List ℕ) (i : ℕ) (h : i < length l) where
  pub count_same : get_or l i 0 ≡ p → count p (take (i + 1) l) ≡ count p (take i l) + 1
  count_same e = rw (add-one, count_suc p l i h, eq-eqb p (get_or l i 0) (sym e))

  pub count_other : (get_or l i 0 ≡ p → ⊥) → count p (take (i + 1) l) ≡ count p (take i l)
  count_other d = rw (add-one, count_suc p l i h, ne_eqb p (get_or l i 0) (λ e. d (sym e))) (omega arith)

-- one place more, by a bit
pub count_next : (p : ℕ) (l : List ℕ) (i c : ℕ) → i < length l → c ≡ count p (take i l) → c + bool_byte (eqb p (get_or l i 0)) ≡ count p (take (i + 1) l)
count_next p l i c h e = sym (rw (add-one, count_suc p l i h) (bit (eqb p (get_or l i 0))))
  where
    bit : (b : Bool) → count p (take i l) + one b ≡ c + bool_byte b
    bit true = omega (arith, e)
    bit false = omega (arith, e)

pub count_whole : (p : ℕ) (l : List ℕ) (i c : ℕ) → length l ≤ i → c ≡ count p (take i l) → c ≡ count p l
count_whole p l i c h e = e ∙ ap (count p) (take_all i l h)

pub count_most : (p : ℕ) (l : List ℕ) (i : ℕ) → count p (take i l) ≤ i
unfolding count
count_most p l zero = omega arith
count_most p [] (suc i) = omega arith
count_most p (a ∷ l) (suc i) = go (eqb p a) (count_most p l i)
  where
    go : (t : Bool) → count p (take i l) ≤ i → one t + count p (take i l) ≤ suc i
    go true ih = omega arith
    go false ih = omega arith

-- places that don't hold p don't count
pub count_gap : (p : ℕ) (l : List ℕ) (k n : ℕ) → k + n ≤ length l → ((g : ℕ) → k ≤ g → g < k + n → get_or l g 0 ≡ p → ⊥)
    → count p (take (k + n) l) ≡ count p (take k l)
count_gap p l k zero h d = (let e : k + 0 ≡ k = omega arith in rw e)
count_gap p l k (suc n) h d =
    let e : k + suc n ≡ k + n + 1 = omega arith in
    rw e
    (count_other p l (k + n) (omega arith) (d (k + n) (omega arith) (omega arith))
    ∙ count_gap p l k n (omega arith) (λ g a b. d g a (omega arith)))

count_part : (p : ℕ) (l : List ℕ) (i : ℕ) → count p (take i l) ≤ count p l
unfolding count
count_part p [] zero = omega arith
count_part p [] (suc i) = omega arith
count_part p (a ∷ l) zero = omega arith
count_part p (a ∷ l) (suc i) = omega (arith, count_part p l i)

-- ---- more than twice

thrice_yes : (all : List ℕ) (p : ℕ) (l : List ℕ) → 2 < count p all → more_than_twice all (p ∷ l) ≡ true
unfolding more_than_twice
thrice_yes all p l h = rw (lt-ltb 2 (count p all) h, more_than_twice)

thrice_no : (all : List ℕ) (p : ℕ) (l : List ℕ) → count p all ≤ 2 → more_than_twice all (p ∷ l) ≡ more_than_twice all l
unfolding more_than_twice
thrice_no all p l h = rw (le-ltb 2 (count p all) h, more_than_twice)

thrice_at : (all l : List ℕ) (i : ℕ) → i < length l → 2 < count (get_or l i 0) all → more_than_twice all l ≡ true
thrice_at all [] i h k = absurd (omega arith)
thrice_at all (p ∷ l) zero h k = thrice_yes all p l k
thrice_at all (p ∷ l) (suc i) h k = go (ltb 2 (count p all)) refl (thrice_at all l i (omega arith) k)
  where
    go : (t : Bool) → ltb 2 (count p all) ≡ t → more_than_twice all l ≡ true → more_than_twice all (p ∷ l) ≡ true
    go true e ih = thrice_yes all p l (ltb-true 2 (count p all) e)
    go false e ih = thrice_no all p l (ltb-false 2 (count p all) e) ∙ ih

thrice_never : (all l : List ℕ) → ((p : ℕ) → count p all ≤ 2) → more_than_twice all l ≡ false
unfolding more_than_twice
thrice_never all [] h = refl
thrice_never all (p ∷ l) h = thrice_no all p l (h p) ∙ thrice_never all l h

-- no number stands more than twice among the first i
pub record Twice (l : List ℕ) (i : ℕ) : Type 0 where
  pub within : i ≤ length l
  pub at_most : (p : ℕ) → count p (take i l) ≤ 2

pub twice_start : (l : List ℕ) → Twice l 0
twice_start l = record { within = omega arith; at_most = λ p. omega (arith, none_first p l) }

module _ {l : List ℕ} {i : ℕ} (t : Twice l i) where
  pub twice_step : i < length l → count (get_or l i 0) (take i l) ≤ 1 → Twice l (i + 1)
  twice_step h k = record {
    within = omega arith;
    at_most = λ p.
        elim (ℕ_discrete (get_or l i 0) p) [
          | yes e ↦ omega (arith, count_same p l i h e, ap (λ (q : ℕ). count q (take i l)) e)
          | no d ↦ omega (arith, count_other p l i h d, t.at_most p)
        ];
  }

  pub twice_all : length l ≤ i → more_than_twice l l ≡ false
  twice_all h = thrice_never l l (λ p. omega (arith, ap (count p) (take_all i l h), t.at_most p))

-- the place i is the third
pub thrice_here : (l : List ℕ) (i : ℕ) → i < length l → 1 < count (get_or l i 0) (take i l) → more_than_twice l l ≡ true
thrice_here l i h k =
    thrice_at l l i h (omega (arith, count_same (get_or l i 0) l i h refl, count_part (get_or l i 0) l (i + 1)))
