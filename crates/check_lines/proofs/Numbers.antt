-- Rows of numbers that are the same; and where the coordinates of lines begin.
use Prim.Native.Nat.{ℕ, suc, ◌+◌, ◌-◌, ◌≤◌, ◌<◌}
use mathlib.Core.Path.{◌≡◌, refl, sym, ap, ◌∙◌}
use mathlib.Core.Bool.{Bool}
use mathlib.Core.List.{List, [], ◌∷◌}
use native.Mathlib.Decide.{ℕ_discrete, dec_lt}
use native.Mathlib.Omega.{arith}
use native.Mathlib.Numerals.{add-one}
use lib.Dec.{eqb}
use lib.ListN.{length, get_or, set, take, drop, length-set, length-drop, take-append-drop}
use lib.Seq.{take-suc, take_all, get_or-set_same, get_or-set_other}
use Rattle.std.specs.Bool.{Decides}
use Rattle.std.proofs.lemmas.Bool.{false≢true}
use Rattle.std.proofs.lemmas.Bool.Decides.{same_from_decides, Decides-like, Decides-and, Decides-eqb}
use Rattle.std.proofs.lemmas.List.{get_or_default}
use Rattle.rules.specs.Lists.{total}
use Rattle.rules.specs.Refusals.{most_lines}
use Rattle.rules.specs.Check.{same_numbers}
use Rattle.check_lines.specs.Lines.{Below}
use Rattle.chain_laws.proofs.Totals.{total_append}

-- ---- rows that are the same

same_decided : (a b : List ℕ) → Decides (same_numbers a b) (a ≡ b)
unfolding same_numbers
same_decided [] [] = (λ e. refl, λ e. refl)
same_decided [] (y ∷ b) = (λ e. absurd (false≢true e), λ e. cc)
same_decided (x ∷ a) [] = (λ e. absurd (false≢true e), λ e. cc)
same_decided (x ∷ a) (y ∷ b) = Decides-like _ (λ p. cc) (λ e. (cc, cc)) (Decides-and (eqb x y) (same_numbers a b) (Decides-eqb x y) (same_decided a b))

pub same_is : (r : Bool) (a b : List ℕ) → Decides r (a ≡ b) → r ≡ same_numbers a b
same_is r a b d = same_from_decides r (same_numbers a b) d (same_decided a b)

-- ---- first coordinates

total_one : (a : ℕ) → total (a ∷ []) ≡ a
unfolding total
total_one a = omega arith

pub total_next : (l : List ℕ) (i : ℕ) → i < length l → total (take (i + 1) l) ≡ total (take i l) + get_or l i 0
total_next l i h =
    rw add-one (ap total (take-suc l i 0 h) ∙ total_append (take i l) (get_or l i 0 ∷ []) ∙ ap (λ (n : ℕ). total (take i l) + n) (total_one (get_or l i 0)))

pub total_part : (l : List ℕ) (i : ℕ) → total (take i l) ≤ total l
total_part l i = omega (arith, ap total (take-append-drop i l), total_append (take i l) (drop i l))

total_none : (l : List ℕ) → total (take 0 l) ≡ 0
unfolding total
total_none l = refl

-- the first i of them
pub record Placing (firsts counts : List ℕ) (sum i : ℕ) : Type 0 where
  pub long : length firsts ≡ most_lines
  pub within : i ≤ length counts
  pub summed : sum ≡ total (take i counts)
  pub placed : (y : ℕ) → y < i → get_or firsts y 0 ≡ total (take y counts)

pub placing_start : (firsts counts : List ℕ) → length firsts ≡ most_lines → Placing firsts counts 0 0
placing_start firsts counts l = record { long = l; within = omega arith; summed = sym (total_none counts); placed = λ y h. absurd (omega arith) }

pub placing_next : (firsts counts : List ℕ) (sum i : ℕ) → Placing firsts counts sum i → i < length counts → length counts ≤ most_lines
    → Placing (set firsts i sum) counts (sum + get_or counts i 0) (i + 1)
placing_next firsts counts sum i p h few =
    record {
      long = length-set firsts i sum ∙ p.long;
      within = omega arith;
      summed = ap (λ (n : ℕ). n + get_or counts i 0) p.summed ∙ sym (total_next counts i h);
      placed = λ y b.
          elim (ℕ_discrete y i) [
            | yes q ↦ ap (λ (n : ℕ). get_or (set firsts i sum) n 0) q ∙ get_or-set_same firsts i sum 0 (omega (arith, p.long)) ∙ p.summed ∙ ap (λ (n : ℕ). total (take n counts)) (sym q)
            | no q ↦ get_or-set_other firsts i y sum 0 q ∙ p.placed y (earlier y q b)
          ];
    }
  where
    earlier : (y : ℕ) → (y ≡ i → ⊥) → y < i + 1 → y < i
    earlier y q b = elim (dec_lt y i) [ yes l ↦ l | no n ↦ absurd (q (omega arith)) ]

-- ---- an element of a row below n

pub below_at : (n : ℕ) (l : List ℕ) (k y : ℕ) → Below n l → k < length l → y ≡ get_or l k y → y < n
below_at n l k y b h e = omega (arith, b k h, e, get_or_default l k y 0 h)

pub all_behind : (l : List ℕ) → take (length l - 1) (drop 1 l) ≡ drop 1 l
all_behind l = take_all (length l - 1) (drop 1 l) (omega (arith, length-drop 1 l))

pub below_drop : (n : ℕ) (l : List ℕ) → Below n l → Below n (drop 1 l)
below_drop n [] b i h = absurd (omega arith)
below_drop n (a ∷ l) b i h = b (suc i) (omega arith)
