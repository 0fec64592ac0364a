-- Lines listed once: the marks are how often each line was listed, so that a line met again is listed twice, and one without a mark not at all.
use Prim.Native.Nat.{ℕ, zero, suc, ◌+◌, ◌≤◌, ◌<◌}
use mathlib.Core.Path.{◌≡◌, refl, sym, ap, ◌∙◌}
use mathlib.Core.Bool.{Bool, true, false, true≢false}
use mathlib.Core.List.{List, [], ◌∷◌}
use native.Mathlib.Decide.{ℕ_discrete}
use native.Mathlib.Omega.{arith}
use native.Mathlib.Numerals.{add-one}
use lib.Dec.{eqb}
use lib.ListN.{length, get_or, set, take, length-set}
use lib.Seq.{get_or-set_same, get_or-set_other}
use Rattle.rules.specs.Lists.{one, count}
use Rattle.rules.specs.Refusals.{most_lines}
use Rattle.chain_laws.proofs.Counts.{one_same, one_other}
use Rattle.std.proofs.lemmas.List.{length-take, get_or-take}
use Rattle.std.specs.Bool.{MatchBool}
use Rattle.std.specs.List.{AllWithin, HoldsAt}
use Rattle.check_lines.specs.Lines.{mark, AllSeen}

count_next : (p : ℕ) (l : List ℕ) (i : ℕ) → i < length l → count p (take (suc i) l) ≡ count p (take i l) + one (eqb p (get_or l i 0))
unfolding count
count_next p [] i h = absurd (omega arith)
count_next p (a ∷ l) zero h = omega arith
count_next p (a ∷ l) (suc i) h = omega (arith, count_next p l i (omega arith))

count_part : (p : ℕ) (l : List ℕ) (i : ℕ) → count p (take i l) ≤ count p l
unfolding count
count_part p [] zero = omega arith
count_part p [] (suc i) = omega arith
count_part p (a ∷ l) zero = omega arith
count_part p (a ∷ l) (suc i) = omega (arith, count_part p l i)

count_none : (p : ℕ) (l : List ℕ) → count p (take 0 l) ≡ 0
unfolding count
count_none p l = refl

-- the marks, with the first i of a row listed
pub record Noting (seen seen₀ : List Bool) (listed : List ℕ) (i : ℕ) : Type 0 where
  pub long : length seen ≡ most_lines
  pub counted : (y : ℕ) → y < most_lines → mark seen y ≡ mark seen₀ y + count y (take i listed)

pub noting_start : (seen : List Bool) (listed : List ℕ) → length seen ≡ most_lines → Noting seen seen listed 0
noting_start seen listed l = record { long = l; counted = λ y h. omega (arith, count_none y listed) }

module _ (seen seen₀ : List Bool) (listed : List ℕ) (i : ℕ) (h : Noting seen seen₀ listed i) (k : i < length listed) (b : get_or listed i 0 < most_lines) where
  abbrev it : ℕ
  it = get_or listed i 0

  marked_now : (y : ℕ) → y ≡ it → mark (set seen it true) y ≡ 1
  marked_now y q = ap one (ap (λ (n : ℕ). get_or (set seen it true) n false) q ∙ get_or-set_same seen it true false (omega (arith, h.long)))

  marked_else : (y : ℕ) → (y ≡ it → ⊥) → mark (set seen it true) y ≡ mark seen y
  marked_else y q = ap one (get_or-set_other seen it y true false q)

  count_now : (y : ℕ) → count y (take (i + 1) listed) ≡ count y (take i listed) + one (eqb y it)
  count_now y = rw add-one (count_next y listed i k)

  pub noting_next : get_or seen it false ≡ false → Noting (set seen it true) seen₀ listed (i + 1)
  noting_next z =
      record {
        long = length-set seen it true ∙ h.long;
        counted = λ y c.
            elim (ℕ_discrete y it) [
              | yes q ↦
                  let f : mark seen y ≡ 0 = ap one (ap (λ (n : ℕ). get_or seen n false) q ∙ z) in
                  omega (arith, h.counted y c, one_same y it q, marked_now y q, count_now y)
              | no q ↦ omega (arith, h.counted y c, one_other y it q, marked_else y q, count_now y)
            ];
      }

  pub noting_twice : get_or seen it false ≡ true → 1 < mark seen₀ it + count it listed
  noting_twice z =
      let f : mark seen it ≡ 1 = ap one z in
      omega (arith, h.counted it b, one_same it it refl, count_part it listed (i + 1), count_now it)

-- ---- marks looked at by `all`

pub seen_told : (seen : List Bool) (n : ℕ) (r : Bool) → n ≤ length seen
    → MatchBool r (AllWithin (λ m. m ≡ true) (take n seen) 0 (length (take n seen))) ((k : ℕ) × (k < length (take n seen)) × HoldsAt (λ m. m ≡ false) (take n seen) k)
    → AllSeen seen n r
seen_told seen n true l h =
    record {
      every = λ e y b. ap one (sym (get_or-take n seen y false b) ∙ h y false (omega arith) (omega (arith, length-take n seen)));
      missing = λ e. absurd (true≢false e);
    }
seen_told seen n false l h =
    record {
      every = λ e. absurd (true≢false (sym e));
      missing = λ e. let b : h.0 < n = omega (arith, h.1, length-take n seen) in (h.0, b, ap one (sym (get_or-take n seen h.0 false b) ∙ h.2 false));
    }
