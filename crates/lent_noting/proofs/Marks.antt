-- Lines noted one by one. A part of a list is gone through, and each number of it that has the mark b gets the next: so the marks are those before and
-- how often each number stands in what is gone through, and a number met again has another mark.
use Prim.Native.Nat.{ℕ, zero, suc, ◌+◌, ◌≤◌, ◌<◌}
use mathlib.Core.Path.{◌≡◌, refl, sym, ap, ◌∙◌, subst}
use mathlib.Core.Bool.{Bool, true, false, ◌&&◌, true≢false}
use mathlib.Core.List.{[], List, ◌∷◌}
use native.Mathlib.Decide.{ℕ_discrete}
use native.Mathlib.Omega.{arith}
use native.Mathlib.Numerals.{add-one}
use borrow.Author.Tests.{eqb-true, ltb-true, lt-ltb, eq-eqb}
use lib.Dec.{eqb, ltb}
use lib.ListN.{length, get_or, set, take, length-set}
use lib.Seq.{get_or-set_same, get_or-set_other}
use Rattle.rules.specs.Lists.{one, count, total}
use Rattle.rules.specs.Refusals.{most_lines}
use Rattle.chain_laws.proofs.Counts.{one_same, one_other, pos_of, zero_of, count_at}
use Rattle.build_lines.proofs.Passing.{plain_at, total_next, total_part}
use Rattle.lent_noting.specs.Noting.{fresh, Fit, Awaited}

-- ---- numbers of the first i

count_suc : (p : ℕ) (l : List ℕ) (i : ℕ) → i < length l → count p (take (suc i) l) ≡ count p (take i l) + one (eqb p (get_or l i 0))
unfolding count
count_suc p [] i h = absurd (omega arith)
count_suc p (a ∷ l) zero h = omega arith
count_suc p (a ∷ l) (suc i) h = omega (arith, count_suc p l i (omega arith))

count_next : (p : ℕ) (l : List ℕ) (i : ℕ) → i < length l → count p (take (i + 1) l) ≡ count p (take i l) + one (eqb p (get_or l i 0))
count_next p l i h = rw add-one (count_suc p l i h)

count_part : (p : ℕ) (l : List ℕ) (i : ℕ) → count p (take i l) ≤ count p l
unfolding count
count_part p [] zero = omega arith
count_part p [] (suc i) = omega arith
count_part p (a ∷ l) zero = omega arith
count_part p (a ∷ l) (suc i) = omega (arith, count_part p l i)

none_yet : (p : ℕ) (l : List ℕ) → count p (take 0 l) ≡ 0
unfolding count
none_yet p l = refl

-- what holds of the first i, and of the next
each_next : (P : ℕ → Type 0) (l : List ℕ) (i : ℕ) → i < length l → ((y : ℕ) → 0 < count y (take i l) → P y) → P (get_or l i 0)
    → (y : ℕ) → 0 < count y (take (i + 1) l) → P y
each_next P l i h all here y k =
    elim (ℕ_discrete y (get_or l i 0)) [
      | yes q ↦ subst P (sym q) here
      | no q ↦ all y (omega (arith, count_next y l i h, one_other y (get_or l i 0) q))
    ]

-- ---- marks

-- the first i of a part had the mark b, each once, and have the next
pub record Stepping (seen seen₀ part : List ℕ) (b i : ℕ) : Type 0 where
  pub long : length seen ≡ most_lines
  pub counted : (y : ℕ) → y < most_lines → get_or seen y 0 ≡ get_or seen₀ y 0 + count y (take i part)
  pub low : (y : ℕ) → 0 < count y (take i part) → y < most_lines
  pub had : (y : ℕ) → 0 < count y (take i part) → get_or seen₀ y 0 ≡ b
  pub once : (y : ℕ) → count y (take i part) ≤ 1

pub stepping_start : (seen part : List ℕ) (b : ℕ) → length seen ≡ most_lines → Stepping seen seen part b 0
stepping_start seen part b l =
    record {
      long = l;
      counted = λ y h. omega (arith, none_yet y part);
      low = λ y h. absurd (omega (arith, none_yet y part));
      had = λ y h. absurd (omega (arith, none_yet y part));
      once = λ y. omega (arith, none_yet y part);
    }

module _ {seen seen₀ part : List ℕ} {b i : ℕ} (s : Stepping seen seen₀ part b i) (k : i < length part) (w : get_or part i 0 < most_lines) where
  abbrev y₀ : ℕ
  y₀ = get_or part i 0

  not_yet : get_or seen y₀ 0 ≡ b → count y₀ (take i part) ≡ 0
  not_yet e = zero_of _ (λ h. omega (arith, s.counted y₀ w, s.had y₀ h))

  pub stepping_next : get_or seen y₀ 0 ≡ b → Stepping (set seen y₀ (suc b)) seen₀ part b (i + 1)
  stepping_next e =
      let z : count y₀ (take i part) ≡ 0 = not_yet e in
      let f : get_or seen₀ y₀ 0 ≡ b = omega (arith, s.counted y₀ w) in
      record {
        long = length-set seen y₀ (suc b) ∙ s.long;
        counted = λ y c.
            elim (ℕ_discrete y y₀) [
              | yes q ↦
                  let g : get_or (set seen y₀ (suc b)) y 0 ≡ suc b = ap (λ (n : ℕ). get_or (set seen y₀ (suc b)) n 0) q ∙ get_or-set_same seen y₀ (suc b) 0 (omega (arith, s.long)) in
                  let m : get_or seen₀ y 0 ≡ b = ap (λ (n : ℕ). get_or seen₀ n 0) q ∙ f in
                  let o : count y (take i part) ≡ 0 = ap (λ (n : ℕ). count n (take i part)) q ∙ z in
                  omega (arith, count_next y part i k, one_same y y₀ q)
              | no q ↦ omega (arith, s.counted y c, count_next y part i k, one_other y y₀ q, get_or-set_other seen y₀ y (suc b) 0 q)
            ];
        low = each_next (λ y. y < most_lines) part i k s.low w;
        had = each_next (λ y. get_or seen₀ y 0 ≡ b) part i k s.had f;
        once = λ y.
            elim (ℕ_discrete y y₀) [
              | yes q ↦ let o : count y (take i part) ≡ 0 = ap (λ (n : ℕ). count n (take i part)) q ∙ z in omega (arith, count_next y part i k, one_same y y₀ q)
              | no q ↦ omega (arith, s.once y, count_next y part i k, one_other y y₀ q)
            ];
      }

  -- another mark than b: the number had another, or it stands there again
  stepping_again : (get_or seen y₀ 0 ≡ b → ⊥) → get_or seen₀ y₀ 0 ≡ b → 1 < count y₀ part
  stepping_again d e =
      omega (arith, s.counted y₀ w, pos_of (count y₀ (take i part)) (λ z. d (omega (arith, s.counted y₀ w))), count_next y₀ part i k, one_same y₀ y₀ refl, count_part y₀ part (i + 1))

  stepping_marked : (get_or seen y₀ 0 ≡ 0 → ⊥) → 1 < get_or seen₀ y₀ 0 + count y₀ part
  stepping_marked d = omega (arith, s.counted y₀ w, pos_of (get_or seen y₀ 0) d, count_next y₀ part i k, one_same y₀ y₀ refl, count_part y₀ part (i + 1))

stands_here : (part : List ℕ) (i : ℕ) → i < length part → 0 < count (get_or part i 0) part
stands_here part i h = count_at part i h

-- ---- a fresh line

and_told : (a b c : Bool) → (a && (b && c)) ≡ true → (a ≡ true) × (b ≡ true) × (c ≡ true)
and_told true true true e = (refl, refl, refl)
and_told true true false e = absurd (true≢false (sym e))
and_told true false c e = absurd (true≢false (sym e))
and_told false b c e = absurd (true≢false (sym e))

module _ (seen counts kinds : List ℕ) (y : ℕ) where
  pub fresh_plain : {r : Bool} → y < length counts → get_or seen y 0 ≡ 0 → r ≡ plain_at counts kinds y → r ≡ fresh seen counts kinds y
  fresh_plain h z e = rw (lt-ltb y (length counts) h, eq-eqb (get_or seen y 0) 0 z) e

  pub fresh_told : {r : Bool} → r ≡ fresh seen counts kinds y → r ≡ true → (y < length counts) × (get_or seen y 0 ≡ 0) × (plain_at counts kinds y ≡ true)
  fresh_told e f =
      let a = and_told (ltb y (length counts)) (eqb (get_or seen y 0) 0) (plain_at counts kinds y) (sym e ∙ f) in
      (ltb-true y (length counts) a.0, eqb-true (get_or seen y 0) 0 a.1, a.2)

  pub stale : {r : Bool} → r ≡ fresh seen counts kinds y → r ≡ false → y < length counts → plain_at counts kinds y ≡ true → get_or seen y 0 ≡ 0 → ⊥
  stale {r} e f h p z =
      let g : plain_at counts kinds y ≡ fresh seen counts kinds y = fresh_plain h z refl in
      true≢false (sym p ∙ g ∙ sym e ∙ f)

-- ---- the first i members

pub record Noting (seen seen₀ counts groups kinds : List ℕ) (group : ℕ) (lines marks : List ℕ) (i : ℕ) : Type 0 where
  pub stepping : Stepping seen seen₀ lines 0 i
  pub low : (y : ℕ) → 0 < count y (take i lines) → y < length counts
  pub plain : (y : ℕ) → 0 < count y (take i lines) → plain_at counts kinds y ≡ true
  pub grouped : (y : ℕ) → 0 < count y (take i lines) → get_or groups y 0 ≡ group
  pub drawn : (j : ℕ) → j < i → get_or marks j 0 ≤ 1

pub noting_start : (seen counts groups kinds : List ℕ) (group : ℕ) (lines marks : List ℕ) → length seen ≡ most_lines → Noting seen seen counts groups kinds group lines marks 0
noting_start seen counts groups kinds group lines marks l =
    record {
      stepping = stepping_start seen lines 0 l;
      low = λ y h. absurd (omega (arith, none_yet y lines));
      plain = λ y h. absurd (omega (arith, none_yet y lines));
      grouped = λ y h. absurd (omega (arith, none_yet y lines));
      drawn = λ j h. absurd (omega arith);
    }

module _ {seen seen₀ counts groups kinds : List ℕ} {group : ℕ} {lines marks : List ℕ} {i : ℕ} (n : Noting seen seen₀ counts groups kinds group lines marks i)
    (few : length counts ≤ most_lines) (k : i < length lines) where
  abbrev line : ℕ
  line = get_or lines i 0

  here : 0 < count line lines
  here = stands_here lines i k

  -- the line at hand is none, or not plain, or was met
  pub noting_stale : {r : Bool} → r ≡ fresh seen counts kinds line → r ≡ false → Fit seen₀ counts groups kinds group lines marks → ⊥
  noting_stale e f t =
      stale seen counts kinds line e f (t.low line here) (t.plain line here)
      (zero_of _ (λ d. omega (arith, stepping_marked n.stepping k (omega (arith, t.low line here)) (λ z. omega arith), t.once line here)))

  pub noting_mixed : (get_or groups line 0 ≡ group → ⊥) → Fit seen₀ counts groups kinds group lines marks → ⊥
  noting_mixed d t = d (t.grouped line here)

  pub noting_above : length marks ≡ length lines → 1 < get_or marks i 0 → Fit seen₀ counts groups kinds group lines marks → ⊥
  noting_above l d t = omega (arith, t.drawn i (omega arith))

  pub noting_next : {r : Bool} → r ≡ fresh seen counts kinds line → r ≡ true → get_or groups line 0 ≡ group → get_or marks i 0 ≤ 1
      → Noting (set seen line 1) seen₀ counts groups kinds group lines marks (i + 1)
  noting_next e f g m =
      let a = fresh_told seen counts kinds line e f in
      record {
        stepping = stepping_next n.stepping k (omega (arith, a.0)) a.1;
        low = each_next (λ y. y < length counts) lines i k n.low a.0;
        plain = each_next (λ y. plain_at counts kinds y ≡ true) lines i k n.plain a.2;
        grouped = each_next (λ y. get_or groups y 0 ≡ group) lines i k n.grouped g;
        drawn = λ j h. elim (ℕ_discrete j i) [ yes q ↦ subst (λ (x : ℕ). get_or marks x 0 ≤ 1) (sym q) m | no q ↦ n.drawn j (omega arith) ];
      }

-- ---- the first i of a listing

module _ {seen seen₀ listing : List ℕ} {i : ℕ} (s : Stepping seen seen₀ listing 1 i) where
  pub listing_far : i < length listing → most_lines ≤ get_or listing i 0 → Awaited seen₀ listing → ⊥
  listing_far k d t = omega (arith, t.low (get_or listing i 0) (stands_here listing i k))

  pub listing_other : i < length listing → get_or listing i 0 < most_lines → (get_or seen (get_or listing i 0) 0 ≡ 1 → ⊥) → Awaited seen₀ listing → ⊥
  listing_other k w d t =
      omega (arith, stepping_again s k w d (t.half (get_or listing i 0) (stands_here listing i k)), t.once (get_or listing i 0))

-- ---- places

pub record Placing (places counts : List ℕ) (sum i : ℕ) : Type 0 where
  pub long : length places ≡ most_lines
  pub sum_is : sum ≡ total (take i counts)
  pub placed : (y : ℕ) → y < i → get_or places y 0 ≡ total (take y counts)

pub placing_start : (places counts : List ℕ) → length places ≡ most_lines → Placing places counts 0 0
unfolding total
placing_start places counts h = record { long = h; sum_is = refl; placed = λ y k. absurd (omega arith) }

module _ {places counts : List ℕ} {sum i : ℕ} (s : Placing places counts sum i) where
  module _ (k : i < length counts) where
    pub placing_small : sum + get_or counts i 0 ≤ total counts
    placing_small = omega (arith, s.sum_is, total_next counts i k, total_part counts (i + 1))

    pub placing_next : i < most_lines → Placing (set places i sum) counts (sum + get_or counts i 0) (i + 1)
    placing_next w =
        record {
          long = length-set places i sum ∙ s.long;
          sum_is = omega (arith, s.sum_is, total_next counts i k);
          placed = λ y h.
              elim (ℕ_discrete y i) [
                | yes q ↦ ap (λ (n : ℕ). get_or (set places i sum) n 0) q ∙ get_or-set_same places i sum 0 (omega (arith, s.long)) ∙ s.sum_is ∙ ap (λ (n : ℕ). total (take n counts)) (sym q)
                | no q ↦ get_or-set_other places i y sum 0 q ∙ s.placed y (omega arith)
              ];
        }

-- ---- a line that is plain and has no mark
