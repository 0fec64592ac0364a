-- The lines that don't pass through: each stands once among them, and no other number does. By its kind and its coordinate count a line is one of them or not.
use Prim.Native.Nat.{ℕ, zero, suc, ◌+◌, ◌≤◌, ◌<◌}
use mathlib.Core.Path.{◌≡◌, refl, sym, ap, ◌∙◌}
use mathlib.Core.Bool.{Bool, true, false, beq}
use mathlib.Core.List.{[], List, ◌∷◌, flat_map}
use native.Mathlib.Omega.{arith}
use native.Mathlib.Numerals.{one-add}
use lib.Dec.{ltb}
use lib.ListN.{length, get_or, drop, get_or-eq_default}
use lib.Seq.{get_or-drop}
use borrow.Author.Tests.{ltb-true, ltb-false}
use Rattle.rules.specs.Lists.{one, count}
use Rattle.rules.specs.Plane.{Point, points}
use Rattle.rules.specs.Chaining.{Line, plain, alone, pieces}
use Rattle.rules.specs.Layout.{Lines, lines, lines_in}
use Rattle.rules.specs.Pieces.{plain_lines}
use Rattle.chain_laws.proofs.Counts.{one_le, one_same, one_other}
use Rattle.chain_laws.proofs.Lines.{pieces_take, pieces_leave}
use Rattle.chain_laws.proofs.Room.{lines_length}
use Rattle.chain_laws.proofs.Sound.{no_line}
use Rattle.build_lines.specs.Taken.{Adds}
use Rattle.build_lines.proofs.Passing.{plain_at, plain_at_lem}

-- ---- from line k on

abbrev plain_from : ℕ → List Line → List ℕ
plain_from k ls = flat_map (λ p. p.lines) (pieces true k ls)

plain_below : (k y : ℕ) (ls : List Line) → y < k → count y (plain_from k ls) ≡ 0
unfolding pieces flat_map count alone
plain_below k y [] h = refl
plain_below k y (l ∷ ls) h = go (beq true (plain l)) refl (plain_below (suc k) y ls (omega arith))
  where
    go : (t : Bool) → beq true (plain l) ≡ t → count y (plain_from (suc k) ls) ≡ 0 → count y (plain_from k (l ∷ ls)) ≡ 0
    go true e ih = rw (pieces_take true k l ls e) (omega (arith, one_other y k (λ (q : y ≡ k). omega arith)))
    go false e ih = rw (pieces_leave true k l ls e) ih

plain_counted : (k i : ℕ) (ls : List Line) → count (k + i) (plain_from k ls) ≡ one (plain (get_or ls i no_line))
unfolding pieces flat_map count alone plain
plain_counted k i [] = refl
plain_counted k zero (l ∷ ls) = go (plain l) refl
  where
    z : k + 0 ≡ k
    z = omega arith

    go : (t : Bool) → plain l ≡ t → count (k + 0) (plain_from k (l ∷ ls)) ≡ one (plain l)
    go true e = rw (pieces_take true k l ls (ap (beq true) e)) (omega (arith, one_same (k + 0) k z, plain_below (suc k) (k + 0) ls (omega arith), ap one e))
    go false e = rw (pieces_leave true k l ls (ap (beq true) e)) (omega (arith, plain_below (suc k) (k + 0) ls (omega arith), ap one e))
plain_counted k (suc i) (l ∷ ls) = go (beq true (plain l)) refl (plain_counted (suc k) i ls)
  where
    z : suc k + i ≡ k + suc i
    z = omega arith

    go : (t : Bool) → beq true (plain l) ≡ t → count (suc k + i) (plain_from (suc k) ls) ≡ one (plain (get_or ls i no_line))
        → count (k + suc i) (plain_from k (l ∷ ls)) ≡ one (plain (get_or ls i no_line))
    go true e ih =
        rw (pieces_take true k l ls e)
        (omega (arith, one_other (k + suc i) k (λ (q : k + suc i ≡ k). omega arith), ap (λ (j : ℕ). count j (plain_from (suc k) ls)) z))
    go false e ih = rw (pieces_leave true k l ls e) (ap (λ (j : ℕ). count j (plain_from (suc k) ls)) (sym z) ∙ ih)

-- ---- of a call

module _ (w : ℕ) (l : Lines) where
  abbrev ls : List Line
  ls = lines_in w l

  -- EACH PLAIN LINE ONCE
  plain_one : (y : ℕ) → count y (plain_lines w l) ≡ one (plain (get_or ls y no_line))
  unfolding plain_lines
  plain_one y = let z : y ≡ 0 + y = omega arith in ap (λ (j : ℕ). count j (plain_from 0 ls)) z ∙ plain_counted 0 y ls

  pub plain_once : (y : ℕ) → count y (plain_lines w l) ≤ 1
  plain_once y = omega (arith, plain_one y, one_le (plain (get_or ls y no_line)))

  -- and no number that is no line's
  pub plain_low : (y : ℕ) → 0 < count y (plain_lines w l) → y < length l.counts
  unfolding plain
  plain_low y h = go (ltb y (length l.counts)) refl
    where
      beyond : length l.counts ≤ y → one (plain (get_or ls y no_line)) ≡ 0
      beyond b =
          ap (λ (t : Line). one (plain t))
          (get_or-eq_default ls no_line {n = y} (omega (arith, lines_length (points w l.coordinates) l.counts l.groups l.kinds)))

      go : (t : Bool) → ltb y (length l.counts) ≡ t → y < length l.counts
      go true e = ltb-true _ _ e
      go false e = absurd (omega (arith, plain_one y, beyond (ltb-false _ _ e)))

  pub plain_is : Adds w l.counts l.coordinates → (y : ℕ) → y < length l.counts → count y (plain_lines w l) ≡ one (plain_at l.counts l.kinds y)
  plain_is adds y b = plain_one y ∙ ap one (plain_at_lem w l.coordinates l.counts l.groups l.kinds adds y b)

-- ---- groups

group_of : (ps : List Point) (cs gs ks : List ℕ) (k : ℕ) → k < length cs → (get_or (lines ps cs gs ks) k no_line).group ≡ get_or gs k 0
unfolding lines
group_of ps [] gs ks k b = absurd (omega arith)
group_of ps (c ∷ cs) gs ks zero b = refl
group_of ps (c ∷ cs) gs ks (suc k) b =
    group_of (drop c ps) cs (drop 1 gs) (drop 1 ks) k (omega arith) ∙ get_or-drop 1 gs k 0 ∙ ap (λ (i : ℕ). get_or gs i 0) (one-add k)

pub group_at : (w : ℕ) (l : Lines) (k : ℕ) → k < length l.counts → (get_or (lines_in w l) k no_line).group ≡ get_or l.groups k 0
group_at w l k b = group_of (points w l.coordinates) l.counts l.groups l.kinds k b
