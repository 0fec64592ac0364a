-- The limit of an offset: its bits, its place between -1 and 1, and that a greater offset never has a lower limit.
use Prim.Native.Nat.{ℕ, ◌+◌, ◌-◌, ◌^◌, ◌≤◌, ◌<◌, zero-le}
use mathlib.Core.Path.{◌≡◌, refl, sym, ap, ◌∙◌, subst}
use mathlib.Core.Bool.{Bool, true, false, not, ◌&&◌, cond}
use native.Mathlib.Nat.{le_trans}
use native.Mathlib.Omega.{arith}
use borrow.Author.Tests.{lt-ltb, le-ltb, ltb-false}
use lib.Dec.{T, ltb}
use lib.Ieee.{Float, nan, binary64, size, round, of_bits, to_bits, fits, is_nan, le}
use lib.Ieee.Fits.{and_i, round-fits}
use lib.Ieee.Bits.{to_bits-of_bits, is_true}
use native.Mathlib.Decide.{dec_lt}
use Rattle.std.specs.Prelude.{Ok, Err, MatchResult}
use Rattle.std.specs.declared.result.Result.{Result}
use Rattle.rules.specs.declared.Refusal.{Refusal}
use Rattle.rules.specs.Answers.{Accepted, Refused, answered}
use Rattle.rules.specs.Root.{digits, floor_root}
use Rattle.rules.specs.Plane.{unity, minus_unity}
use Rattle.rules.specs.Refusals.{first_of, limit_bad}
use Rattle.rules.specs.Calls.{answer_of, unless}
use Rattle.float_order.specs.Rank.{rank}
use Rattle.float_order.proofs.Ranks.{rank_to_le, rank_high}
use Rattle.float_order.proofs.Order.{trans}
use Rattle.rules.specs.Offset.{offset_root, offset_limit, offset_refusal_of, offset_asked, limit_for}
use Rattle.float_offset.proofs.Roots.{root_falls, root_least, root_greatest}
use Rattle.float_offset.proofs.Patterns.{of_bits_lem, number}

limit_fits : (g : ℕ) → T (fits binary64 (offset_limit g))
unfolding offset_limit
limit_fits g = round-fits binary64 true (offset_root g) (2 ^ 53)

module _ (g : ℕ) (h : g ≤ 1000) where
  pub pattern : of_bits binary64 (0xbfd0_0000_0000_0000 + offset_root g) ≡ offset_limit g
  unfolding offset_limit
  pattern = of_bits_lem (offset_root g) (root_least g h) (root_greatest g)

  pub limit_number : T (not (is_nan (offset_limit g)))
  limit_number = subst (λ (v : Float). T (not (is_nan v))) pattern (number (offset_root g) (root_greatest g))

  -- the limit's bits are those of -1/4, and M
  pub limit_bits : to_bits binary64 (offset_limit g) ≡ 0xbfd0_0000_0000_0000 + offset_root g
  limit_bits =
      ap (to_bits binary64) (sym pattern)
      ∙ to_bits-of_bits binary64 (0xbfd0_0000_0000_0000 + offset_root g) (omega (arith, root_greatest g)) (number (offset_root g) (root_greatest g))

  limit_rank : 2 ^ 63 - (0xbfd0_0000_0000_0000 + offset_root g - 2 ^ 63) ≡ rank binary64 (offset_limit g)
  limit_rank =
      ap (λ (n : ℕ). 2 ^ 63 - (n - 2 ^ 63)) (sym limit_bits)
      ∙ rank_high binary64 (offset_limit g) (limit_fits g) limit_number (rw limit_bits (omega arith))

-- a greater offset never gives a lower limit
pub limit_grows : (g h : ℕ) → g ≤ h → h ≤ 1000 → T (le (offset_limit g) (offset_limit h))
limit_grows g h l b =
    let a : g ≤ 1000 = le_trans l b in
    rank_to_le binary64 (offset_limit g) (offset_limit h) (limit_fits g) (limit_fits h) (limit_number g a) (limit_number h b)
    (omega (arith, limit_rank g a, limit_rank h b, root_falls g h l))

-- ---- the limit lies between -1 and 1, so that it is never refused by 6
first_limit : offset_limit 0 ≡ minus_unity
unfolding offset_limit offset_root floor_root digits round size
first_limit = refl

under_one : T (le (offset_limit 1000) unity)
unfolding le offset_limit offset_root floor_root digits round size
under_one = tt

pub limit_good : (g : ℕ) → g ≤ 1000 → limit_bad (offset_limit g) ≡ false
unfolding limit_bad
limit_good g h =
    let a : T (le minus_unity (offset_limit g)) = subst (λ (v : Float). T (le v (offset_limit g))) first_limit (limit_grows 0 g zero-le h) in
    let b : T (le (offset_limit g) unity) = trans (offset_limit g) (offset_limit 1000) unity (limit_grows g 1000 h (omega arith)) under_one in
    ap not (is_true (le minus_unity (offset_limit g) && le (offset_limit g) unity) (and_i (le minus_unity (offset_limit g)) (le (offset_limit g) unity) a b))

-- ---- the question's two answers
pub asked_refused : (g : ℕ) → 1000 < g → Refused 22 ≡ offset_asked g
unfolding offset_asked offset_refusal_of first_of answer_of unless
asked_refused g h = rw (lt-ltb 1000 g h, first_of)

pub asked_limit : (g : ℕ) → g ≤ 1000 → Accepted (0xbfd0_0000_0000_0000 + offset_root g) ≡ offset_asked g
unfolding offset_asked offset_refusal_of first_of answer_of unless
asked_limit g h = rw (le-ltb 1000 g h, first_of, limit_bits g h)

-- ---- an offset in the limit's place: what the answer stands for, and a NaN where it is a refusal
limit_none : (g : ℕ) → 1000 < g → of_bits binary64 0x7ff8_0000_0000_0000 ≡ limit_for g
unfolding limit_for of_bits
limit_none g h = rw (lt-ltb 1000 g h)

limit_there : (g : ℕ) → g ≤ 1000 → of_bits binary64 (0xbfd0_0000_0000_0000 + offset_root g) ≡ limit_for g
unfolding limit_for
limit_there g h = rw (le-ltb 1000 g h) (pattern g h)

pub limit_of_answer : (g : ℕ) (r : Result ℕ Refusal) (v : Float) → answered r ≡ offset_asked g
    → MatchResult r (λ n. v ≡ of_bits binary64 n) (λ _. v ≡ of_bits binary64 0x7ff8_0000_0000_0000) → v ≡ limit_for g
limit_of_answer g r v a m = elim (dec_lt 1000 g) [
  | yes h ↦ above r (a ∙ sym (asked_refused g h)) m h
  | no h ↦ (let l : g ≤ 1000 = omega arith in within r (a ∙ sym (asked_limit g l)) m l)
]
  where
    above : (r : Result ℕ Refusal) → answered r ≡ Refused 22 → MatchResult r (λ n. v ≡ of_bits binary64 n) (λ _. v ≡ of_bits binary64 0x7ff8_0000_0000_0000) → 1000 < g → v ≡ limit_for g
    above (Ok n) e m h = cc
    above (Err k) e m h = m ∙ limit_none g h

    within : (r : Result ℕ Refusal) → answered r ≡ Accepted (0xbfd0_0000_0000_0000 + offset_root g) → MatchResult r (λ n. v ≡ of_bits binary64 n) (λ _. v ≡ of_bits binary64 0x7ff8_0000_0000_0000) → g ≤ 1000 → v ≡ limit_for g
    within (Ok n) e m h = (let i : n ≡ 0xbfd0_0000_0000_0000 + offset_root g = cc in m ∙ ap (of_bits binary64) i ∙ limit_there g h)
    within (Err k) e m h = cc

nan_bad : limit_bad nan ≡ true
unfolding limit_bad le
nan_bad = refl

-- such a limit is refused exactly where the offset is above 1,000
pub limit_bad_lem : (g : ℕ) → limit_bad (limit_for g) ≡ ltb 1000 g
unfolding limit_for
limit_bad_lem g = go (ltb 1000 g) refl
  where
    go : (t : Bool) → ltb 1000 g ≡ t → limit_bad (cond t nan (offset_limit g)) ≡ t
    go true e = nan_bad
    go false e = limit_good g (ltb-false 1000 g e)

-- up to 1,000 it is the offset's limit, and grows with it
pub limit_is : (g : ℕ) → g ≤ 1000 → limit_for g ≡ offset_limit g
unfolding limit_for
limit_is g h = rw (le-ltb 1000 g h)

pub limit_for_grows : (g h : ℕ) → g ≤ h → h ≤ 1000 → T (le (limit_for g) (limit_for h))
limit_for_grows g h l b = rw (limit_is g (le_trans l b), limit_is h b) (limit_grows g h l b)
