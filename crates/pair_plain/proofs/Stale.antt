-- Why the turns end. A row is stale if the partner that it holds is marked. Each turn takes a pair, of which there are at most d, or makes a stale row one that isn't.
use Prim.Native.Nat.{ℕ, zero, suc, ◌+◌, ◌*◌, ◌-◌, ◌≤◌, ◌<◌}
use mathlib.Core.Path.{◌≡◌, refl, sym, ap, ap₂, ◌∙◌}
use mathlib.Core.Bool.{Bool, true, false, ◌&&◌, and-false}
use mathlib.Core.Logic.{◌⊎◌, inl, inr}
use mathlib.Core.List.{List}
use native.Mathlib.Omega.{arith}
use native.Mathlib.Nat.{add-mul}
use lib.Dec.{eqb, ltb}
use lib.Ieee.{Float}
use lib.ListN.{length, get_or}
use borrow.Author.Tests.{eqb-true, eqb-false, ltb-true, lt-ltb}
use Rattle.rules.specs.Lists.{one}
use Rattle.float_order.specs.Key.{key_nan}
use Rattle.pair_laws.specs.Ranked.{busy}
use Rattle.pair_laws.proofs.Order.{two, Three, three}
use Rattle.pair_laws.proofs.Greedy.{or_false_right}
use Rattle.pair_first_of_end.specs.declared.Held.{Held}
use Rattle.pair_first_of_end.specs.Row.{mark_at, used_in}
use Rattle.pair_first_of_end.proofs.Walk.{used_marked}
use Rattle.pair_ends.specs.Blocks.{marks_from, row_keys_from, partners_from, lows_from}
use Rattle.pair_plain.specs.Steps.{held_at, Renewed}
use Rattle.pair_plain.proofs.Frames.{used_same, renewed_long, renewed_other, renewed_row, renewed_rows}

-- how many numbers below d pass a test
tally : (ℕ → Bool) → ℕ → ℕ
tally f zero = 0
tally f (suc d) = one (f d) + tally f d

tally_le : (f : ℕ → Bool) (d : ℕ) → tally f d ≤ d
unfolding tally
tally_le f zero = omega arith
tally_le f (suc d) = go (f d) (tally_le f d)
  where
    go : (t : Bool) → tally f d ≤ d → one t + tally f d ≤ suc d
    go true h = omega arith
    go false h = omega arith

tally_same : (f g : ℕ → Bool) (d : ℕ) → ((x : ℕ) → x < d → g x ≡ f x) → tally g d ≡ tally f d
unfolding tally
tally_same f g zero h = refl
tally_same f g (suc d) h = ap₂ (λ (t : Bool) (k : ℕ). one t + k) (h d (omega arith)) (tally_same f g d (λ x k. h x (omega arith)))

-- one number fewer passes
tally_less : (f g : ℕ → Bool) (i d : ℕ) → i < d → f i ≡ true → g i ≡ false → ((x : ℕ) → x < d → (x ≡ i → ⊥) → g x ≡ f x) → tally g d < tally f d
unfolding tally
tally_less f g i zero h a b s = absurd (omega arith)
tally_less f g i (suc d) h a b s = go (three i d) (λ k. tally_less f g i d k a b (λ x q. s x (omega arith)))
  where
    go : Three i d → (i < d → tally g d < tally f d) → one (g d) + tally g d < one (f d) + tally f d
    go (inl k) ih = rw (s d (omega arith) (λ e. omega arith)) (omega (arith, ih k))
    go (inr (inl k)) ih =
        rw (ap g (sym k) ∙ b, ap f (sym k) ∙ a) (omega (arith, tally_same f g d (λ x q. s x (omega arith) (λ e. omega arith))))
    go (inr (inr k)) ih = absurd (omega arith)

pub stale_at : List ℕ → ℕ → ℕ → Bool
stale_at w d i = ltb (get_or w (d * row_keys_from + i) 0) key_nan && used_in w d (get_or w (d * partners_from + i) 0)

pub stale : List ℕ → ℕ → ℕ
stale w d = tally (stale_at w d) d

-- what a turn lessens
pub left_over : List ℕ → ℕ → ℕ → ℕ
left_over w d n = (d - n) * (d + 1) + stale w d

-- the same key, partner and marks
level : {k k' j j' : ℕ} {u u' : ℕ → Bool} → k' ≡ k → j' ≡ j → u' ≡ u → (ltb k' key_nan && u' j') ≡ (ltb k key_nan && u j)
level e f g = λ t. ltb (e t) key_nan && g t (f t)

pub stale_same : (w w' : List ℕ) (d : ℕ) → length w' ≡ length w → d * row_keys_from ≤ length w → ((x : ℕ) → x < d * lows_from → get_or w' x 0 ≡ get_or w x 0) → stale w' d ≡ stale w d
unfolding stale stale_at
stale_same w w' d long room same =
    tally_same (stale_at w d) (stale_at w' d) d
    (λ x h. level (same (d * row_keys_from + x) (omega arith)) (same (d * partners_from + x) (omega arith)) (used_same w w' long d room (λ e k. same (d * marks_from + e) (omega arith))))

pub take_less : (w w' : List ℕ) (d n : ℕ) → n < d → left_over w' d (n + 1) < left_over w d n
unfolding left_over stale
take_less w w' d n h =
    let e : d - n ≡ d - (n + 1) + 1 = omega arith in
    omega (arith, tally_le (stale_at w' d) d, ap (λ (k : ℕ). k * (d + 1)) e, add-mul (d - (n + 1)) 1 (d + 1))

module _ (w w' : List ℕ) (d : ℕ) (limit : Float) (i : ℕ) (room : d * lows_from ≤ length w) (i<d : i < d) (r : Renewed w d limit i w') where
  used : used_in w' d ≡ used_in w d
  used = used_same w w' (renewed_long w w' d limit i r) d (omega arith) (λ e h. renewed_other w w' d limit i r (d * marks_from + e) (λ q. omega arith) (λ q. omega arith))

  fresh : stale_at w' d i ≡ false
  unfolding stale_at busy
  fresh = level (ap (λ (p : Held). p.key) here) (ap (λ (p : Held). p.partner) here) used ∙ go (two (ltb r.held.key key_nan))
    where
      here : held_at w' d i ≡ r.held
      here = renewed_row w w' d limit i r room i<d

      met : r.held.key < key_nan → 0 < r.held.partner
      met h = some (two (eqb r.held.partner 0))
        where
          some : (eqb r.held.partner 0 ≡ true) ⊎ (eqb r.held.partner 0 ≡ false) → 0 < r.held.partner
          some (inl e) = absurd (omega (arith, r.first.none (eqb-true r.held.partner 0 e)))
          some (inr e) = omega (arith, eqb-false r.held.partner 0 e)

      go : (ltb r.held.key key_nan ≡ true) ⊎ (ltb r.held.key key_nan ≡ false) → (ltb r.held.key key_nan && used_in w d r.held.partner) ≡ false
      go (inl e) =
          ap (λ (t : Bool). ltb r.held.key key_nan && t)
          (or_false_right (used_in w d i) (used_in w d r.held.partner) (r.first.pair.free (met (ltb-true r.held.key key_nan e))))
          ∙ and-false (ltb r.held.key key_nan)
      go (inr e) = rw e

  -- a stale row was gone through
  pub renew_less : (w'' : List ℕ) (n : ℕ) → length w'' ≡ length w' → ((x : ℕ) → x < d * lows_from → get_or w'' x 0 ≡ get_or w' x 0)
      → get_or w (d * row_keys_from + i) 0 < key_nan → get_or w (d * partners_from + i) 0 < d → (mark_at w d (get_or w (d * partners_from + i) 0) ≡ 0 → ⊥) → left_over w'' d n < left_over w d n
  unfolding left_over stale stale_at
  renew_less w'' n long'' same k j m =
      omega (
        arith,
        stale_same w' w'' d long'' (omega (arith, renewed_long w w' d limit i r)) same,
        tally_less (stale_at w d) (stale_at w' d) i d i<d
            (rw (lt-ltb (get_or w (d * row_keys_from + i) 0) key_nan k) (used_marked w d (get_or w (d * partners_from + i) 0) j m))
            fresh
            (λ x h f. (let e = renewed_rows w w' d limit i r i<d x h f in level (ap (λ (p : Held). p.key) e) (ap (λ (p : Held). p.partner) e) used)),
      )
