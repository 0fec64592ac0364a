-- Demand 3 of offsets: the pairs selected under one offset are the beginning of those selected under a greater one, between two calls by whichever routes.
use Prim.Native.Nat.{ℕ, zero, suc, ◌≤◌}
use mathlib.Core.Path.{◌≡◌, refl, sym, ap, ◌∙◌}
use mathlib.Core.Bool.{Bool, true}
use mathlib.Core.List.{List}
use native.Mathlib.Omega.{arith}
use borrow.Author.Tests.{ltb-false}
use lib.ListN.{length}
use lib.Ieee.{Float, le}
use lib.Ieee.Bits.{is_true}
use Rattle.rules.specs.Answers.{Answer}
use Rattle.rules.specs.Answers.{Accepted}
use Rattle.rules.specs.Refusals.{LentEnds, limit_bad, pair_refusal_of}
use Rattle.rules.specs.Calls.{unless, answer_of, pairs_of, Paired}
use Rattle.rules.specs.Offset.{limit_for, ends_for, pair_offset_refusal_of, PairedOffset}
use Rattle.float_offset.proofs.Limits.{limit_bad_lem, limit_for_grows}
use Rattle.pair_laws.specs.Demand.{Begins}
use Rattle.pair_laws.proofs.Refusals.{admitted}
use Rattle.pair_laws.proofs.Calls.{demand_three}
use Rattle.offset_calls.proofs.Numbers.{accepted_before}
use Rattle.offset_calls.proofs.Ladders.{pair_renumbered}
use Rattle.offset_calls.proofs.Calls.{paired_limited}

-- a call that answers with a result was not refused
not_refused : (refusal result n : ℕ) → answer_of refusal result ≡ Accepted n → refusal ≡ 0
unfolding answer_of unless
not_refused zero result n e = refl
not_refused (suc k) result n e = (let z : ◌≡◌ {A = ℕ} 0 1 = cc in absurd (omega arith))

-- an accepted call with an offset: it is up to 1,000, and the call is the one with its limit
module _ (alone : Bool) (g : ℕ) (i : LentEnds) (limited : i.limit ≡ limit_for g) {r : Answer} {n : ℕ} {pairs workspace : List ℕ}
    (p : PairedOffset alone g i r pairs workspace)
    (accepted : r ≡ Accepted n) where
  none : pair_offset_refusal_of alone g i ≡ 0
  none = not_refused (pair_offset_refusal_of alone g i) (length (pairs_of i)) n (sym p.answer ∙ accepted)

  none_before : pair_refusal_of alone i ≡ 0
  none_before = accepted_before 1 (pair_refusal_of alone i) (sym (pair_renumbered g alone i limited) ∙ none)

  pub in_range : g ≤ 1000
  in_range = ltb-false 1000 g (sym (ap limit_bad limited ∙ limit_bad_lem g) ∙ (admitted alone i none_before).limited)

  pub with_limit : Paired alone i r pairs workspace
  with_limit = paired_limited alone g i limited (none ∙ sym none_before) p

module _
    (alone₁ alone₂ : Bool)
    (present : List ℕ)
    (directions : List Float)
    (pieces : List ℕ)
    (g₁ g₂ : ℕ)
    (greater : g₁ ≤ g₂)
    (lent₁ lent₂ space₁ space₂ : List ℕ)
    (r₁ r₂ : Answer)
    (n₁ n₂ : ℕ)
    (pairs₁ pairs₂ workspace₁ workspace₂ : List ℕ)
    (p₁ : PairedOffset alone₁ g₁ (ends_for present directions pieces g₁ lent₁ space₁) r₁ pairs₁ workspace₁)
    (p₂ : PairedOffset alone₂ g₂ (ends_for present directions pieces g₂ lent₂ space₂) r₂ pairs₂ workspace₂)
    (accepted₁ : r₁ ≡ Accepted n₁)
    (accepted₂ : r₂ ≡ Accepted n₂) where
  pub demand_three_of_offsets : Begins (limit_for g₁) (pairs_of (ends_for present directions pieces g₂ lent₂ space₂)) n₁ n₂ pairs₁ pairs₂
  demand_three_of_offsets =
      let i₁ = ends_for present directions pieces g₁ lent₁ space₁ in
      let i₂ = ends_for present directions pieces g₂ lent₂ space₂ in
      let wider : le (limit_for g₁) (limit_for g₂) ≡ true = is_true _ (limit_for_grows g₁ g₂ greater (in_range alone₂ g₂ i₂ refl p₂ accepted₂)) in
      demand_three alone₁ alone₂ i₁ i₂ refl refl refl wider r₁ r₂ n₁ n₂ pairs₁ pairs₂ workspace₁ workspace₂
      (with_limit alone₁ g₁ i₁ refl p₁ accepted₁)
      (with_limit alone₂ g₂ i₂ refl p₂ accepted₂)
      accepted₁
      accepted₂
